-- A number as a person types it: decimal digits, in ASCII, and nothing else.
use Rattle.std.specs.Prelude.{ℕ, ◌+◌, ◌-◌, ◌*◌, min, Bool, ◌&&◌, cond, List, ltb, length, fold, Option, Some, None}
use Rattle.std.specs.List.{list_all}
use Rattle.circuit.specs.Counting.{between}

-- the bytes of 0 to 9
abbrev pub is_digit : ℕ → Bool
is_digit b = between 48 57 b

-- what a digit stands for
abbrev pub digit_of : ℕ → ℕ
digit_of b = b - 48

abbrev pub are_digits : List ℕ → Bool
are_digits s = list_all is_digit s

-- what digits stand for
abbrev pub value : List ℕ → ℕ
value s = fold (λ n b. 10 * n + digit_of b) 0 s

abbrev pub is_numeral : List ℕ → Bool
is_numeral s = ltb 0 (length s) && are_digits s

-- a number above `most` counts as `most`
unfoldable pub numeral : List ℕ → ℕ → Option ℕ
numeral s most = cond (is_numeral s) (Some (min (value s) most)) None
