-- A take's own rules, which look at what is carried beside the waves and at lengths, and so need no set-up.
use Rattle.std.specs.Prelude.{ℕ, ◌+◌, ◌*◌, ◌/◌, ◌≤◌, ◌≡◌, List, [], ◌∷◌}
use Rattle.circuit.specs.Numbers.{Rule, rule}
use Rattle.circuit.specs.Take.{sample_length, output_length, left_limit, take_limit, carried_rule, held_rule}
use Rattle.circuit.specs.declared.Carried.{Carried}

-- 12 at no row, and 15
unfoldable pub own_rules : List (Rule Carried)
own_rules = rule 12 carried_rule ∷ rule 15 held_rule ∷ []

-- bytes of the outputs, where n bytes come to those left over
abbrev pub room_for : ℕ → Carried → ℕ
room_for n c = output_length * ((c.count + n) / sample_length)

-- 12 and 15 do not apply, nor does 16 to n bytes and m of room
pub record Ready (n m : ℕ) (c : Carried) : Type 0 where
  pub count : c.count ≤ left_limit
  pub held : c.held ≡ 0
  pub samples : c.done ≤ take_limit
  pub room : m ≡ room_for n c
