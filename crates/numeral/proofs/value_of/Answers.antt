-- A number that was held at `most` before a digit is held there after it.
use Rattle.std.proofs.Common.{◌≡◌, ℕ, ◌+◌, ◌*◌, min, List, [], ◌∷◌, fold, ◌∙◌, rules, arith}
use Rattle.numeral.specs.Numeral.{digit_of}
use Rattle.numeral.proofs.value_of.Goals as goal

module _ (most : ℕ) where
  abbrev capped : ℕ → ℕ → ℕ
  capped n b = min (10 * n + digit_of b) most

  held : (s : List ℕ) (n m : ℕ) → m ≡ min n most → fold capped m s ≡ min (fold (λ n b. 10 * n + digit_of b) n s) most
  held [] n m e = e
  held (b ∷ s) n m e = held s (10 * n + digit_of b) (capped m b) (omega arith)

pub returns : goal.returns
returns c =
    let a = c.args in
    let all : c.fold.result ≡ fold (capped a.most) 0 a.digits.now = search rules in
    all ∙ held a.most a.digits.now 0 0 (omega arith)
