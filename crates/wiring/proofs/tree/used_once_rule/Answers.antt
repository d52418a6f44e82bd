-- What is found is the lowest row at fault: the uses are counted up to two, and only one is right.
use Rattle.std.proofs.Common.{◌≡◌, ℕ, ◌-◌, ◌<◌, ◌≤◌, min, refl, sym, ap, ◌∙◌, Bool, true, false, not, List, eqb, get_or, arith, rules}
use borrow.Author.Tests.{eqb-true, eqb-false, ne_eqb}
use Rattle.circuit.specs.Numbers.{lowest, told}
use Rattle.circuit.specs.Record.{row_limit, used_once_rule}
use Rattle.laws.specs.Numbered.{numbered}
use Rattle.laws.proofs.Counting.{lowest_same}
use Rattle.laws.proofs.Ranges.{found, none}
use Rattle.wiring.proofs.tree.used_once_rule.Goals as goal

one_of : (n : ℕ) → eqb (min 2 n) 1 ≡ eqb n 1
one_of n = by (eqb n 1) refl
  where
    by : (b : Bool) → eqb n 1 ≡ b → eqb (min 2 n) 1 ≡ eqb n 1
    by true e = rw (eqb-true n 1 e) refl
    by false e = let other = eqb-false n 1 e in ne_eqb (min 2 n) 1 (λ q. other (omega arith)) ∙ sym e

-- what a search of the uses below `last` tells of the rows, of which row k is a child `often k` times
same : (uses : List ℕ) (often : ℕ → ℕ) (count last : ℕ) → count ≤ row_limit → last ≡ count - 1
    → ((k : ℕ) → k < row_limit → get_or uses k 0 ≡ min 2 (often k))
    → numbered 6 (lowest (λ k. not (eqb (get_or uses k 0) 1)) last) ≡ numbered 6 (lowest (λ k. not (eqb (often k) 1)) (count - 1))
same uses often count last short e told =
    rw e (ap (numbered 6) (lowest_same _ _ (count - 1) (λ k l. ap (λ n. not (eqb n 1)) (told k (omega arith)) ∙ ap not (one_of (often k)))))

pub returns-in-Some : goal.returns-in-Some
unfolding told used_once_rule
returns-in-Some c =
    found (λ k. not (eqb (get_or c.uses-uses.result k 0) 1)) 6 _ c.find.ensures.ran (λ k b q h. search rules) c.in-Some.is
    ∙ same _ _ _ _ c.requires c.saturating_sub.ensures c.uses-uses.ensures

pub returns-in-None : goal.returns-in-None
unfolding used_once_rule
returns-in-None c =
    none (λ k. not (eqb (get_or c.uses-uses.result k 0) 1)) 6 _ c.find.ensures.ran (λ k b q h. search rules) c.in-None.is
    ∙ same _ _ _ _ c.requires c.saturating_sub.ensures c.uses-uses.ensures
