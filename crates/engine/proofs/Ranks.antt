-- How many rows of a role stand before a row: it rises from one of them to the next, and takes every value below their number.
use Prim.Native.Nat.{ℕ, zero, suc, ◌+◌, ◌<◌, ◌≤◌}
use native.Mathlib.Nat.{le_step, le_refl}
use native.Mathlib.Decide.{dec_lt}
use native.Mathlib.Omega.{arith}
use borrow.Author.Tests.{eq-eqb, eqb-true}
use mathlib.Core.Path.{◌≡◌, refl, ap}
use mathlib.Core.Bool.{Bool, true, false}
use mathlib.Core.List.{List}
use lib.Dec.{eqb}
use Rattle.circuit.specs.Counting.{total, one}
use Rattle.circuit.specs.Record.{row_in}
use Rattle.circuit.specs.declared.Row.{Row}
use Rattle.laws.proofs.Counting as Counting
use Rattle.parts.specs.Parts.{role_of}
use Rattle.engine.specs.Plan.{rank}

one_most : (b : Bool) → one b ≤ 1
one_most true = omega arith
one_most false = omega arith

module _ (rows : List Row) (c : ℕ) where
  abbrev has : ℕ → Bool
  has j = eqb (role_of (row_in rows j).part) c

  pub rank_step : (i : ℕ) → rank rows c (i + 1) ≡ rank rows c i + one (has i)
  unfolding rank
  rank_step i = Counting.total_step (λ j. one (has j)) i

  pub rank_below : (i : ℕ) → rank rows c i ≤ i
  unfolding rank total
  rank_below zero = omega arith
  rank_below (suc i) = omega (arith, rank_below i, one_most (has i))

  pub rank_rises : (i j : ℕ) → i < j → role_of (row_in rows i).part ≡ c → rank rows c i < rank rows c j
  unfolding rank total
  rank_rises i j l e = omega (arith, Counting.total_more (λ k. one (has k)) (suc i) j l, ap one (eq-eqb _ _ e))

  abbrev Ranked : ℕ → ℕ → Type 0
  Ranked n k = (i : ℕ) × (i < n) × (role_of (row_in rows i).part ≡ c) × (rank rows c i ≡ k)

  pub rank_at : (n k : ℕ) → k < rank rows c n → Ranked n k
  unfolding rank total
  rank_at zero k l = absurd (omega arith)
  rank_at (suc n) k l = elim (dec_lt k (rank rows c n)) [
    | yes h ↦ let w = rank_at n k h in (w.0, le_step w.1, w.2, w.3)
    | no h ↦ here h (has n) refl
  ]
    where
      here : (k < rank rows c n → ⊥) → (b : Bool) → has n ≡ b → Ranked (suc n) k
      here h true e = (n, le_refl (suc n), eqb-true _ _ e, omega (arith, ap one e))
      here h false e = absurd (omega (arith, ap one e))
