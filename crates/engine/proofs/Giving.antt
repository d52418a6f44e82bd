-- Giving out slots, row by row: the rows below i have theirs, and `next` holds the next slot of each role.
use Prim.Native.Nat.{ℕ, zero, suc, ◌+◌, ◌*◌, ◌<◌, ◌≤◌}
use native.Mathlib.Decide.{ℕ_discrete}
use native.Mathlib.Omega.{arith}
use borrow.Author.Count.{below_none}
use borrow.Author.Tests.{eq-eqb, ne_eqb}
use mathlib.Core.Path.{◌≡◌, refl, sym, ap, ◌∙◌}
use mathlib.Core.List.{List, [], ◌∷◌}
use lib.ListN.{length, get_or, set, length-set}
use lib.Seq.{get_or-set_same, get_or-set_other}
use Rattle.circuit.specs.Counting.{total, one}
use Rattle.circuit.specs.Record.{row_limit, row_in}
use Rattle.circuit.specs.declared.Row.{Row}
use Rattle.parts.specs.Parts.{role_of}
use Rattle.engine.specs.Plan.{floor, rank, base, slot_in}
use Rattle.engine.proofs.Fill.{filled_more}
use Rattle.engine.proofs.Ranks.{rank_step, rank_below}
use Rattle.engine.proofs.Roles.{role}

pub record Given (rows : List Row) (count i : ℕ) (slots next : List ℕ) : Type 0 where
  pub long : length slots ≡ row_limit
  pub roles : length next ≡ 5
  pub past : (j : ℕ) → j < i → get_or slots j 0 ≡ slot_in rows count j
  pub ready : (c : ℕ) → c < 5 → get_or next c 0 ≡ base rows count c + rank rows c i

module _ (rows : List Row) (count : ℕ) where
  base_most : count ≤ row_limit → (c : ℕ) → base rows count c ≤ row_limit
  unfolding base
  base_most l zero = omega arith
  base_most l (suc zero) = omega (arith, rank_below rows 0 count)
  base_most l (suc (suc zero)) = omega arith
  base_most l (suc (suc (suc c))) = omega arith

  -- the first slot of each role
  abbrev starts : ℕ → List ℕ
  starts q = 0 ∷ q ∷ floor ∷ suc floor ∷ suc floor ∷ []

  begun : (q : ℕ) → q ≡ rank rows 0 count → (c : ℕ) → c < 5 → get_or (starts q) c 0 ≡ base rows count c + rank rows c 0
  unfolding base rank total
  begun q e zero l = refl
  begun q e (suc zero) l = omega arith
  begun q e (suc (suc zero)) l = refl
  begun q e (suc (suc (suc zero))) l = refl
  begun q e (suc (suc (suc (suc zero)))) l = refl
  begun q e (suc (suc (suc (suc (suc c))))) l = absurd (omega arith)

  pub given_start : {q : ℕ} {slots : List ℕ} → q ≡ rank rows 0 count → length slots ≡ row_limit → Given rows count 0 slots (starts q)
  given_start {q} e long = record { long = long; roles = refl; past = below_none _; ready = begun q e }

  -- row i has role c
  module _ {i c : ℕ} {slots next : List ℕ} (given : Given rows count i slots next) (l : i < row_limit) (is : c ≡ role_of (row_in rows i).part) where
    few : c < 5
    few = rw is (role (row_in rows i).part).few

    pub next_small : count ≤ row_limit → get_or next c 0 < 2 * row_limit
    next_small short = omega (arith, given.ready c few, base_most short c, rank_below rows c i)

    pub given_more : Given rows count (i + 1) (set slots i (get_or next c 0)) (set next c (get_or next c 0 + 1))
    unfolding slot_in
    given_more = record {
      long = length-set slots i (get_or next c 0) ∙ given.long;
      roles = length-set next c (get_or next c 0 + 1) ∙ given.roles;
      past = filled_more (λ j s. s ≡ slot_in rows count j) 0 slots i (get_or next c 0) (omega (arith, given.long)) given.past
          (given.ready c few ∙ ap (λ d. base rows count d + rank rows d i) is);
      ready = λ d h. elim (ℕ_discrete d c) [
        | yes e ↦ rw e (get_or-set_same next c (get_or next c 0 + 1) 0 (omega (arith, few, given.roles))
            ∙ omega (arith, given.ready c few, rank_step rows c i, ap one (eq-eqb (role_of (row_in rows i).part) c (sym is))))
        | no f ↦ get_or-set_other next c d (get_or next c 0 + 1) 0 f
            ∙ omega (arith, given.ready d h, rank_step rows d i, ap one (ne_eqb (role_of (row_in rows i).part) d (λ e. f (sym e ∙ sym is))))
      ];
    }
