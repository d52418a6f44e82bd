-- What `array::from_fn` makes: where no call changes the closure, the table of what it gives.
use Prim.Native.Nat.{ℕ, zero, suc, ◌+◌, ◌<◌, ◌≤◌}
use native.Mathlib.Decide.{ℕ_discrete}
use native.Mathlib.Omega.{arith}
use mathlib.Core.Path.{◌≡◌, ◌∙◌, subst}
use mathlib.Core.List.{List}
use lib.ListN.{get_or}
use denote.Param.Members.{Mut, Called}
use Rattle.std.specs.Array.{IsFromFnResult, IsFromFnResultFrom}
use Rattle.circuit.specs.Counting.{table}
use Rattle.laws.proofs.Counting.{is_table}

module _ {F B : Type 0} (g : Mut F (ℕ × Unit {0}) B) (f : F) (make : ℕ → B) (top : ℕ)
    (h : (i : ℕ) (y : B) (q : F) → i < top → Called g f (i, tt) y q → (y ≡ make i) × (q ≡ f)) where
  made_from : (ys : List B) (z : B) (n i : ℕ) → i + n ≤ top → IsFromFnResultFrom g f ys i n → (j : ℕ) → i ≤ j → j < i + n → get_or ys j z ≡ make j
  made_from ys z zero i l each j a b = absurd (omega arith)
  made_from ys z (suc n) i l each j a b =
      let one = h i each.1 each.0 (omega arith) each.3 in
      by one.0 (made_from ys z n (i + 1) (omega arith) (subst (λ p. IsFromFnResultFrom g p ys (i + 1) n) one.1 each.4) j) (ℕ_discrete j i)
    where
      by : each.1 ≡ make i → (i + 1 ≤ j → j < i + 1 + n → get_or ys j z ≡ make j) → Dec (j ≡ i) → get_or ys j z ≡ make j
      by e later (yes same) = rw same (each.2.1 z ∙ e)
      by e later (no other) = later (omega arith) (omega arith)

  pub made : (ys : List B) (z : B) → IsFromFnResult g f ys top → ys ≡ table make top
  made ys z h = is_table make ys top z h.long (λ j l. made_from ys z top 0 (omega arith) h.each j (omega arith) (omega arith))
