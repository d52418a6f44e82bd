-- The rounding of version 2 as a program works it out: a wave and a part of a sum, in parts of 2^24, divided once.
use Prim.Native.Nat.{ℕ}
use mathlib.Core.Path.{◌≡◌, refl, ap}
use mathlib.Core.List.{[], ◌∷◌}
use lib.IntN.{ℤ, pos, ◌+ℤ◌, ◌-ℤ◌, ◌*ℤ◌, neg_ℤ}
use lib.Signed.{quot_z}
use Rattle.whole.specs.Ring.{Exp, var, con, ◌⊕◌, ◌⊗◌, ◌⊝◌, ⊖, ring}
use Rattle.circuit.specs.SetUp.{parts}
use Rattle.circuit.specs.Curve.{toward_zero}
use Rattle.circuit.specs.Sample.{rounded_to_zero}

-- a + g·t / 2^24, rounded toward zero
abbrev pub mixed : ℕ → ℤ → ℤ → ℤ
mixed g a t = quot_z (pos parts *ℤ a +ℤ pos g *ℤ t) (pos parts)

-- in a sum of fractions each numerator is multiplied by the other's denominator, and that of a whole number is 1
abbrev by1 : Exp → Exp
by1 e = e ⊗ con (pos 1)

module _ (g : ℕ) (a1 a2 : ℤ) where
  pub u_to_zero : rounded_to_zero.u g a1 a2 ≡ mixed g a2 (a1 -ℤ a2)
  unfolding toward_zero
  u_to_zero =
      let G = var 0 in let K = var 1 in let A1 = var 2 in let A2 = var 3 in
      ap (λ z. quot_z z (pos parts))
      (ring (pos g ∷ pos parts ∷ a1 ∷ a2 ∷ []) (A2 ⊗ K ⊕ by1 (G ⊗ (by1 A1 ⊕ by1 (⊖ A2)))) (K ⊗ A2 ⊕ G ⊗ (A1 ⊝ A2)) refl)

  pub b1_to_zero : (a3 : ℤ) → rounded_to_zero.b1 g a1 a2 a3 ≡ mixed g a1 (neg_ℤ (a1 +ℤ a2 +ℤ a3))
  unfolding toward_zero
  b1_to_zero a3 =
      let G = var 0 in let K = var 1 in let A1 = var 2 in let A2 = var 3 in let A3 = var 4 in
      ap (λ z. quot_z z (pos parts))
      (ring (pos g ∷ pos parts ∷ a1 ∷ a2 ∷ a3 ∷ []) (A1 ⊗ K ⊕ by1 (⊖ (G ⊗ (by1 (by1 A1 ⊕ by1 A2) ⊕ by1 A3))))
      (K ⊗ A1 ⊕ G ⊗ ⊖ (A1 ⊕ A2 ⊕ A3)) refl)
