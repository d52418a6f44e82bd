-- How far a sample with any rounding strays, tree by tree. Going up, n adaptors stray by n at most, one for each. Coming down, a tree gets
-- back what it strayed by itself, and beside that two for each adaptor outside it and one for the diode; so a leaf, which strays by
-- nothing itself, gets a wave that strays by two for each adaptor and one.
use Prim.Native.Nat.{ℕ, zero, ◌+◌, ◌*◌, ◌<◌, ◌≤◌}
use native.Mathlib.Omega.{arith}
use mathlib.Core.Bool.{Bool, true, false, cond}
use lib.IntN.{ℤ}
use Rattle.whole.specs.Fraction.{Fraction}
use Rattle.whole.specs.Nearness.{Near, near_le, near_neg, near_add}
use Rattle.circuit.specs.Record.{Tree, leaf, adaptor}
use Rattle.circuit.specs.SetUp.{parts}
use Rattle.circuit.specs.Sample.{Arithmetic, Rounding, whole_waves, unrounded, holds, sends_up, sends_first, sends_second, up, reach}
use Rattle.circuit.specs.declared.Join.{Join}
use Rattle.circuit.specs.declared.Join.TheVariants.{Series, Parallel}
use Rattle.laws.specs.Accepted.{adaptors}
use Rattle.laws.proofs.Reflectance.{Echo, echo_leaf}
use Rattle.laws.proofs.Adaptors.{u_near, parallel_first, parallel_second, series_first, series_second}
use Rattle.theorems.specs.Rounding.{ErrsByOne}

-- as the definitions have it
abbrev pub parts_above_zero : zero < parts
parts_above_zero = omega arith

pub near_either : {E : ℕ} {a b : ℤ} {p q : Fraction} (first : Bool) → Near E a p → Near E b q → Near E (cond first a b) (cond first p q)
near_either true h k = h
near_either false h k = k

module _ {ρ : Rounding} (errs : ErrsByOne ρ) where
  abbrev 𝓡 : Arithmetic
  𝓡 = whole_waves ρ

  -- ---- one adaptor

  module _ (g : ℕ) (l : g ≤ parts) {a1 a2 : ℤ} {E1 E2 : ℕ} {p1 p2 : Fraction} (h1 : Near E1 a1 p1) (h2 : Near E2 a2 p2) where
    up_strays : (k : Join) → Near (E1 + E2 + 1) (sends_up 𝓡 k g a1 a2) (sends_up unrounded k g p1 p2)
    unfolding sends_up
    up_strays Series = near_le (omega arith) (near_neg (near_add h1 h2))
    up_strays Parallel = u_near g parts parts_above_zero l h1 h2 (errs.u g a1 a2)

    module _ {D : ℕ} {a3 : ℤ} {p3 : Fraction} where
      first_strays : (k : Join) → Echo D (sends_up 𝓡 k g a1 a2) (sends_up unrounded k g p1 p2) a3 p3
          → Echo (2 * E2 + 2 + D) a1 p1 (sends_first 𝓡 k g a1 a2 a3) (sends_first unrounded k g p1 p2 p3)
      unfolding sends_up sends_first
      first_strays Series back = series_first g parts parts_above_zero l h1 h2 back (errs.b1 g a1 a2 a3)
      first_strays Parallel back = parallel_first g parts parts_above_zero l h1 h2 (errs.u g a1 a2) back

      second_strays : (k : Join) → Echo D (sends_up 𝓡 k g a1 a2) (sends_up unrounded k g p1 p2) a3 p3
          → Echo (2 * E1 + 2 + D) a2 p2 (sends_second 𝓡 k g a1 a2 a3) (sends_second unrounded k g p1 p2 p3)
      unfolding sends_up sends_second
      second_strays Series back = series_second g parts parts_above_zero l h1 h2 back (errs.b1 g a1 a2 a3)
      second_strays Parallel back = parallel_second g parts parts_above_zero l h1 h2 (errs.u g a1 a2) back

  -- ---- a tree, whose leaves send exact waves

  module _ (g : ℕ → ℕ) (fair : (j : ℕ) → g j ≤ parts) (w : ℕ → ℤ) (v : ℕ → Fraction) (exact : (j : ℕ) → Near 0 (w j) (v j)) where
    pub up_near : (t : Tree) → Near (adaptors t) (up 𝓡 g w t) (up unrounded g v t)
    unfolding up adaptors
    up_near (leaf j) = exact j
    up_near (adaptor k j t1 t2) = near_le (omega arith) (up_strays (g j) (fair j) (up_near t1) (up_near t2) k)

    pub reach_near : (t : Tree) (j : ℕ) {D : ℕ} {a : ℤ} {p : Fraction} → Echo D (up 𝓡 g w t) (up unrounded g v t) a p
        → Near (2 * adaptors t + D) (reach 𝓡 g w t a j) (reach unrounded g v t p j)
    unfolding up reach adaptors
    reach_near (leaf i) j h = near_le (omega arith) (echo_leaf (exact i) h)
    reach_near (adaptor k i t1 t2) j h =
        let h1 = up_near t1 in
        let h2 = up_near t2 in
        near_either (holds t1 j)
        (near_le (omega arith) (reach_near t1 j (first_strays (g i) (fair i) h1 h2 k h)))
        (near_le (omega arith) (reach_near t2 j (second_strays (g i) (fair i) h1 h2 k h)))
