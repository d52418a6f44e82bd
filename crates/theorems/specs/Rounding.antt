-- What a bound on a sample's errors asks of the rounding, of the diode's answer and of the curve.
use Rattle.std.specs.Prelude.{ℕ, ℤ}
use Rattle.whole.specs.Fraction.{Fraction, whole, ◌-F◌}
use Rattle.whole.specs.Nearness.{NoFurther, Near}
use Rattle.circuit.specs.Sample.{Rounding, unrounded}

-- at the same whole waves, both that an adaptor rounds are within one of the unrounded value
pub record ErrsByOne (ρ : Rounding) : Type 0 where
  pub u : (g : ℕ) (a1 a2 : ℤ) → Near 1 (ρ.u g a1 a2) (unrounded.u g (whole a1) (whole a2))
  pub b1 : (g : ℕ) (a1 a2 a3 : ℤ) → Near 1 (ρ.b1 g a1 a2 a3) (unrounded.b1 g (whole a1) (whole a2) (whole a3))

-- at a whole wave, the answer is within one of the curve
pub record Follows (answer : ℤ → ℤ) (curve : Fraction → Fraction) : Type 0 where
  pub near : (a : ℤ) → Near 1 (answer a) (curve (whole a))

-- the curve moves no further than its input
pub record Gently (curve : Fraction → Fraction) : Type 0 where
  pub moves : (p q : Fraction) → NoFurther (curve p -F curve q) (p -F q)
