-- Waves in their limit, as code reads them back: they fit 64 bits, as do their opposites, sums and differences.
use Prim.Native.Nat.{ℕ, ◌*◌, ◌^◌, ◌<◌}
use native.Mathlib.Omega.{arith}
use mathlib.Core.Path.{◌≡◌, ap₂, ◌∙◌}
use mathlib.Core.Bool.{true}
use borrow.Author.Tests.{leb-true, le-leb}
use lib.IntN.{ℤ, pos, nat_abs, neg_ℤ, ◌+ℤ◌, ◌-ℤ◌, +ℤ_idl}
use mir.Syntax.{w64}
use mir.Val.{SFits, to_z, of_z}
use mir.Facts.{to_z-of_z}
use Rattle.whole.specs.Integers.{at, ◌⊞◌, ◌⊟◌}
use Rattle.whole.specs.Order.{zarith, Abs, abs_neg}
use Rattle.whole.specs.Signed.{zfits, fits_abs}
use Rattle.circuit.specs.Counting.{within}
use Rattle.circuit.specs.Curve.{wave_limit}

pub within_abs : (m : ℕ) (z : ℤ) → within m z ≡ true → Abs z m
within_abs m z e = record { bound = leb-true (nat_abs z) m e }

pub abs_within : (m : ℕ) (z : ℤ) → Abs z m → within m z ≡ true
abs_within m z h = le-leb (nat_abs z) m h.bound

pub abs_fits : {z : ℤ} {e : ℕ} → Abs z e → e < 2 ^ 63 → SFits w64 z
abs_fits {z} h l = fits_abs z (omega (arith, h.bound))

-- ---- one wave

module _ {z : ℤ} (h : Abs z wave_limit) where
  pub limit_reads : to_z w64 (of_z w64 z) ≡ z
  limit_reads = to_z-of_z (abs_fits h (omega arith))

  opposite_is : pos 0 -ℤ to_z w64 (of_z w64 z) ≡ neg_ℤ z
  opposite_is = rw limit_reads (+ℤ_idl (neg_ℤ z))

  pub opposite_fits : SFits w64 (pos 0 -ℤ to_z w64 (of_z w64 z))
  opposite_fits = rw opposite_is (abs_fits (abs_neg h) (omega arith))

  pub opposite_reads : to_z w64 (of_z w64 (pos 0 -ℤ to_z w64 (of_z w64 z))) ≡ neg_ℤ z
  opposite_reads = to_z-of_z opposite_fits ∙ opposite_is

-- ---- two waves

module _ {x y : ℤ} (h : Abs x wave_limit) (k : Abs y wave_limit) where
  pub difference_range : Abs (x -ℤ y) (2 * wave_limit)
  difference_range = omega (zarith, at x ⊟ at y)

  pub sum_range : Abs (x +ℤ y) (2 * wave_limit)
  sum_range = omega (zarith, at x ⊞ at y)

  pub sum_fits : SFits w64 (to_z w64 (of_z w64 x) +ℤ to_z w64 (of_z w64 y))
  sum_fits = rw (limit_reads h, limit_reads k) (omega (zfits, at x ⊞ at y))

  pub sum_reads : to_z w64 (of_z w64 (to_z w64 (of_z w64 x) +ℤ to_z w64 (of_z w64 y))) ≡ x +ℤ y
  sum_reads = to_z-of_z sum_fits ∙ ap₂ ◌+ℤ◌ (limit_reads h) (limit_reads k)
