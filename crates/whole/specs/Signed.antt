-- What signed code asks: that a result fits its width (`SFits`), and that bits read back as the number they were written for.
-- The rules are over any width, but for those of a cast or a call, which name theirs. `signed` is for `search`; `zfits` is `zarith` with the
-- ranges of the signed widths, for `omega`.
use Rattle.std.specs.Prelude.{◌≡◌, refl, Bool, true, false, ◌&&◌, ℕ, suc, ◌+◌, ◌-◌, ◌/◌, ◌^◌, ◌<◌, ◌≤◌, min, max, eqb, leb, ℤ, pos, negsuc, ◌-ℤ◌, ◌*ℤ◌, nat_abs}
use Rattle.std.proofs.Common.{sym, ◌∙◌, arith, mul-le-mul, div-le_self, lt_of_lt_of_le, ne_eqb, pow-add, pow_mono, to_z-of_z}
use Rattle.std.proofs.Math.Dec.{eqb-suc-zero, leb-suc-suc}
use Rattle.std.specs.Int.Signed.{mag, le_z, shr_z, quot_z, mag_shr}
use Rattle.std.specs.Int.{Width, w32, w64}
use mir.Val.{SFits, Fits, bits, hbits, to_z, of_z}
use mir.ValLaws.{to_z_pos, sfits_le, Fits-sub}
use Rattle.std.proofs.Math.Facts.{sfits_widen}
use Rattle.whole.specs.Integers.{P, N, at, is_neg, ◌⊟◌}
use Rattle.whole.specs.Order.{zarith, nat_abs_mul}

pub fits_abs : {w : Width} (z : ℤ) → nat_abs z < 2 ^ hbits w → SFits w z
fits_abs (pos n) h = record { sfits = h }
fits_abs (negsuc n) h = record { sfits = omega arith }

-- a product of numbers of k and of m bits
pub scaled_fits : {w : Width} (k m g : ℕ) (t : ℤ) → g < 2 ^ k → nat_abs t < 2 ^ m → k + m ≤ hbits w → SFits w (pos g *ℤ t)
scaled_fits {w} k m g t h l s =
    let e : nat_abs (pos g *ℤ t) < 2 ^ (k + m) = omega (arith, nat_abs_mul (pos g) t, mul-le-mul h l, pow-add 2 k m) in
    fits_abs (pos g *ℤ t) (lt_of_lt_of_le e (pow_mono s))

-- a quotient rounded down fits where its dividend does, whatever the divisor
pub shr_fits : {w : Width} {z : ℤ} (m : ℕ) → SFits w z → SFits w (shr_z z m)
shr_fits {z = z} m h = sfits_le {z = z} (mag_shr z m) h

-- an unsigned number of fewer bits is read back as itself
pub to_z-narrow : {v : Width} (w : Width) (n : ℕ) → Fits v n → bits v ≤ hbits w → to_z w n ≡ pos n
to_z-narrow w n h l = to_z_pos w n (lt_of_lt_of_le h.fits (pow_mono l))

-- as a rewrite rule it has to name its widths: a u32 cast to an i64
pub to_z-u32 : (n : ℕ) → Fits w32 n → to_z w64 n ≡ pos n
to_z-u32 n h = to_z-narrow w64 n h (omega arith)

-- what a call hands back, as it is read
pub returned : (z : ℤ) → mag z < 2 ^ 63 → to_z w64 (of_z w64 z) ≡ z
returned z h = to_z-of_z {w = w64} (record { sfits = h })

-- "of magnitude up to" is two comparisons
pub within_test : (m : ℕ) (z : ℤ) → le_z (negsuc m) z && le_z z (pos (suc m)) ≡ leb (nat_abs z) (suc m)
within_test m (pos n) = refl
within_test m (negsuc n) = and_true (leb n m) ∙ sym (leb-suc-suc n m)
  where
    and_true : (a : Bool) → a && true ≡ a
    and_true true = refl
    and_true false = refl

-- the bits are 0 only where the number is
pub zero_test : (z : ℤ) → SFits w32 z → eqb (of_z w32 z) 0 ≡ eqb (nat_abs z) 0
zero_test (pos n) h = refl
zero_test (negsuc n) h = ne_eqb (2 ^ 32 - suc n) 0 (λ e. omega (arith, h.sfits)) ∙ sym (eqb-suc-zero n)

-- ---- for `omega`

pub sfits_in : {w : Width} {z : ℤ} → SFits w z → max (suc (P z)) (N z) ≤ 2 ^ hbits w
sfits_in {z = pos n} h = omega arith
sfits_in {z = negsuc n} h = omega arith

pub sfits_out : {w : Width} {z : ℤ} → max (suc (P z)) (N z) ≤ 2 ^ hbits w + min (P z) (N z) → SFits w z
sfits_out {z = pos n} h = record { sfits = omega arith }
sfits_out {z = negsuc n} h = record { sfits = omega arith }

pub ruleset zfits = (zarith, sfits_in, sfits_out)

-- a quotient rounded toward zero fits too, whatever the divisor
pub trunc_fits : {w : Width} {z : ℤ} (m : ℕ) → SFits w z → SFits w (quot_z z (pos m))
trunc_fits {z = pos a} m h = omega (zfits, div-le_self a m)
trunc_fits {z = negsuc a} m h = omega (zfits, is_neg (at (pos (suc a / m))), div-le_self (suc a) m)

-- ---- an i32 cast to an i64: it fits and keeps its number, and the difference of two is exact

-- as code reads it
abbrev pub wide : ℤ → ℤ
wide z = to_z w64 (of_z w64 (to_z w32 (of_z w32 z)))

pub widened : {z : ℤ} → SFits w32 z → SFits w64 (to_z w32 (of_z w32 z))
widened f = rw (to_z-of_z f) (sfits_widen tt f)

pub wide_same : {z : ℤ} → SFits w32 z → wide z ≡ z
wide_same f = to_z-of_z (widened f) ∙ to_z-of_z f

pub apart_fits : {a b : ℤ} → SFits w32 a → SFits w32 b → SFits w64 (wide b -ℤ wide a)
apart_fits {a} {b} h k = rw (wide_same h, wide_same k) (omega (zfits, at b ⊟ at a))

pub apart_same : {a b : ℤ} → SFits w32 a → SFits w32 b → to_z w64 (of_z w64 (wide b -ℤ wide a)) ≡ b -ℤ a
apart_same h k = to_z-of_z (apart_fits h k) ∙ rw (wide_same h, wide_same k)

-- ---- for `search`

pub ruleset signed = (to_z-u32, shr_fits, trunc_fits, Fits-sub)
