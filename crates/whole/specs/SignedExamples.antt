-- What a signed product, its quotient and a cast ask, at the widths of 32 and 64 bits.
use Rattle.std.specs.Prelude.{◌≡◌, ◌&&◌, ℕ, ◌^◌, ◌<◌, eqb, leb, ℤ, pos, negsuc, ◌+ℤ◌, ◌-ℤ◌, ◌*ℤ◌, nat_abs}
use Rattle.std.proofs.Common.{arith, SFits, Fits, to_z, of_z}
use Rattle.std.specs.Int.Signed.{le_z, shr_z, quot_z}
use Rattle.std.specs.Int.{w8, w32, w64}
use Rattle.std.proofs.lemmas.Int.{to_z-of_z}
use Rattle.whole.specs.Integers.{at, ◌⊞◌}
use Rattle.whole.specs.Order.{Abs}
use Rattle.whole.specs.Signed.{fits_abs, scaled_fits, shr_fits, trunc_fits, to_z-narrow, to_z-u32, returned, within_test, zero_test}
use Rattle.whole.specs.Signed.{wide, wide_same, apart_same, signed, zfits}

-- g·t of 24 and 38 bits, and its quotient by 2^24 either way
ratio_of_a_wave : (g : ℕ) (t : ℤ) → g < 2 ^ 24 → nat_abs t < 2 ^ 38 → SFits w64 (shr_z (pos g *ℤ t) (2 ^ 24)) × SFits w64 (quot_z (pos g *ℤ t) (pos (2 ^ 24)))
ratio_of_a_wave g t h k =
    let f : SFits w64 (pos g *ℤ t) = scaled_fits 24 38 g t h k (omega arith) in
    (shr_fits (2 ^ 24) f, trunc_fits (2 ^ 24) f)

-- a sum of two numbers of 32 bits has 33
sum_of_two : (a b : ℤ) → SFits w32 a → SFits w32 b → SFits w64 (a +ℤ b)
sum_of_two a b h k = omega (zfits, at a ⊞ at b)

by_its_bound : (z : ℤ) → nat_abs z < 100 → SFits w8 z
by_its_bound z h = fits_abs z (omega arith)

written_and_read : (z : ℤ) → Abs z 1000 → to_z w32 (of_z w32 z) ≡ z
written_and_read z h = to_z-of_z w32 z (omega zfits)

byte_as_i32 : (n : ℕ) → Fits w8 n → to_z w32 n ≡ pos n
byte_as_i32 n h = to_z-narrow w32 n h (omega arith)

u32_as_i64 : (n : ℕ) → Fits w32 n → to_z w64 n ≡ pos n
u32_as_i64 n h = to_z-u32 n h

i32_as_i64 : (z : ℤ) → Abs z 1000 → wide z ≡ z
i32_as_i64 z h = wide_same (omega zfits)

-- of two numbers of 32 bits, in 64
exact_difference : (a b : ℤ) → SFits w32 a → SFits w32 b → to_z w64 (of_z w64 (wide b -ℤ wide a)) ≡ b -ℤ a
exact_difference a b h k = apart_same h k

handed_back_lem : (z : ℤ) → SFits w64 z → to_z w64 (of_z w64 z) ≡ z
handed_back_lem z h = returned z h.sfits

found_by_search : (z : ℤ) → SFits w64 z → SFits w64 (shr_z (quot_z z (pos 3)) (2 ^ 24))
found_by_search z h = search signed

hundred_either_way : (z : ℤ) → le_z (negsuc 99) z && le_z z (pos 100) ≡ leb (nat_abs z) 100
hundred_either_way z = within_test 99 z

nothing_but_zero : (z : ℤ) → Abs z 5 → eqb (of_z w32 z) 0 ≡ eqb (nat_abs z) 0
nothing_but_zero z h = zero_test z (omega zfits)
