-- The two quotients at numbers that show how they differ: 7 and −7 by 2, and 100 and −100 by 2^24.
use Rattle.std.specs.Prelude.{◌≡◌, refl, ◌^◌, ℤ, pos, negsuc, ◌+ℤ◌, ◌*ℤ◌, ◌-ℤ◌, neg_ℤ, ◌≤ℤ◌, ◌<ℤ◌}
use Rattle.std.proofs.Common.{arith}
use Rattle.std.specs.Int.Signed.{shr_z, quot_z, le_z_yes, lt_z_yes}
use Rattle.whole.specs.Order.{Abs}
use Rattle.whole.specs.Quotients.{Rounds, rounds_abs, rounds_neg, rounds_add, rounds_exact, rounds_bound, floor_low, floor_high, floor_rounds, floor_greatest, floor_least, floor_unique, trunc_odd, trunc_rounds}

-- −7 / 2 is −4 rounded down and −3 rounded toward zero
minus_seven_halves : (shr_z (negsuc 6) 2 ≡ negsuc 3) × (quot_z (negsuc 6) (pos 2) ≡ negsuc 2)
minus_seven_halves = (refl, refl)

-- and both round it
both_round : Rounds (negsuc 3) (negsuc 6) 2 × Rounds (negsuc 2) (negsuc 6) 2
both_round = (floor_rounds (negsuc 6) 2 (omega arith), trunc_rounds (negsuc 6) 2 (omega arith))

-- −8 ≤ −7 < −6
down_two_sides : ((negsuc 3 *ℤ pos 2) ≤ℤ negsuc 6) × (negsuc 6 <ℤ (negsuc 3 *ℤ pos 2 +ℤ pos 2))
down_two_sides = (floor_low (negsuc 6) 2 (omega arith), floor_high (negsuc 6) 2 (omega arith))

down_is_the_greatest : (q : ℤ) → (q *ℤ pos 2) ≤ℤ negsuc 6 → q ≤ℤ negsuc 3
down_is_the_greatest q h = floor_greatest q (negsuc 6) 2 (omega arith) h

down_is_the_least : (q : ℤ) → negsuc 6 <ℤ (q *ℤ pos 2 +ℤ pos 2) → negsuc 3 ≤ℤ q
down_is_the_least q h = floor_least q (negsuc 6) 2 (omega arith) h

found_by_its_sides : negsuc 3 ≡ shr_z (negsuc 6) 2
found_by_its_sides = floor_unique (negsuc 3) (negsuc 6) 2 (omega arith) (le_z_yes tt) (lt_z_yes tt)

any_rounding_of_a_multiple : (r : ℤ) → Rounds r (pos 5 *ℤ pos 3) 3 → r ≡ pos 5
any_rounding_of_a_multiple r h = rounds_exact (pos 5) h

toward_zero_is_odd : (z : ℤ) → quot_z (neg_ℤ z) (pos 2) ≡ neg_ℤ (quot_z z (pos 2))
toward_zero_is_odd z = trunc_odd z 2

-- a number of 26 bits by 2^24 has two bits, however it is rounded
two_bits : (z : ℤ) → Abs z (2 ^ 26) → Abs (shr_z z (2 ^ 24)) 4 × Abs (quot_z z (pos (2 ^ 24))) 4
two_bits z h = (rounds_bound (floor_rounds z (2 ^ 24) (omega arith)) h, rounds_bound (trunc_rounds z (2 ^ 24) (omega arith)) h)

rounding_error : (z : ℤ) → Abs (shr_z z (2 ^ 24) *ℤ pos (2 ^ 24) -ℤ z) (2 ^ 24)
rounding_error z = rounds_abs (floor_rounds z (2 ^ 24) (omega arith))

rounded_up : (z : ℤ) → Rounds (neg_ℤ (shr_z (neg_ℤ z) 2)) (neg_ℤ (neg_ℤ z)) 2
rounded_up z = rounds_neg (floor_rounds (neg_ℤ z) 2 (omega arith))

added_after_or_before : (a z : ℤ) → Rounds (a +ℤ shr_z z 2) (a *ℤ pos 2 +ℤ z) 2
added_after_or_before a z = rounds_add a (floor_rounds z 2 (omega arith))
