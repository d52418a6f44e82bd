-- Error bounds at work: sums, roundings, and one adaptor's mixture at a ratio of three quarters in 24 bits.
use Rattle.std.specs.Prelude.{refl, [], ◌∷◌, ℤ, pos, negsuc, ◌+ℤ◌, ◌*ℤ◌, ◌-ℤ◌, neg_ℤ}
use Rattle.std.proofs.Common.{arith}
use Rattle.whole.specs.Ring.{var, con, ◌⊗◌}
use Rattle.whole.specs.Mirror.{parts, frac_e, ◌⊕F◌, by}
use Rattle.whole.specs.Quotients.{floor_rounds, trunc_rounds}
use Rattle.whole.specs.Fraction.{Fraction, over, whole, ◌+F◌, neg_f, ◌-F◌, times, ◌≈◌}
use Rattle.whole.specs.Fractions.{sum_comm, ≈-refl}
use Rattle.whole.specs.Nearness.{Small, small_le, small_as, small_add, small_neg, small_times, NoFurther, no_further_neg, no_further_as, Near, gap_e, near_small, near_by, near_le, near_as, near_whole, near_rounds, near_neg, near_add, near_sub, near_apart, near_move, mixture, small_mix}

-- ---- small fractions

seven_halves_is_small : Small 4 (over (pos 7) 2 (omega arith))
seven_halves_is_small = record { small = record { bound = omega arith } }

part_of_a_difference : (p q : Fraction) → Small 1 p → Small 2 q → Small 3 (times (pos 3) 4 (omega arith) (p -F q))
part_of_a_difference p q h k = small_times (pos 3) 4 (omega arith) (record { bound = omega arith }) (small_add h (small_neg k))

other_way_round : (p q : Fraction) → Small 2 (p +F q) → Small 5 (q +F p)
other_way_round p q h = small_le (omega arith) (small_as (sum_comm p q) h)

opposite_held : (p q r : Fraction) → NoFurther p q → neg_f q ≈ r → NoFurther (neg_f p) r
opposite_held p q r h e = no_further_as (≈-refl (neg_f p)) e (no_further_neg h)

-- ---- whole numbers near fractions

-- −4 and −3 are both within one of −7/2
rounded_down_lem : Near 1 (negsuc 3) (over (negsuc 6) 2 (omega arith))
rounded_down_lem = near_rounds (omega arith) (floor_rounds (negsuc 6) 2 (omega arith))

rounded_toward_zero : Near 1 (negsuc 2) (over (negsuc 6) 2 (omega arith))
rounded_toward_zero = near_rounds (omega arith) (trunc_rounds (negsuc 6) 2 (omega arith))

three_waves : (a b c : ℤ) (p q : Fraction) → Near 1 a p → Near 2 b q → Near 3 (neg_ℤ (a +ℤ b) -ℤ c) (neg_f (p +F q) -F whole c)
three_waves a b c p q h k = near_sub (near_neg (near_add h k)) (near_whole c)

looser : (a : ℤ) (p q : Fraction) → Near 1 a p → p ≈ q → Near 4 a q
looser a p q h e = near_le (omega arith) (near_as e h)

through_another : (a : ℤ) (p q : Fraction) → Near 1 a p → Near 2 (pos 5) q → Small 3 (p -F q) → Near 4 a q × Small 2 (whole (pos 5) -F q)
through_another a p q h k s = (near_move h s, near_apart k)

-- by an identity: where a is near p, 2·a is near p + p
doubled : (a : ℤ) (p : Fraction) → Near 1 a p → Near 2 (pos 2 *ℤ a) (p +F p)
doubled a p h =
    near_by (small_add (near_small h) (near_small h))
    (by (parts (p ∷ []) (a ∷ [])) (gap_e (var 2) (frac_e 0) ⊕F gap_e (var 2) (frac_e 0)) (gap_e (con (pos 2) ⊗ var 2) (frac_e 0 ⊕F frac_e 0)) refl) (omega arith)

-- ---- fractions near fractions

-- ---- mixtures

three_quarters_small : (p q : Fraction) → Small 7 p → Small 7 q → Small 7 (mixture 3 4 (omega arith) p q)
three_quarters_small p q h k = small_mix 3 4 (omega arith) (omega arith) h k
