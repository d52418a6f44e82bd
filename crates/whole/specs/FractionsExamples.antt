-- Fractions at small numbers, and uses of their laws and of their mirror for the ring solver.
use Rattle.std.specs.Prelude.{◌≡◌, refl, true, false, [], ◌∷◌, zero, ◌<◌, pos}
use Rattle.std.proofs.Common.{inl, inr, arith, mul-pos}
use Rattle.std.specs.Int.Signed.{le_z_yes}
use Rattle.whole.specs.Ring.{var, con, ◌⊗◌}
use Rattle.whole.specs.Combine.{multiple}
use Rattle.whole.specs.Mirror.{parts, frac_e, ◌⊕F◌, times_e, by, by_facts}
use Rattle.whole.specs.Fraction.{Fraction, over, whole, ◌+F◌, neg_f, ◌-F◌, times, below, ◌≈◌, ◌≤F◌}
use Rattle.whole.specs.Fractions.{≈-refl, ≈-trans, ≈-neg, ≈-sub, sum_comm, opposite_difference, whole_sum, ≤F-refl, ≤F-total, ≤F-neg, ≤F-add, ≤F-times, below_true, below_false}

two : zero < 2
two = omega arith

three : zero < 3
three = omega arith

half : Fraction
half = over (pos 1) 2 two

third : Fraction
third = over (pos 1) 3 three

-- at numbers the cross products compute
half_and_third : half +F third ≈ over (pos 5) 6 (omega arith)
unfolding half third
half_and_third = record { same = refl }

third_is_less : third ≤F half
unfolding half third
third_is_less = record { le = le_z_yes tt }

half_is_below_one : below half (pos 1) ≡ true
unfolding half
half_is_below_one = refl

-- ---- by the laws

swapped : (p q r : Fraction) → p +F q +F r ≈ r +F (p +F q)
swapped p q r = sum_comm (p +F q) r

opposite_of_a_difference : (p q r : Fraction) → p ≈ r → neg_f (p -F q) ≈ q -F r
opposite_of_a_difference p q r h = ≈-trans (≈-neg (≈-sub h (≈-refl q))) (opposite_difference r q)

three_and_four : whole (pos 3) +F whole (pos 4) ≈ whole (pos 7)
three_and_four = whole_sum (pos 3) (pos 4)

-- ---- the order

greater_of_two : (p q : Fraction) → (m : Fraction) × (p ≤F m) × (q ≤F m)
greater_of_two p q = elim (≤F-total p q) [ inl h ↦ (q, h, ≤F-refl q) | inr h ↦ (p, ≤F-refl p, h) ]

differences_turn_round : (p q r : Fraction) → p ≤F q → r -F q ≤F r -F p
differences_turn_round p q r h = ≤F-add (≤F-refl r) (≤F-neg h)

halves_compare : (p q : Fraction) → p ≤F q → times (pos 1) 2 two p ≤F times (pos 1) 2 two q
halves_compare p q h = ≤F-times 1 2 two h

-- ---- the test

below_one_is_at_most_one : (p : Fraction) → below p (pos 1) ≡ true → p ≤F whole (pos 1)
below_one_is_at_most_one p h = below_true p (pos 1) h

not_below_one_is_at_least_one : (p : Fraction) → below p (pos 1) ≡ false → whole (pos 1) ≤F p
not_below_one_is_at_least_one p h = below_false p (pos 1) h

-- ---- by the mirror

mean_with_a_mean : (p q : Fraction) → times (pos 1) 2 two (p +F times (pos 1) 2 two (p +F q)) ≈ times (pos 1) 2 two p +F times (pos 1) 4 (mul-pos two two) (p +F q)
mean_with_a_mean p q =
    let half = times_e (con (pos 1)) (con (pos 2)) in
    let quarter = times_e (con (pos 1)) (con (pos 4)) in
    record { same = by (parts (p ∷ q ∷ []) []) (half (frac_e 0 ⊕F half (frac_e 0 ⊕F frac_e 1))) (half (frac_e 0) ⊕F quarter (frac_e 0 ⊕F frac_e 1)) refl }

doubled : (p q : Fraction) → p ≈ q → p +F p ≈ times (pos 2) 1 (omega arith) q
doubled p q h =
    record {
      same = by_facts (parts (p ∷ q ∷ []) []) (multiple (con (pos 2) ⊗ var 1) (var 0 ⊗ var 3) (var 2 ⊗ var 1) ∷ [])
          (frac_e 0 ⊕F frac_e 0) (times_e (con (pos 2)) (con (pos 1)) (frac_e 1)) (h.same, tt) refl;
    }
