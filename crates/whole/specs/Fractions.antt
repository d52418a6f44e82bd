-- Laws of fractions: `◌≈◌` is an equality that every operation keeps, the operations obey the laws of numbers up to it, and
-- `◌≤F◌` is a total order on the numbers that the operations keep or turn round.
use Rattle.std.specs.Prelude.{◌≡◌, refl, true, false, [], ◌∷◌, ◌⊎◌, ℕ, zero, ◌*◌, ◌<◌, ℤ, pos, negsuc, ◌+ℤ◌, ◌*ℤ◌, ◌≤ℤ◌, ◌<ℤ◌}
use Rattle.std.proofs.Common.{sym, inl, inr}
use Rattle.std.specs.Int.Signed.{≤ℤ_refl}
use Rattle.whole.specs.Integers.{at, ◌⊠◌}
use Rattle.whole.specs.Order.{zarith, le_cancel, lt_scale, lt_cancel, eq_cancel, le_or_lt, lt_z-true, lt_z-false}
use Rattle.whole.specs.Ring.{var, con, ◌⊕◌, ◌⊗◌, ◌⊝◌, ring}
use Rattle.whole.specs.Combine.{multiple, combine}
use Rattle.whole.specs.Certificate.{nn_pos, nn_add, nn_mul, nn_diff, nlin}
use Rattle.whole.specs.Mirror.{parts, frac_e, whole_e, ◌⊕F◌, ⊖F, ◌⊝F◌, times_e, by, by_facts, by_certificate}
use Rattle.whole.specs.Fraction.{Fraction, whole, ◌+F◌, neg_f, ◌-F◌, times, below, ◌≈◌, ◌≤F◌}

-- ---- the same number

pub ≈-refl : (p : Fraction) → p ≈ p
≈-refl p = record { same = refl }

pub ≈-sym : {p q : Fraction} → p ≈ q → q ≈ p
≈-sym h = record { same = sym h.same }

pub ≈-trans : {p q r : Fraction} → p ≈ q → q ≈ r → p ≈ r
≈-trans {p} {q} {r} h k =
    let n = var 0 in let d = var 1 in let m = var 2 in let e = var 3 in let l = var 4 in let f = var 5 in
    record {
      same = eq_cancel q.den q.den_pos
          (combine (parts (p ∷ q ∷ r ∷ []) []) (multiple f (n ⊗ e) (m ⊗ d) ∷ multiple d (m ⊗ f) (l ⊗ e) ∷ [])
          (n ⊗ f ⊗ e) (l ⊗ d ⊗ e) (h.same, (k.same, tt)) refl);
    }

pub ≈-neg : {p q : Fraction} → p ≈ q → neg_f p ≈ neg_f q
≈-neg {p} {q} h =
    record {
      same = by_facts (parts (p ∷ q ∷ []) []) (multiple (con (negsuc 0)) (var 0 ⊗ var 3) (var 2 ⊗ var 1) ∷ [])
          (⊖F (frac_e 0)) (⊖F (frac_e 1)) (h.same, tt) refl;
    }

pub ≈-add : {p q r s : Fraction} → p ≈ q → r ≈ s → p +F r ≈ q +F s
≈-add {p} {q} {r} {s} h k =
    let d = var 1 in let e = var 3 in let f = var 5 in let g = var 7 in
    record {
      same = by_facts (parts (p ∷ q ∷ r ∷ s ∷ []) []) (multiple (f ⊗ g) (var 0 ⊗ e) (var 2 ⊗ d) ∷ multiple (d ⊗ e) (var 4 ⊗ g) (var 6 ⊗ f) ∷ [])
          (frac_e 0 ⊕F frac_e 2) (frac_e 1 ⊕F frac_e 3) (h.same, (k.same, tt)) refl;
    }

pub ≈-sub : {p q r s : Fraction} → p ≈ q → r ≈ s → p -F r ≈ q -F s
≈-sub h k = ≈-add h (≈-neg k)

pub ≈-times : (c : ℤ) (k : ℕ) (k0 : zero < k) {p q : Fraction} → p ≈ q → times c k k0 p ≈ times c k k0 q
≈-times c k k0 {p} {q} h =
    let C = var 4 in let K = var 5 in
    record {
      same = by_facts (parts (p ∷ q ∷ []) (c ∷ pos k ∷ [])) (multiple (C ⊗ K) (var 0 ⊗ var 3) (var 2 ⊗ var 1) ∷ [])
          (times_e C K (frac_e 0)) (times_e C K (frac_e 1)) (h.same, tt) refl;
    }

-- ---- sums, differences, opposites, products by a ratio

pub sum_comm : (p q : Fraction) → p +F q ≈ q +F p
sum_comm p q = record { same = by (parts (p ∷ q ∷ []) []) (frac_e 0 ⊕F frac_e 1) (frac_e 1 ⊕F frac_e 0) refl }

pub sum_zero : (p : Fraction) → p +F whole (pos 0) ≈ p
sum_zero p = record { same = by (parts (p ∷ []) []) (frac_e 0 ⊕F whole_e (con (pos 0))) (frac_e 0) refl }

pub opposite_sum : (p q : Fraction) → neg_f (p +F q) ≈ neg_f p +F neg_f q
opposite_sum p q = record { same = by (parts (p ∷ q ∷ []) []) (⊖F (frac_e 0 ⊕F frac_e 1)) (⊖F (frac_e 0) ⊕F ⊖F (frac_e 1)) refl }

pub opposite_difference : (p q : Fraction) → neg_f (p -F q) ≈ q -F p
opposite_difference p q = record { same = by (parts (p ∷ q ∷ []) []) (⊖F (frac_e 0 ⊝F frac_e 1)) (frac_e 1 ⊝F frac_e 0) refl }

pub whole_sum : (a b : ℤ) → whole a +F whole b ≈ whole (a +ℤ b)
whole_sum a b = record { same = by (a ∷ b ∷ []) (whole_e (var 0) ⊕F whole_e (var 1)) (whole_e (var 0 ⊕ var 1)) refl }

-- ---- the order

pub ≤F-refl : (p : Fraction) → p ≤F p
≤F-refl p = record { le = ≤ℤ_refl (p.num *ℤ pos p.den) }

pub ≈-≤F : {p q : Fraction} → p ≈ q → p ≤F q
≈-≤F {p} {q} h = let x = p.num *ℤ pos q.den in let y = q.num *ℤ pos p.den in let e : x ≡ y = h.same in record { le = omega zarith }

pub ≤F-total : (p q : Fraction) → (p ≤F q) ⊎ (q ≤F p)
≤F-total p q =
    elim (le_or_lt (p.num *ℤ pos q.den) (q.num *ℤ pos p.den)) [ inl h ↦ inl (record { le = h }) | inr h ↦ inr (record { le = omega zarith }) ]

pub ≤F-trans : {p q r : Fraction} → p ≤F q → q ≤F r → p ≤F r
≤F-trans {p} {q} {r} h k =
    let n = var 0 in let d = var 1 in let m = var 2 in let e = var 3 in let l = var 4 in let f = var 5 in
    record {
      le = le_cancel q.den q.den_pos
          (nlin (parts (p ∷ q ∷ r ∷ []) []) (n ⊗ f ⊗ e) (l ⊗ d ⊗ e) ((m ⊗ d ⊝ n ⊗ e) ⊗ f ⊕ (l ⊗ e ⊝ m ⊗ f) ⊗ d)
          (nn_add (nn_mul (nn_diff h.le) (nn_pos r.den)) (nn_mul (nn_diff k.le) (nn_pos p.den))) refl);
    }

pub ≤F-neg : {p q : Fraction} → p ≤F q → neg_f q ≤F neg_f p
≤F-neg {p} {q} h =
    record { le = by_certificate (parts (p ∷ q ∷ []) []) (⊖F (frac_e 1)) (⊖F (frac_e 0)) (var 2 ⊗ var 1 ⊝ var 0 ⊗ var 3) (nn_diff h.le) refl }

pub ≤F-add : {p q r s : Fraction} → p ≤F q → r ≤F s → p +F r ≤F q +F s
≤F-add {p} {q} {r} {s} h k =
    let d = var 1 in let e = var 3 in let f = var 5 in let g = var 7 in
    record {
      le = by_certificate (parts (p ∷ q ∷ r ∷ s ∷ []) []) (frac_e 0 ⊕F frac_e 2) (frac_e 1 ⊕F frac_e 3)
          ((var 2 ⊗ d ⊝ var 0 ⊗ e) ⊗ (f ⊗ g) ⊕ (var 6 ⊗ f ⊝ var 4 ⊗ g) ⊗ (d ⊗ e))
          (nn_add (nn_mul (nn_diff h.le) (nn_pos (r.den * s.den))) (nn_mul (nn_diff k.le) (nn_pos (p.den * q.den)))) refl;
    }

-- a ratio that is not negative keeps the order
pub ≤F-times : (c k : ℕ) (k0 : zero < k) {p q : Fraction} → p ≤F q → times (pos c) k k0 p ≤F times (pos c) k k0 q
≤F-times c k k0 {p} {q} h =
    let C = var 4 in let K = var 5 in
    record {
      le = by_certificate (parts (p ∷ q ∷ []) (pos c ∷ pos k ∷ [])) (times_e C K (frac_e 0)) (times_e C K (frac_e 1))
          ((var 2 ⊗ var 1 ⊝ var 0 ⊗ var 3) ⊗ (C ⊗ K)) (nn_mul (nn_diff h.le) (nn_pos (c * k))) refl;
    }

-- ---- the test `below`

pub below_true : (p : Fraction) (z : ℤ) → below p z ≡ true → p ≤F whole z
below_true p z h =
    let n = p.num in
    let y = z *ℤ pos p.den in
    let l : n <ℤ y = lt_z-true n y h in
    record { le = omega (zarith, at n ⊠ at (pos 1)) }

pub below_false : (p : Fraction) (z : ℤ) → below p z ≡ false → whole z ≤F p
below_false p z h =
    let n = p.num in
    let y = z *ℤ pos p.den in
    let l : y ≤ℤ n = lt_z-false n y h in
    record { le = omega (zarith, at n ⊠ at (pos 1)) }

less_as : {p q : Fraction} (z : ℤ) → p ≈ q → p.num <ℤ (z *ℤ pos p.den) → q.num <ℤ (z *ℤ pos q.den)
less_as {p} {q} z h l =
    let x = p.num *ℤ pos q.den in
    let y = z *ℤ pos p.den *ℤ pos q.den in
    let x' = q.num *ℤ pos p.den in
    let y' = z *ℤ pos q.den *ℤ pos p.den in
    let scaled : x <ℤ y = lt_scale q.den q.den_pos l in
    let e : x ≡ x' = h.same in
    let f : y ≡ y' = ring (z ∷ pos p.den ∷ pos q.den ∷ []) (var 0 ⊗ var 1 ⊗ var 2) (var 0 ⊗ var 2 ⊗ var 1) refl in
    let less : x' <ℤ y' = omega zarith in
    lt_cancel p.den less
