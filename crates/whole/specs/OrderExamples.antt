-- Uses of `zarith`, of `Abs` and of the tests: each sum or product of a goal has its entry beside the ruleset.
use Rattle.std.specs.Prelude.{◌≡◌, refl, Bool, true, false, cond, ℕ, ◌+◌, ◌*◌, ◌^◌, ◌≤◌, ℤ, pos, ◌+ℤ◌, ◌*ℤ◌, ◌-ℤ◌, neg_ℤ, nat_abs, ◌≤ℤ◌, ◌<ℤ◌}
use Rattle.std.proofs.Common.{◌∙◌, ap, inl, inr, arith}
use Rattle.std.specs.Int.Signed.{le_z, lt_z}
use Rattle.whole.specs.Integers.{at, is_neg, ◌⊞◌, ◌⊟◌}
use Rattle.whole.specs.Order.{zarith, Abs, abs_parts, nat_abs-neg, nat_abs_mul, abs_add, abs_neg, abs_mul, abs_scale, abs_as, le_scale, lt_scale, le_cancel, lt_cancel, eq_cancel, le_or_lt, lt_z-true, lt_z-false, le_z-true, le_z-false, true-lt_z, false-lt_z, true-le_z, false-le_z}

next_is_no_higher : (p q r : ℤ) → p ≤ℤ q → q <ℤ r → (p +ℤ pos 1) ≤ℤ r
next_is_no_higher p q r h k = omega (zarith, at p ⊞ at (pos 1))

two_orders_make_an_equation : (p q : ℤ) → p ≤ℤ q → q ≤ℤ p → p ≡ q
two_orders_make_an_equation p q h k = omega zarith

opposites_turn_round : (x y : ℤ) → x <ℤ y → neg_ℤ y <ℤ neg_ℤ x
opposites_turn_round x y h = omega (zarith, is_neg (at x), is_neg (at y))

less_half_a_turn : (a : ℤ) → a ≤ℤ pos (2 ^ 24) → (a -ℤ pos (2 ^ 23)) ≤ℤ pos (2 ^ 23)
less_half_a_turn a h = omega (zarith, at a ⊟ at (pos (2 ^ 23)))

-- a bound on the absolute value is two orders
between : (x : ℤ) (a : ℕ) → Abs x a → (x ≤ℤ pos a) × (neg_ℤ (pos a) ≤ℤ x)
between x a h = omega (zarith, is_neg (at (pos a)))

bounded : (x : ℤ) (a : ℕ) → x ≤ℤ pos a → neg_ℤ (pos a) ≤ℤ x → Abs x a
bounded x a h k = omega (zarith, is_neg (at (pos a)))

sum_of_eight : (a b c d e f g h : ℤ) (n : ℕ) → Abs a n → Abs b n → Abs c n → Abs d n → Abs e n → Abs f n → Abs g n → Abs h n
    → Abs (a +ℤ b -ℤ c +ℤ d -ℤ e +ℤ f -ℤ g +ℤ h) (8 * n)
sum_of_eight a b c d e f g h n ha hb hc hd he hf hg hh = omega (zarith, at a ⊞ at b ⊟ at c ⊞ at d ⊟ at e ⊞ at f ⊟ at g ⊞ at h)

-- bare `nat_abs` wants `abs_parts` at each place: good for two, slow for eight
sum-by-nat_abs : (x y : ℤ) (a b : ℕ) → nat_abs x ≤ a → nat_abs y ≤ b → nat_abs (x +ℤ y) ≤ a + b
sum-by-nat_abs x y a b h k = omega (arith, at x ⊞ at y, abs_parts x, abs_parts y, abs_parts (x +ℤ y))

weighted_difference : (x y : ℤ) (a b : ℕ) → Abs x a → Abs y b → Abs (x *ℤ pos 3 +ℤ neg_ℤ y) (3 * a + b)
weighted_difference x y a b h k = abs_as (abs_add (abs_scale h 3) (abs_neg k)) refl (omega arith)

area : (x y : ℤ) (a b : ℕ) → Abs x a → Abs y b → Abs (x *ℤ y) (a * b + 1)
area x y a b h k = abs_as (abs_mul h k) refl (omega arith)

size_of_a_product : (x y : ℤ) → nat_abs (neg_ℤ x *ℤ y) ≡ nat_abs x * nat_abs y
size_of_a_product x y = nat_abs_mul (neg_ℤ x) y ∙ ap (λ (n : ℕ). n * nat_abs y) (nat_abs-neg x)

thirds_compare : (x y : ℤ) → (x ≤ℤ y → (x *ℤ pos 3) ≤ℤ (y *ℤ pos 3)) × (x <ℤ y → (x *ℤ pos 3) <ℤ (y *ℤ pos 3))
thirds_compare x y = (λ h. le_scale 3 h, λ h. lt_scale 3 (omega arith) h)

thirds_cancel : (x y : ℤ) → ((x *ℤ pos 3) ≤ℤ (y *ℤ pos 3) → x ≤ℤ y) × ((x *ℤ pos 3) <ℤ (y *ℤ pos 3) → x <ℤ y) × (x *ℤ pos 3 ≡ y *ℤ pos 3 → x ≡ y)
thirds_cancel x y = (λ h. le_cancel 3 (omega arith) h, λ h. lt_cancel 3 h, λ h. eq_cancel 3 (omega arith) h)

an_upper_bound : (x y : ℤ) → (m : ℤ) × (x ≤ℤ m) × (y ≤ℤ m)
an_upper_bound x y = elim (le_or_lt x y) [ inl h ↦ (y, h, omega zarith) | inr h ↦ (x, omega zarith, omega zarith) ]

lesser : ℤ → ℤ → ℤ
lesser x y = cond (lt_z x y) x y

lesser_is_no_higher : (x y : ℤ) → (lesser x y ≤ℤ x) × (lesser x y ≤ℤ y)
unfolding lesser
lesser_is_no_higher x y = choose (lt_z x y) refl
  where
    choose : (c : Bool) → lt_z x y ≡ c → (cond c x y ≤ℤ x) × (cond c x y ≤ℤ y)
    choose true e = omega (zarith, lt_z-true x y e)
    choose false e = omega (zarith, lt_z-false x y e)

at_most_is_not_above : (x y : ℤ) → le_z x y ≡ true → lt_z y x ≡ false
at_most_is_not_above x y e = false-lt_z (le_z-true x y e)

not_at_most_is_above : (x y : ℤ) → le_z x y ≡ false → lt_z y x ≡ true
not_at_most_is_above x y e = true-lt_z (le_z-false x y e)

ends_of_an_order : (x y : ℤ) → x ≤ℤ y → (le_z x y ≡ true) × (le_z (y +ℤ pos 1) x ≡ false)
ends_of_an_order x y h =
    let above : x <ℤ (y +ℤ pos 1) = omega (zarith, at y ⊞ at (pos 1)) in
    (true-le_z h, false-le_z above)
