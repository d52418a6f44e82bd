-- A quotient in parts of 2^k, over the width k. A binary64 value times 2^k in binary64, its fraction cut off, is the exact value times 2^k rounded
-- down, as far as that is below 2^k, for every k up to 63: below one only the exponent grows, so the product is exact; from one on the product
-- is 2^k or more, since rounding keeps the order.
use Rattle.std.proofs.Common.{◌≡◌, ℕ, zero, suc, ◌+◌, ◌-◌, ◌*◌, ◌/◌, ◌%◌, ◌^◌, ◌<◌, ◌≤◌, min, Bool, true, false, cond, ◌&&◌, T, eqb, ltb, leb, ◌⊎◌, ℤ, pos, negsuc, sym, refl, ap, ◌∙◌, ap₂, inl, inr, true≢false, le_trans, le_of_eq, lt_of_lt_of_le, mul-le-mul_right, zero-lt-suc, mul_assoc, mul_comm, div-lt_iff_lt-mul, one-mul, le-div_iff_mul-le, zero-mul, mul-one, not-le_of_lt, arith, lit<, lit≤, eqb→eq, ltb→lt, lt→ltb, leb→le, pow_pos, pow_mono, pow-add, shl_lt, ltb-false, ltb-true, le-ltb, lt-ltb}
use native.Mathlib.Nat.{zero-div}
use native.Mathlib.Decide.{dec_lt}
use mathlib.Core.Bool.{and-eq-true_iff}
use lib.Pow.{pow-lt}
use lib.Ieee.{Float, nan, inf, fin, binary64, prec, emax, low, up, down, odd, units, round, mul, lt, le, fits, to_unsigned}
use lib.Ieee.Fits.{down_pos, and_l, and_r, round_is}
use lib.Ieee.Digits.{back}
use lib.Ieee.Exact.{HasValue, round_exact}
use lib.Ieee.Nearest.{div_same}
use lib.Ieee.Order.{round_mono}
use lib.Ieee.Positive.{above_of_le, positive_of_value, own_value, values_of_le}
use Rattle.circuit.specs.SetUp.{scaled_down}
use Rattle.measure.specs.Ratio.{proper}
use Rattle.laws.proofs.Tests.{zero64, lt_zero}

-- ---- proper parts

pub proper_below : (n g : ℕ) → g < n → g ≡ proper n g
proper_below n g h = rw (lt-ltb g n h)

pub proper_past : (n g : ℕ) → (g ≡ 0) ⊎ (n ≤ g) → 0 ≡ proper n g
proper_past n g (inl e) = none (ltb g n)
  where
    none : (b : Bool) → 0 ≡ cond b g 0
    none true = sym e
    none false = refl
proper_past n g (inr h) = rw (le-ltb g n h)

-- ---- the whole part of a value

-- of a / c
whole_part : (x : Float) (a c : ℕ) → 0 < c → HasValue x false a c → scaled_down 1 x ≡ a / c
unfolding scaled_down
whole_part nan a c C h = absurd h
whole_part (inf s) a c C h = absurd h
whole_part (fin true m e) a c C h = absurd (true≢false h.0)
whole_part (fin false m e) a c C h = div_same (m * up e * 1) (down e) a c (down_pos e) C (ap (λ (n : ℕ). n * c) (mul-one (m * up e)) ∙ h.1)

-- what is below zero has none, whatever it is rounded to
negative : (q k : ℕ) → scaled_down 1 (units binary64 true q k) ≡ 0
unfolding scaled_down units odd
negative q k = by q (ltb (q * 2 ^ k) (2 ^ (low binary64 + suc (emax binary64))))
  where
    by : (q : ℕ) (b : Bool) → scaled_down 1 (cond b (odd (suc (prec binary64)) true q k (low binary64)) (inf true)) ≡ 0
    by zero true = refl
    by (suc q) true = refl
    by q false = refl

none_negative : (num den : ℕ) → scaled_down 1 (round binary64 true num den) ≡ 0
none_negative num den = ap (scaled_down 1) (round_is binary64 true num den) ∙ negative _ _

-- what is no lower than a is infinite, or has a whole part no lower than a
reaches : (y x : Float) (a : ℕ) → 0 < a → HasValue y false a 1 → T (le y x) → (scaled_down 1 x ≡ 0) ⊎ (a ≤ scaled_down 1 x)
unfolding scaled_down
reaches y nan a A v h = inl refl
reaches y (inf s) a A v h = inl refl
reaches y (fin true m e) a A v h = inl refl
reaches y (fin false m e) a A v h =
    let p = positive_of_value y a 1 v A in
    let q = above_of_le y (fin false m e) p h in
    inr ((le-div_iff_mul-le (down_pos e)).1 (values_of_le y (fin false m e) a 1 (m * up e) (down e) p q v (own_value (fin false m e) q) h))

-- ---- the product by 2^k

-- what binary64 holds
small : (m : ℕ) (e : ℤ) → T (fits binary64 (fin false m e)) → (m < 2 ^ 53) × (down e ≤ 2 ^ 1074)
unfolding fits
small zero (pos e) t = (lit< tt, lit≤ tt)
small zero (negsuc e) t = (lit< tt, le_trans (le_of_eq (sym (one-mul (2 ^ suc e)) ∙ eqb→eq (1 * 2 ^ suc e) 1 t)) (lit≤ tt))
small (suc m) e t =
    let a : Bool = eqb (suc m % 2) 1 in
    let b : Bool = ltb (suc m) (2 ^ 53) in
    let c : Bool = leb (down e) (2 ^ 1074) in
    let d : Bool = ltb (suc m * up e) (2 ^ 1024 * down e) in
    let abc = and_l (a && b && c) d t in
    (ltb→lt (suc m) (2 ^ 53) (and_r a b (and_l (a && b) c abc)), leb→le (down e) (2 ^ 1074) (and_r (a && b) c abc))

exponent_le : (i j : ℕ) → 2 ^ i ≤ 2 ^ j → i ≤ j
exponent_le i j h = unless_above (λ (g : j < i). not-le_of_lt (pow-lt g) h)
  where
    unless_above : (j < i → ⊥) → i ≤ j
    unless_above f = omega (arith, f)

-- n / 2^i times 2^k
exact : (k n i : ℕ) → k ≤ 63 → n < 2 ^ 53 → i ≤ 1074 → HasValue (round binary64 false (n * 2 ^ k) (2 ^ i)) false (n * 2 ^ k) (2 ^ i)
exact k n i K narrow h =
    let j = k + 1074 - i in
    let split : 2 ^ j * 2 ^ i ≡ 2 ^ k * 2 ^ 1074 = sym (pow-add 2 j i) ∙ ap (λ (x : ℕ). 2 ^ x) (back (k + 1074) i (wide k i h)) ∙ pow-add 2 k 1074 in
    let same : n * 2 ^ k * 2 ^ 1074 ≡ n * 2 ^ j * 2 ^ i =
    mul_assoc n (2 ^ k) (2 ^ 1074) ∙ ap (λ (x : ℕ). n * x) (sym split) ∙ sym (mul_assoc n (2 ^ j) (2 ^ i)) in
    let room : n * 2 ^ j < 2 ^ (1074 + 1024) = lt_of_lt_of_le (shl_lt 53 j narrow) (pow_mono (short k i K)) in
    round_exact binary64 false (n * 2 ^ k) (2 ^ i) n j (pow_pos i) narrow room same
  where
    wide : (k i : ℕ) → i ≤ 1074 → i ≤ k + 1074
    wide k i h = omega arith

    short : (k i : ℕ) → k ≤ 63 → 53 + (k + 1074 - i) ≤ 1074 + 1024
    short k i h = omega arith

-- below one
below_one : (k m : ℕ) (e : ℤ) → k ≤ 63 → T (fits binary64 (fin false m e)) → m * up e < down e
    → HasValue (round binary64 false (m * up e * 2 ^ k) (down e)) false (m * up e * 2 ^ k) (down e)
below_one k m (pos e) K F l = exact k (m * 2 ^ e) 0 K (lt_of_lt_of_le l (lit≤ tt)) (lit≤ tt)
below_one k m (negsuc e) K F l =
    let s = small m (negsuc e) F in
    exact k (m * 1) (suc e) K (rw (mul-one m) s.0) (exponent_le (suc e) 1074 s.1)

-- from one on
from_one : (k n d : ℕ) → k ≤ 63 → 0 < d → d ≤ n
    → (scaled_down 1 (round binary64 false (n * 2 ^ k) d) ≡ 0) ⊎ (2 ^ k ≤ scaled_down 1 (round binary64 false (n * 2 ^ k) d))
from_one k n d K D l =
    let one = rw (one-mul (2 ^ k)) at (exact k 1 0 K (lit< tt) (lit≤ tt)) in
    let above : 2 ^ k * d ≤ n * 2 ^ k * 1 = rw (mul-one (n * 2 ^ k), mul_comm (2 ^ k) d) (mul-le-mul_right (2 ^ k) l) in
    reaches (round binary64 false (2 ^ k) 1) (round binary64 false (n * 2 ^ k) d) (2 ^ k) (pow_pos k) one
    (round_mono binary64 (2 ^ k) 1 (n * 2 ^ k) d (lit< tt) D above)

-- ---- the quotient in parts

pub in_parts : (k : ℕ) → k ≤ 63 → (q : Float) → T (fits binary64 q)
    → proper (2 ^ k) (scaled_down 1 (mul binary64 q (fin false 1 (pos k)))) ≡ proper (2 ^ k) (scaled_down (2 ^ k) q)
unfolding scaled_down mul
in_parts k K nan F = refl
in_parts k K (inf s) F = refl
in_parts k K (fin true m e) F = ap (proper (2 ^ k)) (none_negative (m * up e * (1 * 2 ^ k)) (down e * 1))
in_parts k K (fin false m e) F =
    ap (λ (x : Float). proper (2 ^ k) (scaled_down 1 x))
    (ap₂ (round binary64 false) (ap (λ (w : ℕ). m * up e * w) (one-mul (2 ^ k))) (mul-one (down e)))
    ∙ by (dec_lt (m * up e) (down e))
  where
    by : Dec (m * up e < down e)
        → proper (2 ^ k) (scaled_down 1 (round binary64 false (m * up e * 2 ^ k) (down e))) ≡ proper (2 ^ k) (m * up e * 2 ^ k / down e)
    by (yes l) =
        ap (proper (2 ^ k))
        (whole_part (round binary64 false (m * up e * 2 ^ k) (down e)) (m * up e * 2 ^ k) (down e) (down_pos e) (below_one k m e K F l))
    by (no l) =
        let one : down e ≤ m * up e = omega (arith, l) in
        let all : 2 ^ k ≤ m * up e * 2 ^ k / down e =
        (le-div_iff_mul-le (down_pos e)).1 (rw (mul_comm (2 ^ k) (down e)) (mul-le-mul_right (2 ^ k) one)) in
        sym (proper_past (2 ^ k) _ (from_one k (m * up e) (down e) K (down_pos e) one)) ∙ proper_past (2 ^ k) _ (inr all)

-- ---- the fraction cut off

-- a value below 2^k: the cut to a u64 has it in its range, and gives its whole part
pub record Truncates (k : ℕ) (x : Float) : Type 0 where
  pub above : T (lt (fin true 1 (pos 0)) x)
  pub below : T (lt x (fin false 1 (pos 64)))
  pub gives : to_unsigned 64 x ≡ scaled_down 1 x
  pub fewer : scaled_down 1 x < 2 ^ k

in_range_lem : (k m : ℕ) (e : ℤ) → k ≤ 63 → m * up e < 2 ^ k * down e → Truncates k (fin false m e)
unfolding lt to_unsigned scaled_down
in_range_lem k m e K l =
    let v : m * up e * 1 / down e ≡ m * up e / down e = ap (λ (n : ℕ). n / down e) (mul-one (m * up e)) in
    let w : m * up e / down e < 2 ^ k = (div-lt_iff_lt-mul (down_pos e)).1 l in
    let far : m * up e < 2 ^ 63 * down e = lt_of_lt_of_le l (mul-le-mul_right (down e) (pow_mono K)) in
    record {
      above = lt→ltb 0 (1 * 1 * down e + m * up e * 1) (plus (down e) (m * up e) (down_pos e));
      below = lt→ltb (m * up e * 1) (1 * 2 ^ 64 * down e) (under (m * up e) (down e) far);
      gives = uncapped (m * up e / down e) (lt_of_lt_of_le w (pow_mono K)) ∙ sym v;
      fewer = rw v w;
    }
  where
    plus : (d n : ℕ) → 0 < d → 0 < 1 * 1 * d + n * 1
    plus d n h = omega arith

    under : (n d : ℕ) → n < 2 ^ 63 * d → n * 1 < 1 * 2 ^ 64 * d
    under n d h = omega arith

    uncapped : (v : ℕ) → v < 2 ^ 63 → min v (2 ^ 64 - 1) ≡ v
    uncapped v h = omega arith

abbrev power : ℕ → Float
power k = fin false 1 (pos k)

-- the test against 2^k, of the value itself
below_power : (k m : ℕ) (e : ℤ) → lt (fin false m e) (power k) ≡ ltb (m * up e) (2 ^ k * down e)
unfolding lt
below_power k m e = rw (mul-one (m * up e), one-mul (2 ^ k))

pub truncates : (k : ℕ) → k ≤ 63 → (x : Float) → lt zero64 x && lt x (power k) ≡ true → Truncates k x
unfolding lt
truncates k K x t = by x ((and-eq-true_iff _ _).0 t)
  where
    by : (x : Float) → (lt zero64 x ≡ true) × (lt x (power k) ≡ true) → Truncates k x
    by nan t = absurd (true≢false (sym t.1))
    by (inf true) t = absurd (true≢false (sym t.0))
    by (inf false) t = absurd (true≢false (sym t.1))
    by (fin true m e) t = absurd (true≢false (sym t.0))
    by (fin false m e) t = in_range_lem k m e K (ltb-true _ _ (sym (below_power k m e) ∙ t.1))

pub truncates_none : (k : ℕ) (x : Float) → lt zero64 x && lt x (power k) ≡ false → 0 ≡ proper (2 ^ k) (scaled_down 1 x)
unfolding scaled_down
truncates_none k x t = proper_past (2 ^ k) (scaled_down 1 x) (by x t)
  where
    by : (x : Float) → lt zero64 x && lt x (power k) ≡ false → (scaled_down 1 x ≡ 0) ⊎ (2 ^ k ≤ scaled_down 1 x)
    by nan t = inl refl
    by (inf s) t = inl refl
    by (fin true m e) t = inl refl
    by (fin false zero e) t = inl (rw (zero-mul (up e)) (zero-div (down e)))
    by (fin false (suc m) e) t =
        let high : lt (fin false (suc m) e) (power k) ≡ false = rw (lt_zero (fin false (suc m) e), lt-ltb 0 (suc m) (zero-lt-suc m)) at t in
        inr ((le-div_iff_mul-le (down_pos e)).1 (rw (mul-one (suc m * up e)) (ltb-false _ _ (sym (below_power k (suc m) e) ∙ high))))
