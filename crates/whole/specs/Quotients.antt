-- Quotients of an integer by a natural number above zero: rounded down (`shr_z z m`) and rounded toward zero
-- (`quot_z z (pos m)`). `Rounds r z m` is what both have in common, and all that a bound on rounding errors needs to know.
use Rattle.std.specs.Prelude.{◌≡◌, refl, ℕ, zero, suc, ◌*◌, ◌/◌, ◌<◌, ◌≤◌, ℤ, pos, negsuc, ◌+ℤ◌, ◌*ℤ◌, ◌-ℤ◌, neg_ℤ, nat_abs, ◌≤ℤ◌, ◌<ℤ◌}
use Rattle.std.proofs.Common.{sym, ap, ◌∙◌, arith, div-add-mod', mod-lt}
use Rattle.std.proofs.Math.Nat.{zero-div}
use Rattle.std.proofs.Math.IntN.{neg_ℤ-neg_ℤ}
use Rattle.std.specs.Int.Signed.{shr_z, quot_z, ≤ℤ_refl}
use Rattle.whole.specs.Integers.{at, is_neg, ◌⊞◌, ◌⊟◌, ◌⊠◌}
use Rattle.whole.specs.Order.{zarith, Abs, nat_abs-neg, lt_cancel}

-- the whole number r is less than one away from z / m, times m on both sides: r·m − m < z < r·m + m
pub record Rounds (r z : ℤ) (m : ℕ) : Type 0 where
  pub low : (r *ℤ pos m) <ℤ (z +ℤ pos m)
  pub high : z <ℤ (r *ℤ pos m +ℤ pos m)

pub rounds_abs : {r z : ℤ} {m : ℕ} → Rounds r z m → Abs (r *ℤ pos m -ℤ z) m
rounds_abs {r} {z} {m} h =
    let y = r *ℤ pos m in
    let low : y <ℤ (z +ℤ pos m) = h.low in
    let high : z <ℤ (y +ℤ pos m) = h.high in
    omega (zarith, at y ⊟ at z, at y ⊞ at (pos m), at z ⊞ at (pos m))

pub rounds_neg : {r z : ℤ} {m : ℕ} → Rounds r z m → Rounds (neg_ℤ r) (neg_ℤ z) m
rounds_neg {r} {z} {m} h =
    record {
      low = omega (zarith, h.high, at r ⊠ at (pos m) ⊞ at (pos m), is_neg (at r) ⊠ at (pos m), is_neg (at z) ⊞ at (pos m));
      high = omega (zarith, h.low, at z ⊞ at (pos m), at r ⊠ at (pos m), is_neg (at r) ⊠ at (pos m) ⊞ at (pos m), is_neg (at z));
    }

-- a whole number added before the quotient, or after it
pub rounds_add : {r z : ℤ} {m : ℕ} (a : ℤ) → Rounds r z m → Rounds (a +ℤ r) (a *ℤ pos m +ℤ z) m
rounds_add {r} {z} {m} a h =
    let sum = (at a ⊞ at r) ⊠ at (pos m) in
    let moved = at a ⊠ at (pos m) ⊞ at z in
    record {
      low = omega (zarith, h.low, at r ⊠ at (pos m), at z ⊞ at (pos m), sum, moved ⊞ at (pos m));
      high = omega (zarith, h.high, at r ⊠ at (pos m) ⊞ at (pos m), sum ⊞ at (pos m), moved);
    }

-- x is at most q where x·m is not as much as q·m and one m more
at_most : (x q : ℤ) (m : ℕ) → (x *ℤ pos m) <ℤ (q *ℤ pos m +ℤ pos m) → x ≤ℤ q
at_most x q m h =
    let below : (x *ℤ pos m) <ℤ ((q +ℤ pos 1) *ℤ pos m) = omega (zarith, at q ⊠ at (pos m) ⊞ at (pos m), (at q ⊞ at (pos 1)) ⊠ at (pos m)) in
    let less : x <ℤ (q +ℤ pos 1) = lt_cancel m below in
    omega (zarith, at q ⊞ at (pos 1))

rounds_below : {r z : ℤ} {m : ℕ} (q : ℤ) → Rounds r z m → z ≤ℤ (q *ℤ pos m) → r ≤ℤ q
rounds_below {r} {z} {m} q h l =
    let y = q *ℤ pos m in
    at_most r q m (omega (zarith, h.low, at z ⊞ at (pos m), at y ⊞ at (pos m)))

rounds_above : {r z : ℤ} {m : ℕ} (q : ℤ) → Rounds r z m → (q *ℤ pos m) ≤ℤ z → q ≤ℤ r
rounds_above {r} {z} {m} q h l = at_most q r m (omega (zarith, h.high))

-- a whole multiple's rounding is exact
pub rounds_exact : {r : ℤ} {m : ℕ} (q : ℤ) → Rounds r (q *ℤ pos m) m → r ≡ q
rounds_exact {r} {m} q h = omega (zarith, rounds_below q h (≤ℤ_refl (q *ℤ pos m)), rounds_above q h (≤ℤ_refl (q *ℤ pos m)))

-- a bound of whole size on z / m bounds its rounding
pub rounds_bound : {r z : ℤ} {m e : ℕ} → Rounds r z m → Abs z (e * m) → Abs r e
rounds_bound {r} {z} {m} {e} h b =
    let low = neg_ℤ (pos e) in
    let above : (low *ℤ pos m) ≤ℤ z = omega (zarith, is_neg (at (pos e)) ⊠ at (pos m)) in
    let below : z ≤ℤ (pos e *ℤ pos m) = omega zarith in
    omega (zarith, rounds_above low h above, rounds_below (pos e) h below, is_neg (at (pos e)))

-- ---- rounded down

pub floor_low : (z : ℤ) (m : ℕ) → zero < m → (shr_z z m *ℤ pos m) ≤ℤ z
floor_low (pos a) m m0 = omega (zarith, at (pos (a / m)) ⊠ at (pos m), div-add-mod' a m)
floor_low (negsuc a) m m0 = omega (zarith, at (negsuc (a / m)) ⊠ at (pos m), div-add-mod' a m, mod-lt a m0)

pub floor_high : (z : ℤ) (m : ℕ) → zero < m → z <ℤ (shr_z z m *ℤ pos m +ℤ pos m)
floor_high (pos a) m m0 = omega (zarith, at (pos (a / m)) ⊠ at (pos m) ⊞ at (pos m), div-add-mod' a m, mod-lt a m0)
floor_high (negsuc a) m m0 = omega (zarith, at (negsuc (a / m)) ⊠ at (pos m) ⊞ at (pos m), div-add-mod' a m)

pub floor_rounds : (z : ℤ) (m : ℕ) → zero < m → Rounds (shr_z z m) z m
floor_rounds z m m0 =
    let y = shr_z z m *ℤ pos m in
    let l : y ≤ℤ z = floor_low z m m0 in
    record { low = omega (zarith, at z ⊞ at (pos m)); high = floor_high z m m0 }

-- the floor is the greatest whole number that is not above z / m
pub floor_greatest : (q z : ℤ) (m : ℕ) → zero < m → (q *ℤ pos m) ≤ℤ z → q ≤ℤ shr_z z m
floor_greatest q z m m0 h = rounds_above q (floor_rounds z m m0) h

pub floor_least : (q z : ℤ) (m : ℕ) → zero < m → z <ℤ (q *ℤ pos m +ℤ pos m) → shr_z z m ≤ℤ q
floor_least q z m m0 h = at_most (shr_z z m) q m (omega (zarith, floor_low z m m0))

pub floor_unique : (q z : ℤ) (m : ℕ) → zero < m → (q *ℤ pos m) ≤ℤ z → z <ℤ (q *ℤ pos m +ℤ pos m) → q ≡ shr_z z m
floor_unique q z m m0 l u = omega (zarith, floor_greatest q z m m0 l, floor_least q z m m0 u)

pub floor_mono : {x y : ℤ} (m : ℕ) → zero < m → x ≤ℤ y → shr_z x m ≤ℤ shr_z y m
floor_mono {x} {y} m m0 h =
    let q = shr_z x m *ℤ pos m in
    let l : q ≤ℤ x = floor_low x m m0 in
    floor_greatest (shr_z x m) y m m0 (omega zarith)

pub floor_exact : (q : ℤ) (m : ℕ) → zero < m → shr_z (q *ℤ pos m) m ≡ q
floor_exact q m m0 = rounds_exact q (floor_rounds (q *ℤ pos m) m m0)

-- ---- rounded toward zero

-- the quotient of the opposite is the opposite
pub trunc_odd : (z : ℤ) (m : ℕ) → quot_z (neg_ℤ z) (pos m) ≡ neg_ℤ (quot_z z (pos m))
trunc_odd (pos zero) m = ap pos (zero-div m) ∙ sym (ap (λ (n : ℕ). neg_ℤ (pos n)) (zero-div m))
trunc_odd (pos (suc a)) m = refl
trunc_odd (negsuc a) m = sym (neg_ℤ-neg_ℤ (pos (suc a / m)))

-- the two sides of it: |q|·m ≤ |z| < |q|·m + m
pub trunc_low : (z : ℤ) (m : ℕ) → nat_abs (quot_z z (pos m)) * m ≤ nat_abs z
trunc_low (pos a) m = omega (arith, div-add-mod' a m)
trunc_low (negsuc a) m = rw nat_abs-neg (omega (arith, div-add-mod' (suc a) m))

pub trunc_rounds : (z : ℤ) (m : ℕ) → zero < m → Rounds (quot_z z (pos m)) z m
trunc_rounds (pos a) m m0 = floor_rounds (pos a) m m0
trunc_rounds (negsuc a) m m0 = rounds_neg (floor_rounds (pos (suc a)) m m0)
