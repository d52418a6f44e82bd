-- Orders, equations and absolute values of integers for `omega`: the ruleset `zarith`. Beside it entries such as
-- `at x ⊞ at y ⊟ at z` say what each sum or product in the goal is; without its entry a sum is an unknown.
use Rattle.std.specs.Prelude.{◌≡◌, refl, ℕ, zero, suc, ◌+◌, ◌*◌, ◌<◌, ◌≤◌, min, max, ◌⊎◌, Bool, true, false, not, T, ℤ, pos, negsuc, ◌+ℤ◌, ◌*ℤ◌, neg_ℤ, nat_abs, ◌≤ℤ◌, ◌<ℤ◌}
use Rattle.std.proofs.Common.{sym, subst, arith, mul-le-mul, mul-le-mul_right, mul-lt-mul_of_pos_right, le_of_mul-le-mul_right, lt_of_mul-lt-mul_right, inl, inr, leb→le, le→leb, ltb→lt, lt→ltb}
use Rattle.std.proofs.Math.Nat.{eq_of_mul-eq-mul_right}
use Rattle.std.specs.Int.Signed.{le_z, lt_z, le_z_yes, lt_z_yes, lt_z_no, clash_ℤ}
use Rattle.whole.specs.Integers.{P, N, at, is_neg, ◌⊞◌, ◌⊠◌, is_eq}

-- ---- an order or an equation as one between natural numbers (`-in`), and back (`-out`)

pub le_in : {x y : ℤ} → x ≤ℤ y → P x + N y ≤ P y + N x
le_in {x = pos a} {y = pos b} h = omega (arith, leb→le a b h.le)
le_in {x = negsuc a} {y = negsuc b} h = omega (arith, leb→le b a h.le)
le_in {x = negsuc a} {y = pos b} h = omega arith
le_in {x = pos a} {y = negsuc b} h = absurd h.le

pub le_out : {x y : ℤ} → P x + N y ≤ P y + N x → x ≤ℤ y
le_out {x = pos a} {y = pos b} h = le_z_yes (le→leb a b (omega arith))
le_out {x = negsuc a} {y = negsuc b} h = le_z_yes (le→leb b a (omega arith))
le_out {x = negsuc a} {y = pos b} h = le_z_yes tt
le_out {x = pos a} {y = negsuc b} h = absurd (omega arith)

pub lt_in : {x y : ℤ} → x <ℤ y → P x + N y < P y + N x
lt_in {x = pos a} {y = pos b} h = omega (arith, ltb→lt a b h.lt)
lt_in {x = negsuc a} {y = negsuc b} h = omega (arith, ltb→lt b a h.lt)
lt_in {x = negsuc a} {y = pos b} h = omega arith
lt_in {x = pos a} {y = negsuc b} h = absurd h.lt

pub lt_out : {x y : ℤ} → P x + N y < P y + N x → x <ℤ y
lt_out {x = pos a} {y = pos b} h = lt_z_yes (lt→ltb a b (omega arith))
lt_out {x = negsuc a} {y = negsuc b} h = lt_z_yes (lt→ltb b a (omega arith))
lt_out {x = negsuc a} {y = pos b} h = lt_z_yes tt
lt_out {x = pos a} {y = negsuc b} h = absurd (omega arith)

pub eq_in : {x y : ℤ} → x ≡ y → P x + N y ≡ P y + N x
eq_in {x} {y} e = subst (λ (z : ℤ). P x + N z ≡ P z + N x) e refl

pub eq_out : {x y : ℤ} → P x + N y ≡ P y + N x → x ≡ y
eq_out {x} {y} e = is_eq (at x) (at y) e

-- one of the two parts is zero, and the absolute value is the other
pub abs_parts : (z : ℤ) → (nat_abs z ≡ P z + N z) × (min (P z) (N z) ≡ 0)
abs_parts (pos n) = (omega arith, omega arith)
abs_parts (negsuc n) = (omega arith, omega arith)

-- |z| is at most e
pub record Abs (z : ℤ) (e : ℕ) : Type 0 where
  pub bound : nat_abs z ≤ e

pub abs_in : {z : ℤ} {e : ℕ} → Abs z e → P z + N z ≤ e
abs_in {z} h = omega (arith, h, abs_parts z)

pub abs_out : {z : ℤ} {e : ℕ} → max (P z) (N z) ≤ e + min (P z) (N z) → Abs z e
abs_out {z} h = record { bound = omega (arith, abs_parts z) }

pub ruleset zarith = (arith, le_in, le_out, lt_in, lt_out, eq_in, eq_out, abs_in, abs_out)

-- ---- absolute values

pub nat_abs-neg : (z : ℤ) → nat_abs (neg_ℤ z) ≡ nat_abs z
nat_abs-neg (pos zero) = refl
nat_abs-neg (pos (suc n)) = refl
nat_abs-neg (negsuc n) = refl

pub nat_abs_mul : (x y : ℤ) → nat_abs (x *ℤ y) ≡ nat_abs x * nat_abs y
nat_abs_mul (pos a) (pos b) = refl
nat_abs_mul (pos a) (negsuc b) = nat_abs-neg (pos (a * suc b))
nat_abs_mul (negsuc a) (pos b) = nat_abs-neg (pos (suc a * b))
nat_abs_mul (negsuc a) (negsuc b) = refl

pub abs_add : {x y : ℤ} {a b : ℕ} → Abs x a → Abs y b → Abs (x +ℤ y) (a + b)
abs_add {x} {y} h k = omega (zarith, at x ⊞ at y)

pub abs_neg : {x : ℤ} {a : ℕ} → Abs x a → Abs (neg_ℤ x) a
abs_neg {x} h = omega (zarith, is_neg (at x))

pub abs_mul : {x y : ℤ} {a b : ℕ} → Abs x a → Abs y b → Abs (x *ℤ y) (a * b)
abs_mul {x} {y} h k = record { bound = omega (arith, nat_abs_mul x y, mul-le-mul h.bound k.bound) }

pub abs_scale : {x : ℤ} {a : ℕ} → Abs x a → (n : ℕ) → Abs (x *ℤ pos n) (a * n)
abs_scale h n = abs_mul h (record { bound = omega arith })

-- under another name for the number, and with room to spare
pub abs_as : {x y : ℤ} {a b : ℕ} → Abs x a → x ≡ y → a ≤ b → Abs y b
abs_as h e l = rw (← e) (record { bound = omega (arith, h) })

-- ---- a factor above zero on both sides

pub le_scale : {x y : ℤ} (k : ℕ) → x ≤ℤ y → (x *ℤ pos k) ≤ℤ (y *ℤ pos k)
le_scale {x} {y} k h = let e = mul-le-mul_right k (le_in h) in omega (zarith, at x ⊠ at (pos k), at y ⊠ at (pos k))

pub lt_scale : {x y : ℤ} (k : ℕ) → zero < k → x <ℤ y → (x *ℤ pos k) <ℤ (y *ℤ pos k)
lt_scale {x} {y} k k0 h = let e = mul-lt-mul_of_pos_right (lt_in h) k0 in omega (zarith, at x ⊠ at (pos k), at y ⊠ at (pos k))

pub le_cancel : {x y : ℤ} (k : ℕ) → zero < k → (x *ℤ pos k) ≤ℤ (y *ℤ pos k) → x ≤ℤ y
le_cancel {x} {y} k k0 h =
    let e : (P x + N y) * k ≤ (P y + N x) * k = omega (zarith, at x ⊠ at (pos k), at y ⊠ at (pos k)) in
    le_out (le_of_mul-le-mul_right e k0)

pub lt_cancel : {x y : ℤ} (k : ℕ) → (x *ℤ pos k) <ℤ (y *ℤ pos k) → x <ℤ y
lt_cancel {x} {y} k h =
    let e : (P x + N y) * k < (P y + N x) * k = omega (zarith, at x ⊠ at (pos k), at y ⊠ at (pos k)) in
    lt_out (lt_of_mul-lt-mul_right k e)

pub eq_cancel : {x y : ℤ} (k : ℕ) → zero < k → x *ℤ pos k ≡ y *ℤ pos k → x ≡ y
eq_cancel {x} {y} k k0 h =
    let e : (P x + N y) * k ≡ (P y + N x) * k = omega (zarith, at x ⊠ at (pos k), at y ⊠ at (pos k)) in
    eq_out (eq_of_mul-eq-mul_right k k0 (P x + N y) (P y + N x) e)

-- ---- tests, as an `if` of signed code makes them

pub lt_z-true : (x y : ℤ) → lt_z x y ≡ true → x <ℤ y
lt_z-true x y e = lt_z_yes (subst T (sym e) tt)

pub lt_z-false : (x y : ℤ) → lt_z x y ≡ false → y ≤ℤ x
lt_z-false x y e = lt_z_no (subst (λ (t : Bool). T (not t)) (sym e) tt)

pub le_or_lt : (x y : ℤ) → (x ≤ℤ y) ⊎ (y <ℤ x)
le_or_lt x y = choose (lt_z y x) refl
  where
    choose : (c : Bool) → lt_z y x ≡ c → (x ≤ℤ y) ⊎ (y <ℤ x)
    choose true e = inr (lt_z-true y x e)
    choose false e = inl (lt_z-false y x e)

pub le_z-true : (x y : ℤ) → le_z x y ≡ true → x ≤ℤ y
le_z-true x y e = le_z_yes (subst T (sym e) tt)

pub le_z-false : (x y : ℤ) → le_z x y ≡ false → y <ℤ x
le_z-false x y e = elim (le_or_lt x y) [ inl h ↦ absurd (subst T e h.le) | inr h ↦ h ]

-- and what a test answers where the order is known
answers : (b c : Bool) → (b ≡ not c → ⊥) → b ≡ c
answers true true f = refl
answers true false f = absurd (f refl)
answers false true f = absurd (f refl)
answers false false f = refl

pub true-lt_z : {x y : ℤ} → x <ℤ y → lt_z x y ≡ true
true-lt_z {x} {y} h = answers (lt_z x y) true (λ e. clash_ℤ h (lt_z-false x y e))

pub false-lt_z : {x y : ℤ} → y ≤ℤ x → lt_z x y ≡ false
false-lt_z {x} {y} h = answers (lt_z x y) false (λ e. clash_ℤ (lt_z-true x y e) h)

pub true-le_z : {x y : ℤ} → x ≤ℤ y → le_z x y ≡ true
true-le_z {x} {y} h = answers (le_z x y) true (λ e. clash_ℤ (le_z-false x y e) h)

pub false-le_z : {x y : ℤ} → y <ℤ x → le_z x y ≡ false
false-le_z {x} {y} h = answers (le_z x y) false (λ e. clash_ℤ h (le_z-true x y e))
