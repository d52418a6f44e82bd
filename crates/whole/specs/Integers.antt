-- An integer z as a difference of two natural numbers, `P z` less `N z`. `omega` reads natural numbers only: an entry such as
-- `at x ⊞ at y` tells it what the sum of x and y is in these terms. Equations between integers are then equations between
-- natural numbers, and so are the product's laws.
use Rattle.std.specs.Prelude.{◌≡◌, refl, Bool, true, false, not, cond, ℕ, zero, suc, ◌+◌, ◌*◌, ◌-◌, ◌<◌, ◌≤◌, T, ltb, ℤ, pos, negsuc, ◌+ℤ◌, ◌*ℤ◌, ◌-ℤ◌, neg_ℤ}
use Rattle.std.proofs.Common.{ap, arith, ltb→lt, nltb→le}
use Rattle.std.proofs.Math.IntN.{sub_ℕ}

-- what z has above zero
abbrev pub P : ℤ → ℕ
P (pos n) = n
P (negsuc n) = zero

-- what z has below zero
abbrev pub N : ℤ → ℕ
N (pos n) = zero
N (negsuc n) = suc n

-- z is p − n
pub record Is (z : ℤ) (p n : ℕ) : Type 0 where
  pub difference : P z + n ≡ p + N z

-- every integer is the difference of its own two parts
pub at : (z : ℤ) → Is z (P z) (N z)
at z = record { difference = refl }

sub_cases : (a b : ℕ) (X : ℤ → Type 0) → (a < b → X (negsuc (b - suc a))) → (b ≤ a → X (pos (a - b))) → X (sub_ℕ a b)
sub_cases a b X less more = choose (ltb a b) (λ t. less (ltb→lt a b t)) (λ t. more (nltb→le a b t))
  where
    choose : (c : Bool) → (T c → X (negsuc (b - suc a))) → (T (not c) → X (pos (a - b))) → X (cond c (negsuc (b - suc a)) (pos (a - b)))
    choose true less more = less tt
    choose false less more = more tt

is_subℕ : (a b : ℕ) → Is (sub_ℕ a b) a b
is_subℕ a b = sub_cases a b (λ z. Is z a b) (λ h. record { difference = omega arith }) (λ h. record { difference = omega arith })

pub is_neg : {z : ℤ} {p n : ℕ} → Is z p n → Is (neg_ℤ z) n p
is_neg {z = pos zero} h = record { difference = omega arith }
is_neg {z = pos (suc a)} h = record { difference = omega arith }
is_neg {z = negsuc a} h = record { difference = omega arith }

infixl 6 ◌⊞◌ ◌⊟◌
infixl 7 ◌⊠◌
pub ◌⊞◌ : {x y : ℤ} {p n q m : ℕ} → Is x p n → Is y q m → Is (x +ℤ y) (p + q) (n + m)
◌⊞◌ {x = pos a} {y = pos b} h k = record { difference = omega arith }
◌⊞◌ {x = pos a} {y = negsuc b} h k = let s = is_subℕ a (suc b) in record { difference = omega arith }
◌⊞◌ {x = negsuc a} {y = pos b} h k = let s = is_subℕ b (suc a) in record { difference = omega arith }
◌⊞◌ {x = negsuc a} {y = negsuc b} h k = record { difference = omega arith }

pub ◌⊟◌ : {x y : ℤ} {p n q m : ℕ} → Is x p n → Is y q m → Is (x -ℤ y) (p + m) (n + q)
h ⊟ k = h ⊞ is_neg k

-- the product by each integer's own parts; `◌⊠◌` is the product by any parts
is_product : (x y : ℤ) → Is (x *ℤ y) (P x * P y + N x * N y) (P x * N y + N x * P y)
is_product (pos a) (pos b) = record { difference = omega arith }
is_product (pos a) (negsuc b) = let s = is_neg (at (pos (a * suc b))) in record { difference = omega arith }
is_product (negsuc a) (pos b) = let s = is_neg (at (pos (suc a * b))) in record { difference = omega arith }
is_product (negsuc a) (negsuc b) = record { difference = omega arith }

pub ◌⊠◌ : {x y : ℤ} {p n q m : ℕ} → Is x p n → Is y q m → Is (x *ℤ y) (p * q + n * m) (p * m + n * q)
◌⊠◌ {x} {y} {p} {n} {q} {m} h k =
    let s = is_product x y in
    let above = ap (λ (t : ℕ). t * P y) h.difference in
    let below = ap (λ (t : ℕ). t * N y) h.difference in
    let left = ap (λ (t : ℕ). p * t) k.difference in
    let right = ap (λ (t : ℕ). n * t) k.difference in
    record { difference = omega arith }

-- integers with equal differences are equal
pub is_eq : {x y : ℤ} {p n q m : ℕ} → Is x p n → Is y q m → p + m ≡ q + n → x ≡ y
is_eq {x = pos a} {y = pos b} h k e = ap pos (omega arith)
is_eq {x = negsuc a} {y = negsuc b} h k e = ap negsuc (omega arith)
is_eq {x = pos a} {y = negsuc b} h k e = absurd (omega arith)
is_eq {x = negsuc a} {y = pos b} h k e = absurd (omega arith)

-- ---- the product's laws that `lib.IntN` leaves out

pub *ℤ-assoc : (a b c : ℤ) → (a *ℤ b) *ℤ c ≡ a *ℤ (b *ℤ c)
*ℤ-assoc a b c = is_eq (at a ⊠ at b ⊠ at c) (at a ⊠ (at b ⊠ at c)) (omega arith)

pub *ℤ-+ℤ : (a b c : ℤ) → a *ℤ (b +ℤ c) ≡ a *ℤ b +ℤ a *ℤ c
*ℤ-+ℤ a b c = is_eq (at a ⊠ (at b ⊞ at c)) (at a ⊠ at b ⊞ at a ⊠ at c) (omega arith)

pub +ℤ-*ℤ : (a b c : ℤ) → (a +ℤ b) *ℤ c ≡ a *ℤ c +ℤ b *ℤ c
+ℤ-*ℤ a b c = is_eq ((at a ⊞ at b) ⊠ at c) (at a ⊠ at c ⊞ at b ⊠ at c) (omega arith)
