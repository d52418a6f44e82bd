-- How near a whole number is to a fraction (`Near`) and how small a fraction is (`Small`), with what sums, opposites, ratios
-- and roundings do to it. An error bound of a computation is a chain of these laws; the mixing law at the end is one adaptor's.
use Rattle.std.specs.Prelude.{◌≡◌, refl, [], ◌∷◌, ℕ, zero, ◌+◌, ◌*◌, ◌-◌, ◌<◌, ◌≤◌, ℤ, pos, negsuc, ◌+ℤ◌, ◌*ℤ◌, ◌-ℤ◌, neg_ℤ, nat_abs, ◌≤ℤ◌}
use Rattle.std.proofs.Common.{ap, arith, mul-le-mul_right, mul-pos, le_of_mul-le-mul_right}
use Rattle.whole.specs.Integers.{at, is_neg, ◌⊟◌, ◌⊠◌}
use Rattle.whole.specs.Order.{zarith, Abs, abs_parts, nat_abs-neg, nat_abs_mul, abs_add, abs_neg, abs_mul, abs_scale, abs_as}
use Rattle.whole.specs.Ring.{Exp, var, con, ◌⊕◌, ◌⊗◌, ◌⊝◌, ⊖}
use Rattle.whole.specs.Combine.{multiple}
use Rattle.whole.specs.Mirror.{Quot, parts, frac_e, whole_e, ◌⊕F◌, ⊖F, ◌⊝F◌, times_e, by, by_facts}
use Rattle.whole.specs.Quotients.{Rounds, rounds_abs}
use Rattle.whole.specs.Fraction.{Fraction, over, whole, ◌+F◌, neg_f, ◌-F◌, times, ◌≈◌, ◌≤F◌}

-- ---- |p| ≤ E

pub record Small (E : ℕ) (p : Fraction) : Type 0 where
  pub small : Abs p.num (E * p.den)

pub small_le : {E F : ℕ} {p : Fraction} → E ≤ F → Small E p → Small F p
small_le {p = p} l h = record { small = abs_as h.small refl (mul-le-mul_right p.den l) }

-- the cross products of equal numbers, by size
size_as : {p q : Fraction} → p ≈ q → nat_abs p.num * q.den ≡ nat_abs q.num * p.den
size_as {p} {q} e = omega (arith, nat_abs_mul p.num (pos q.den), nat_abs_mul q.num (pos p.den), ap nat_abs e.same)

pub small_as : {E : ℕ} {p q : Fraction} → p ≈ q → Small E p → Small E q
small_as {E} {p} {q} e h =
    let k : nat_abs q.num * p.den ≤ E * q.den * p.den = omega (arith, size_as e, mul-le-mul_right q.den h.small.bound) in
    record { small = record { bound = le_of_mul-le-mul_right k p.den_pos } }

pub small_add : {E F : ℕ} {p q : Fraction} → Small E p → Small F q → Small (E + F) (p +F q)
small_add {p = p} {q = q} h k =
    record { small = abs_as (abs_add (abs_scale h.small q.den) (abs_scale k.small p.den)) refl (omega arith) }

pub small_neg : {E : ℕ} {p : Fraction} → Small E p → Small E (neg_f p)
small_neg h = record { small = abs_neg h.small }

-- a ratio of at most one makes nothing larger
pub small_times : {E : ℕ} {p : Fraction} (c : ℤ) (k : ℕ) (k0 : zero < k) → Abs c k → Small E p → Small E (times c k k0 p)
small_times c k k0 a h = record { small = abs_as (abs_mul a h.small) refl (omega arith) }

-- |p| is at most |q|
pub record NoFurther (p q : Fraction) : Type 0 where
  pub no_further : nat_abs p.num * q.den ≤ nat_abs q.num * p.den

-- |p| ≤ |q| where p and its opposite are at most q
pub no_further_between : {p q : Fraction} → p ≤F q → neg_f p ≤F q → NoFurther p q
no_further_between {p} {q} h k =
    let n = p.num in
    let x = n *ℤ pos q.den in
    let y = q.num *ℤ pos p.den in
    let l : x ≤ℤ y = h.le in
    let g : (neg_ℤ n *ℤ pos q.den) ≤ℤ y = k.le in
    let e : nat_abs x ≤ nat_abs y = omega (zarith, at n ⊠ at (pos q.den), is_neg (at n) ⊠ at (pos q.den), abs_parts x, abs_parts y) in
    record { no_further = omega (arith, e, nat_abs_mul n (pos q.den), nat_abs_mul q.num (pos p.den)) }

pub no_further_neg : {p q : Fraction} → NoFurther p q → NoFurther (neg_f p) (neg_f q)
no_further_neg {p} {q} h = record { no_further = rw (nat_abs-neg p.num, nat_abs-neg q.num) h.no_further }

pub no_further_as : {p p' q q' : Fraction} → p ≈ p' → q ≈ q' → NoFurther p q → NoFurther p' q'
no_further_as {p} {p'} {q} {q'} e f h =
    let first = ap (λ (t : ℕ). t * (q.den * q'.den)) (size_as e) in
    let second = ap (λ (t : ℕ). t * (p.den * p'.den)) (size_as f) in
    let known = mul-le-mul_right (p'.den * q'.den) h.no_further in
    let l : nat_abs p'.num * q'.den * (p.den * q.den) ≤ nat_abs q'.num * p'.den * (p.den * q.den) = omega (arith, first, second, known) in
    record { no_further = le_of_mul-le-mul_right l (mul-pos p.den_pos q.den_pos) }

-- ---- |a − q| ≤ E

pub record Near (E : ℕ) (a : ℤ) (q : Fraction) : Type 0 where
  pub near : Abs (a *ℤ pos q.den -ℤ q.num) (E * q.den)

-- a − q over q's own denominator, and its mirror
abbrev pub gap : ℤ → Fraction → Fraction
gap a q = record { num = a *ℤ pos q.den -ℤ q.num; den = q.den; den_pos = q.den_pos }

abbrev pub gap_e : Exp → Quot → Quot
gap_e a q = record { top = a ⊗ q.bottom ⊝ q.top; bottom = q.bottom }

pub near_small : {E : ℕ} {a : ℤ} {q : Fraction} → Near E a q → Small E (gap a q)
near_small h = record { small = h.near }

-- a is near q where its gap is a number s that is small: the equation is `by ρ s (gap_e a q) refl`
pub near_by : {E F : ℕ} {a : ℤ} {q s : Fraction} → Small E s → s.num *ℤ pos q.den ≡ (a *ℤ pos q.den -ℤ q.num) *ℤ pos s.den → E ≤ F → Near F a q
near_by {a = a} {q = q} h e l = record { near = (small_le l (small_as {q = gap a q} (record { same = e }) h)).small }

pub near_le : {E F : ℕ} {a : ℤ} {q : Fraction} → E ≤ F → Near E a q → Near F a q
near_le l h = record { near = (small_le l (near_small h)).small }

pub near_as : {E : ℕ} {a : ℤ} {p q : Fraction} → p ≈ q → Near E a p → Near E a q
near_as {a = a} {p} {q} e h =
    near_by (near_small h)
    (by_facts (parts (p ∷ q ∷ []) (a ∷ [])) (multiple (con (negsuc 0)) (var 0 ⊗ var 3) (var 2 ⊗ var 1) ∷ []) (gap_e (var 4) (frac_e 0)) (gap_e (var 4) (frac_e 1)) (e.same, tt) refl)
    (omega arith)

pub near_whole : (a : ℤ) → Near 0 a (whole a)
near_whole a =
    let none : Small 0 (whole (pos 0)) = record { small = record { bound = omega arith } } in
    near_by none (by (a ∷ []) (whole_e (con (pos 0))) (gap_e (var 0) (whole_e (var 0))) refl) (omega arith)

-- a rounded quotient is within one of the exact one
pub near_rounds : {r z : ℤ} {m : ℕ} (m0 : zero < m) → Rounds r z m → Near 1 r (over z m m0)
near_rounds m0 h = record { near = abs_as (rounds_abs h) refl (omega arith) }

pub near_neg : {E : ℕ} {a : ℤ} {q : Fraction} → Near E a q → Near E (neg_ℤ a) (neg_f q)
near_neg {a = a} {q} h =
    near_by (small_neg (near_small h)) (by (parts (q ∷ []) (a ∷ [])) (⊖F (gap_e (var 2) (frac_e 0))) (gap_e (⊖ (var 2)) (⊖F (frac_e 0))) refl) (omega arith)

pub near_add : {E F : ℕ} {a b : ℤ} {p q : Fraction} → Near E a p → Near F b q → Near (E + F) (a +ℤ b) (p +F q)
near_add {a = a} {b} {p} {q} h k =
    let A = var 4 in let B = var 5 in
    near_by (small_add (near_small h) (near_small k))
    (by (parts (p ∷ q ∷ []) (a ∷ b ∷ [])) (gap_e A (frac_e 0) ⊕F gap_e B (frac_e 1)) (gap_e (A ⊕ B) (frac_e 0 ⊕F frac_e 1)) refl)
    (omega arith)

pub near_sub : {E F : ℕ} {a b : ℤ} {p q : Fraction} → Near E a p → Near F b q → Near (E + F) (a -ℤ b) (p -F q)
near_sub h k = near_add h (near_neg k)

-- ---- |p − q| ≤ E, for two fractions

pub near_apart : {E : ℕ} {a : ℤ} {q : Fraction} → Near E a q → Small E (whole a -F q)
near_apart {a = a} {q} h =
    small_as (record { same = by (parts (q ∷ []) (a ∷ [])) (gap_e (var 2) (frac_e 0)) (whole_e (var 2) ⊝F frac_e 0) refl }) (near_small h)

pub near_move : {E F : ℕ} {a : ℤ} {p q : Fraction} → Near E a p → Small F (p -F q) → Near (E + F) a q
near_move {a = a} {p} {q} h k =
    near_by (small_add (near_small h) k)
    (by (parts (p ∷ q ∷ []) (a ∷ [])) (gap_e (var 4) (frac_e 0) ⊕F (frac_e 0 ⊝F frac_e 1)) (gap_e (var 4) (frac_e 1)) refl) (omega arith)

-- ---- mixtures: (g·p + (W − g)·q) / W, for g from 0 to W

abbrev pub mixture : (g W : ℕ) → zero < W → Fraction → Fraction → Fraction
mixture g W w p q = times (pos g) W w p +F times (pos W -ℤ pos g) W w q

abbrev pub mixture_e : Exp → Exp → Quot → Quot → Quot
mixture_e g k p q = times_e g k p ⊕F times_e (k ⊝ g) k q

-- two shares of W make the whole
shares : (g f W E d e : ℕ) → g + f ≡ W → g * (E * d) * (W * e) + f * (E * e) * (W * d) ≤ E * (W * d * (W * e))
shares g f W E d e h = omega (arith, ap (λ (t : ℕ). t * (E * d * (W * e))) h)

module _ (g W : ℕ) (w : zero < W) (l : g ≤ W) where
  -- a mixture of numbers of at most E is at most E
  pub small_mix : {E : ℕ} {p q : Fraction} → Small E p → Small E q → Small E (mixture g W w p q)
  small_mix {E} {p} {q} h k =
      let first : Abs (pos g) g = record { bound = omega arith } in
      let second : Abs (pos W -ℤ pos g) (W - g) = omega (zarith, at (pos W) ⊟ at (pos g)) in
      let all : g + (W - g) ≡ W = omega arith in
      record {
        small = abs_as (abs_add (abs_scale (abs_mul first h.small) (W * q.den)) (abs_scale (abs_mul second k.small) (W * p.den))) refl
            (shares g (W - g) W E p.den q.den all);
      }
