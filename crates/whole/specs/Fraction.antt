-- A fraction of whole numbers: an integer over a natural number above 0. It is not reduced: two fractions are the same number
-- where their cross products are equal, and that is `◌≈◌`. Definitions only.
use Rattle.std.specs.Prelude.{ℕ, zero, ◌*◌, ◌<◌, ◌≡◌, Bool, ℤ, pos, ◌+ℤ◌, ◌*ℤ◌, neg_ℤ, ◌≤ℤ◌}
use Rattle.std.proofs.Common.{arith, mul-pos}
use Rattle.std.specs.Int.Signed.{lt_z, shr_z}

pub record Fraction : Type 0 where
  pub num : ℤ
  pub den : ℕ
  pub den_pos : zero < den

-- z / k
abbrev pub over : ℤ → (k : ℕ) → zero < k → Fraction
over z k h = record { num = z; den = k; den_pos = h }

-- a whole number
abbrev pub whole : ℤ → Fraction
whole z = over z 1 (omega arith)

infixl 6 ◌+F◌
infixl 6 ◌-F◌
abbrev pub ◌+F◌ : Fraction → Fraction → Fraction
p +F q =
    record { num = p.num *ℤ pos q.den +ℤ q.num *ℤ pos p.den; den = p.den * q.den; den_pos = mul-pos p.den_pos q.den_pos }

abbrev pub neg_f : Fraction → Fraction
neg_f p = record { num = neg_ℤ p.num; den = p.den; den_pos = p.den_pos }

abbrev pub ◌-F◌ : Fraction → Fraction → Fraction
p -F q = p +F neg_f q

infixl 7 ◌*F◌
abbrev pub ◌*F◌ : Fraction → Fraction → Fraction
p *F q = record { num = p.num *ℤ q.num; den = p.den * q.den; den_pos = mul-pos p.den_pos q.den_pos }

-- c·p / k
abbrev pub times : (c : ℤ) (k : ℕ) → zero < k → Fraction → Fraction
times c k h p = record { num = c *ℤ p.num; den = k * p.den; den_pos = mul-pos h p.den_pos }

-- rounded down
abbrev pub floor : Fraction → ℤ
floor p = shr_z p.num p.den

-- p is below the whole number z, as a test
abbrev pub below : Fraction → ℤ → Bool
below p z = lt_z p.num (z *ℤ pos p.den)

infix 4 ◌≈◌
infix 4 ◌≤F◌
-- the same number
pub record ◌≈◌ (p q : Fraction) : Type 0 where
  pub same : p.num *ℤ pos q.den ≡ q.num *ℤ pos p.den

pub record ◌≤F◌ (p q : Fraction) : Type 0 where
  pub le : (p.num *ℤ pos q.den) ≤ℤ (q.num *ℤ pos p.den)
