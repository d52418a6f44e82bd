-- Fractions as the ring solver reads them: an expression over an expression, with an operation for each of `Fraction`'s. That
-- two fractions are the same number is then one identity, and that one is at most another is one certificate. With
-- `parts (p ∷ q ∷ []) (a ∷ [])` for the variables, p is `frac_e 0`, q is `frac_e 1` and a is `var 4`.
use Rattle.std.specs.Prelude.{◌≡◌, List, [], ◌∷◌, ℕ, ◌+◌, ◌*◌, ℤ, pos, ◌*ℤ◌, ◌≤ℤ◌}
use Rattle.whole.specs.Ring.{Exp, var, con, ◌⊕◌, ◌⊗◌, ◌⊝◌, ⊖, ring, norm, eval}
use Rattle.whole.specs.Fraction.{Fraction}
use Rattle.whole.specs.Combine.{Multiple, total, Hold, combine}
use Rattle.whole.specs.Certificate.{NN, nlin}

pub record Quot : Type 0 where
  pub top : Exp
  pub bottom : Exp

abbrev pub over_e : Exp → Exp → Quot
over_e n d = record { top = n; bottom = d }

abbrev pub whole_e : Exp → Quot
whole_e z = over_e z (con (pos 1))

-- what the variables stand for: two for each fraction, and then what else there is
abbrev pub parts : List Fraction → List ℤ → List ℤ
parts [] ρ = ρ
parts (p ∷ ps) ρ = p.num ∷ pos p.den ∷ parts ps ρ

-- the fraction at place i of those listed
abbrev pub frac_e : ℕ → Quot
frac_e i = over_e (var (2 * i)) (var (2 * i + 1))

infixl 6 ◌⊕F◌ ◌⊝F◌
abbrev pub ◌⊕F◌ : Quot → Quot → Quot
p ⊕F q = record { top = p.top ⊗ q.bottom ⊕ q.top ⊗ p.bottom; bottom = p.bottom ⊗ q.bottom }

abbrev pub ⊖F : Quot → Quot
⊖F p = record { top = ⊖ p.top; bottom = p.bottom }

abbrev pub ◌⊝F◌ : Quot → Quot → Quot
p ⊝F q = p ⊕F ⊖F q

abbrev pub times_e : Exp → Exp → Quot → Quot
times_e c k p = record { top = c ⊗ p.top; bottom = k ⊗ p.bottom }

-- both are the same number, identically
pub by : (ρ : List ℤ) (p q : Quot) → norm (p.top ⊗ q.bottom) ≡ norm (q.top ⊗ p.bottom)
    → eval ρ p.top *ℤ eval ρ q.bottom ≡ eval ρ q.top *ℤ eval ρ p.bottom
by ρ p q h = ring ρ (p.top ⊗ q.bottom) (q.top ⊗ p.bottom) h

-- both are the same number, where some equations hold
pub by_facts : (ρ : List ℤ) (ms : List Multiple) (p q : Quot) → Hold ρ ms → norm (p.top ⊗ q.bottom) ≡ norm (q.top ⊗ p.bottom ⊕ total ms)
    → eval ρ p.top *ℤ eval ρ q.bottom ≡ eval ρ q.top *ℤ eval ρ p.bottom
by_facts ρ ms p q h n = combine ρ ms (p.top ⊗ q.bottom) (q.top ⊗ p.bottom) h n

-- p is at most q, by what their cross products differ by
pub by_certificate : (ρ : List ℤ) (p q : Quot) (s : Exp) → NN (eval ρ s) → norm s ≡ norm (q.top ⊗ p.bottom ⊝ p.top ⊗ q.bottom)
    → (eval ρ p.top *ℤ eval ρ q.bottom) ≤ℤ (eval ρ q.top *ℤ eval ρ p.bottom)
by_certificate ρ p q s h n = nlin ρ (p.top ⊗ q.bottom) (q.top ⊗ p.bottom) s h n
