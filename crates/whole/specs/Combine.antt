-- Equations from equations: the goal's right side, with multiples of the known differences added, is its left side by `ring`.
-- Each fact p ≡ q comes with its multiplier c as `multiple c p q`; the facts are given as nested pairs that end in `tt`.
use Rattle.std.specs.Prelude.{◌≡◌, refl, List, [], ◌∷◌, ℤ, pos, ◌+ℤ◌, ◌*ℤ◌, ◌-ℤ◌}
use Rattle.std.proofs.Common.{ap, ap₂, ◌∙◌}
use Rattle.std.proofs.Math.IntN.{*ℤ-zero, +ℤ_idr, +ℤ_invr}
use Rattle.whole.specs.Ring.{Exp, con, ◌⊕◌, ◌⊗◌, ◌⊝◌, ring, norm, eval}

-- c times the difference of p and q
pub data Multiple : Type 0 where
  multiple : (c p q : Exp) → Multiple

abbrev pub total : List Multiple → Exp
total [] = con (pos 0)
total (multiple c p q ∷ ms) = c ⊗ (p ⊝ q) ⊕ total ms

-- the facts, in the order of their multiples
abbrev pub Hold : List ℤ → List Multiple → Type 0
Hold ρ [] = Unit {0}
Hold ρ (multiple c p q ∷ ms) = (eval ρ p ≡ eval ρ q) × (Hold ρ ms)

vanishes : (c : ℤ) {p q : ℤ} → p ≡ q → c *ℤ (p -ℤ q) ≡ pos 0
vanishes c {q} h = ap (λ (t : ℤ). c *ℤ (t -ℤ q)) h ∙ ap (λ (t : ℤ). c *ℤ t) (+ℤ_invr q) ∙ *ℤ-zero c

total_zero : (ρ : List ℤ) (ms : List Multiple) → Hold ρ ms → eval ρ (total ms) ≡ pos 0
total_zero ρ [] h = refl
total_zero ρ (multiple c p q ∷ ms) h = ap₂ (λ (s t : ℤ). s +ℤ t) (vanishes (eval ρ c) h.0) (total_zero ρ ms h.1)

pub combine : (ρ : List ℤ) (ms : List Multiple) (e f : Exp) → Hold ρ ms → norm e ≡ norm (f ⊕ total ms) → eval ρ e ≡ eval ρ f
combine ρ ms e f h n = ring ρ e (f ⊕ total ms) n ∙ ap (λ (t : ℤ). eval ρ f +ℤ t) (total_zero ρ ms h) ∙ +ℤ_idr (eval ρ f)
