-- Identities by the ring solver: short ones, one with large constants and powers, and Euler's in eight variables.
use Rattle.std.specs.Prelude.{◌≡◌, refl, [], ◌∷◌, ℕ, ◌^◌, ℤ, pos, ◌+ℤ◌, ◌*ℤ◌, ◌-ℤ◌}
use Rattle.whole.specs.Ring.{var, con, ◌⊕◌, ◌⊗◌, ◌⊝◌, ring}

difference_of_squares : (x y : ℤ) → (x +ℤ y) *ℤ (x -ℤ y) ≡ x *ℤ x -ℤ y *ℤ y
difference_of_squares x y = ring (x ∷ y ∷ []) ((var 0 ⊕ var 1) ⊗ (var 0 ⊝ var 1)) (var 0 ⊗ var 0 ⊝ var 1 ⊗ var 1) refl

-- a power with a literal exponent is a constant, and one with another exponent is a variable
powers_of_two : (x : ℤ) (w : ℕ) → (x -ℤ pos (2 ^ 16)) *ℤ pos (2 ^ w) ≡ x *ℤ pos (2 ^ w) -ℤ pos 65536 *ℤ pos (2 ^ w)
powers_of_two x w =
    ring (x ∷ pos (2 ^ w) ∷ []) ((var 0 ⊝ con (pos (2 ^ 16))) ⊗ var 1) (var 0 ⊗ var 1 ⊝ con (pos 65536) ⊗ var 1) refl

-- Euler: a product of two sums of four squares is a sum of four squares
four_squares : (a b c d p q r s : ℤ) → (a *ℤ a +ℤ b *ℤ b +ℤ c *ℤ c +ℤ d *ℤ d) *ℤ (p *ℤ p +ℤ q *ℤ q +ℤ r *ℤ r +ℤ s *ℤ s)
    ≡ (a *ℤ p +ℤ b *ℤ q +ℤ c *ℤ r +ℤ d *ℤ s) *ℤ (a *ℤ p +ℤ b *ℤ q +ℤ c *ℤ r +ℤ d *ℤ s)
    +ℤ (a *ℤ q -ℤ b *ℤ p +ℤ c *ℤ s -ℤ d *ℤ r) *ℤ (a *ℤ q -ℤ b *ℤ p +ℤ c *ℤ s -ℤ d *ℤ r)
    +ℤ (a *ℤ r -ℤ b *ℤ s -ℤ c *ℤ p +ℤ d *ℤ q) *ℤ (a *ℤ r -ℤ b *ℤ s -ℤ c *ℤ p +ℤ d *ℤ q)
    +ℤ (a *ℤ s +ℤ b *ℤ r -ℤ c *ℤ q -ℤ d *ℤ p) *ℤ (a *ℤ s +ℤ b *ℤ r -ℤ c *ℤ q -ℤ d *ℤ p)
four_squares a b c d p q r s =
    let A = var 0 in let B = var 1 in let C = var 2 in let D = var 3 in
    let E = var 4 in let F = var 5 in let G = var 6 in let H = var 7 in
    let along = A ⊗ E ⊕ B ⊗ F ⊕ C ⊗ G ⊕ D ⊗ H in
    let first = A ⊗ F ⊝ B ⊗ E ⊕ C ⊗ H ⊝ D ⊗ G in
    let second = A ⊗ G ⊝ B ⊗ H ⊝ C ⊗ E ⊕ D ⊗ F in
    let third = A ⊗ H ⊕ B ⊗ G ⊝ C ⊗ F ⊝ D ⊗ E in
    ring (a ∷ b ∷ c ∷ d ∷ p ∷ q ∷ r ∷ s ∷ []) ((A ⊗ A ⊕ B ⊗ B ⊕ C ⊗ C ⊕ D ⊗ D) ⊗ (E ⊗ E ⊕ F ⊗ F ⊕ G ⊗ G ⊕ H ⊗ H))
    (along ⊗ along ⊕ first ⊗ first ⊕ second ⊗ second ⊕ third ⊗ third) refl
