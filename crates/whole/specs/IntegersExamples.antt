-- Uses of the two parts of an integer by hand: an equation, from what each side is in natural numbers.
use Rattle.std.specs.Prelude.{◌≡◌, ◌+◌, ℤ, pos, ◌+ℤ◌, ◌*ℤ◌, ◌-ℤ◌, neg_ℤ}
use Rattle.std.proofs.Common.{ap, ◌∙◌, arith}
use Rattle.whole.specs.Integers.{P, N, Is, at, is_neg, ◌⊞◌, ◌⊟◌, ◌⊠◌, is_eq, *ℤ-assoc, *ℤ-+ℤ, +ℤ-*ℤ}

difference_by_parts : (x y : ℤ) → Is (x -ℤ y) (P x + N y) (N x + P y)
difference_by_parts x y = at x ⊟ at y

square_of_a_sum : (x y : ℤ) → (x +ℤ y) *ℤ (x +ℤ y) ≡ x *ℤ x +ℤ pos 2 *ℤ x *ℤ y +ℤ y *ℤ y
square_of_a_sum x y =
    is_eq ((at x ⊞ at y) ⊠ (at x ⊞ at y)) (at x ⊠ at x ⊞ at (pos 2) ⊠ at x ⊠ at y ⊞ at y ⊠ at y) (omega arith)

opposite_of_a_product : (x y : ℤ) → neg_ℤ (x *ℤ y) ≡ neg_ℤ x *ℤ y
opposite_of_a_product x y = is_eq (is_neg (at x ⊠ at y)) (is_neg (at x) ⊠ at y) (omega arith)

regrouped : (a b c d : ℤ) → a *ℤ b *ℤ c *ℤ d ≡ a *ℤ (b *ℤ (c *ℤ d))
regrouped a b c d = *ℤ-assoc (a *ℤ b) c d ∙ *ℤ-assoc a b (c *ℤ d)

multiplied_out : (a b c d : ℤ) → (a +ℤ b) *ℤ (c +ℤ d) ≡ (a *ℤ c +ℤ b *ℤ c) +ℤ (a *ℤ d +ℤ b *ℤ d)
multiplied_out a b c d = *ℤ-+ℤ (a +ℤ b) c d ∙ ap (λ (t : ℤ). t +ℤ (a +ℤ b) *ℤ d) (+ℤ-*ℤ a b c) ∙ ap (λ (t : ℤ). (a *ℤ c +ℤ b *ℤ c) +ℤ t) (+ℤ-*ℤ a b d)
