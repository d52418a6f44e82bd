-- An equation from two others: each fact with the multiplier that brings it into the goal.
use Rattle.std.specs.Prelude.{◌≡◌, refl, [], ◌∷◌, ℤ, pos, ◌+ℤ◌, ◌*ℤ◌, ◌-ℤ◌}
use Rattle.whole.specs.Ring.{var, con, ◌⊕◌, ◌⊗◌, ◌⊝◌}
use Rattle.whole.specs.Combine.{multiple, combine}

-- where w·k is g·(a − b) and u is b + k, w·u is g·a + (w − g)·b
mixed_wave : (g w a b k u : ℤ) → w *ℤ k ≡ g *ℤ (a -ℤ b) → u ≡ b +ℤ k → w *ℤ u ≡ g *ℤ a +ℤ (w -ℤ g) *ℤ b
mixed_wave g w a b k u h e =
    let G = var 0 in let W = var 1 in let A = var 2 in let B = var 3 in let K = var 4 in let U = var 5 in
    combine (g ∷ w ∷ a ∷ b ∷ k ∷ u ∷ []) (multiple (con (pos 1)) (W ⊗ K) (G ⊗ (A ⊝ B)) ∷ multiple W U (B ⊕ K) ∷ [])
    (W ⊗ U) (G ⊗ A ⊕ (W ⊝ G) ⊗ B) (h, (e, tt)) refl
