-- Orders of degree two: the sum of products that the goal's two sides differ by, and why it is not negative.
use Rattle.std.specs.Prelude.{refl, [], ◌∷◌, ℕ, ℤ, pos, ◌*ℤ◌, ◌-ℤ◌, ◌≤ℤ◌}
use Rattle.whole.specs.Ring.{var, con, ◌⊕◌, ◌⊗◌, ◌⊝◌}
use Rattle.whole.specs.Certificate.{NN, nn_pos, nn_diff, nn_add, nn_mul, le_nn, nlin}

products_compare : (x y a : ℤ) (b : ℕ) → pos 0 ≤ℤ x → x ≤ℤ a → y ≤ℤ pos b → (x *ℤ y) ≤ℤ (a *ℤ pos b)
products_compare x y a b x0 xa yb =
    let X = var 0 in let Y = var 1 in let A = var 2 in let B = var 3 in
    nlin (x ∷ y ∷ a ∷ pos b ∷ []) (X ⊗ Y) (A ⊗ B) ((A ⊝ X) ⊗ B ⊕ (X ⊝ con (pos 0)) ⊗ (B ⊝ Y))
    (nn_add (nn_mul (nn_diff xa) (nn_pos b)) (nn_mul (nn_diff x0) (nn_diff yb))) refl

order_from_a_difference : (x y : ℤ) → NN (y -ℤ x) → x ≤ℤ y
order_from_a_difference x y h = le_nn h
