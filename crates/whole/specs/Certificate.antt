-- Orders that are not linear, by a certificate: the goal's difference is, by `ring`, a sum of products that are not negative.
-- `NN z` says that z is not negative; the rules below make such facts from orders, squares, sums and products.
use Rattle.std.specs.Prelude.{◌≡◌, refl, List, ℕ, zero, ℤ, pos, negsuc, ◌+ℤ◌, ◌*ℤ◌, ◌-ℤ◌, ◌≤ℤ◌}
use Rattle.std.proofs.Common.{subst, arith}
use Rattle.whole.specs.Integers.{N, at, ◌⊞◌, ◌⊟◌}
use Rattle.whole.specs.Order.{abs_parts, zarith}
use Rattle.whole.specs.Ring.{Exp, ◌⊝◌, ring, norm, eval}

pub record NN (z : ℤ) : Type 0 where
  pub nn : N z ≡ zero

pub nn_pos : (n : ℕ) → NN (pos n)
nn_pos n = record { nn = refl }

pub nn_diff : {x y : ℤ} → x ≤ℤ y → NN (y -ℤ x)
nn_diff {x} {y} h = record { nn = omega (zarith, at y ⊟ at x, abs_parts (y -ℤ x)) }

pub nn_add : {x y : ℤ} → NN x → NN y → NN (x +ℤ y)
nn_add {x} {y} h k = record { nn = omega (arith, at x ⊞ at y, abs_parts (x +ℤ y)) }

pub nn_mul : {x y : ℤ} → NN x → NN y → NN (x *ℤ y)
nn_mul {x = pos a} {y = pos b} h k = record { nn = refl }
nn_mul {x = pos a} {y = negsuc b} h k = absurd (omega arith)
nn_mul {x = negsuc a} {y = y} h k = absurd (omega arith)

pub le_nn : {x y : ℤ} → NN (y -ℤ x) → x ≤ℤ y
le_nn {x} {y} h = omega (zarith, at y ⊟ at x)

-- e is at most f, since s is not negative and is f − e
pub nlin : (ρ : List ℤ) (e f s : Exp) → NN (eval ρ s) → norm s ≡ norm (f ⊝ e) → eval ρ e ≤ℤ eval ρ f
nlin ρ e f s h q = le_nn (subst NN (ring ρ s (f ⊝ e) q) h)
