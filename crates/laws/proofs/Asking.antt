-- A fold that asks every item, whatever the ones before it answered: what `all` answers, which stops at the first that fails.
use native.Mathlib.Omega.{arith}
use mathlib.Core.Path.{◌≡◌, ◌∙◌}
use mathlib.Core.Bool.{Bool, ◌&&◌}
use mathlib.Core.List.{List, [], ◌∷◌}
use Rattle.std.specs.List.{fold, list_all}
use Rattle.std.proofs.Math.Bool.{and_assoc}

module _ {A : Type 0} (p : A → Bool) where
  pub all_asked : (xs : List A) (so_far : Bool) → fold (λ b x. b && p x) so_far xs ≡ (so_far && list_all p xs)
  all_asked [] so_far = grind arith
  all_asked (x ∷ xs) so_far = all_asked xs (so_far && p x) ∙ and_assoc so_far (p x) (list_all p xs)
