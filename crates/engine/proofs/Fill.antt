-- A list that a loop fills, one store a turn: what holds of each entry passed still holds after one store more.
use Prim.Native.Nat.{ℕ, ◌+◌, ◌<◌}
use native.Mathlib.Decide.{ℕ_discrete}
use native.Mathlib.Omega.{arith}
use mathlib.Core.Path.{◌≡◌, refl, sym, ap, ◌∙◌, subst}
use mathlib.Core.List.{List}
use lib.ListN.{get_or, length, set}
use lib.Seq.{get_or-set_same, get_or-set_other}

module _ {A : Type 0} (P : ℕ → A → Type 0) (d : A) where
  -- entry k, which is i's, may be that of others before it
  pub stored_more : (at : ℕ → ℕ) (l : List A) (i k : ℕ) (v : A) → at i ≡ k → k < length l → ((j : ℕ) → j < i → P j (get_or l (at j) d))
      → ((j : ℕ) → j < i + 1 → at j ≡ k → P j v) → (j : ℕ) → j < i + 1 → P j (get_or (set l k v) (at j) d)
  stored_more at l i k v here inside old new j m = elim (ℕ_discrete (at j) k) [
    | yes e ↦ rw (e, get_or-set_same l k v d inside) (new j m e)
    | no f ↦ let other : j ≡ i → ⊥ = λ e. f (ap at e ∙ here) in rw (get_or-set_other l k (at j) v d f) (old j (omega arith))
  ]

  -- from the front
  pub filled_more : (l : List A) (i : ℕ) (v : A) → i < length l → ((j : ℕ) → j < i → P j (get_or l j d)) → P i v
      → (j : ℕ) → j < i + 1 → P j (get_or (set l i v) j d)
  filled_more l i v inside old new = stored_more (λ j. j) l i i v refl inside old (λ j m e. subst (λ (n : ℕ). P n v) (sym e) new)
