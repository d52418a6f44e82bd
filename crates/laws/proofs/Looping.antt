-- A loop that counts from 0 to n and holds, before turn i, what F is at i, as a list that is filled or counts so far.
-- `Upto` is its invariant, `onward` is what a turn asks, and `whole` is what the loop has made in the end.
use Prim.Native.Nat.{ℕ, ◌+◌, ◌<◌, ◌≤◌}
use native.Mathlib.Nat.{le_antisymm}
use native.Mathlib.Omega.{arith}
use mathlib.Core.Path.{◌≡◌, ap, ◌∙◌}

pub record Upto {A : Type 0} (F : ℕ → A) (n i : ℕ) (a : A) : Type 0 where
  pub inside : i ≤ n
  pub value : a ≡ F i

module _ {A : Type 0} {F : ℕ → A} {n i : ℕ} {a : A} (before : Upto F n i a) where
  pub onward : {b : A} → i < n → b ≡ F (i + 1) → Upto F n (i + 1) b
  onward l e = record { inside = omega arith; value = e }

  pub whole : n ≤ i → a ≡ F n
  whole l = before.value ∙ ap F (le_antisymm before.inside l)
