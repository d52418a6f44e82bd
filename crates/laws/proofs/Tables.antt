-- A table that code writes out: one test over all of it, which antt computes, says that each entry is what a definition gives at its place.
use Prim.Native.Nat.{ℕ, zero, suc, ◌+◌, ◌<◌}
use native.Mathlib.Nat.{add-zero, add-suc, zero-add, suc-add, le_of_suc-le-suc, not-suc-le-zero}
use mathlib.Core.Path.{◌≡◌, sym, ap, ◌∙◌}
use mathlib.Core.Bool.{Bool, true, false, ◌&&◌, and-eq-true_iff, true≢false}
use mathlib.Core.List.{List, [], ◌∷◌}
use borrow.Author.Tests.{eqb-true}
use lib.Dec.{eqb}
use lib.ListN.{length, get_or}
use lib.IntN.{ℤ, pos, negsuc}

abbrev is : ℤ → ℕ → Bool
is (pos n) w = eqb w n
is (negsuc n) w = false

is_so : (z : ℤ) (w : ℕ) → is z w ≡ true → pos w ≡ z
is_so (pos n) w e = ap pos (eqb-true w n e)
is_so (negsuc n) w e = absurd (true≢false (sym e))

-- the test: the entries from place i on
abbrev pub as_defined : (ℕ → ℤ) → ℕ → List ℕ → Bool
as_defined f i [] = true
as_defined f i (w ∷ ws) = is (f i) w && as_defined f (suc i) ws

module _ (f : ℕ → ℤ) where
  from_place : (ws : List ℕ) (i : ℕ) → as_defined f i ws ≡ true → (n : ℕ) → n < length ws → pos (get_or ws n 0) ≡ f (i + n)
  from_place [] i e n h = absurd (not-suc-le-zero h)
  from_place (w ∷ ws) i e zero h = is_so (f i) w ((and-eq-true_iff _ _).0 e).0 ∙ ap f (sym (add-zero i))
  from_place (w ∷ ws) i e (suc n) h =
      from_place ws (suc i) ((and-eq-true_iff (is (f i) w) _).0 e).1 n (le_of_suc-le-suc h) ∙ ap f (suc-add i n ∙ sym (add-suc i n))

  pub entry_defined : (ws : List ℕ) → as_defined f 0 ws ≡ true → (n : ℕ) → n < length ws → pos (get_or ws n 0) ≡ f n
  entry_defined ws e n h = from_place ws 0 e n h ∙ ap f (zero-add n)
