-- What a chain of iterators over a part of a list computes, in the words of the definitions.
use mathlib.Core.Path.{◌≡◌, refl, sym, ap, ◌∙◌}
use Prim.Native.Nat.{ℕ, zero, suc, ◌+◌, ◌≤◌}
use native.Mathlib.Nat.{le_refl}
use native.Mathlib.Omega.{arith}
use native.Mathlib.Numerals.{add-one}
use mathlib.Core.Bool.{Bool, true, ◌&&◌}
use mathlib.Core.List.{List}
use lib.Dec.{eqb}
use lib.ListN.{length, get_or, take, drop}
use lib.Seq.{take-length, length-take-le, get_or-take, get_or-drop}
use Rattle.std.specs.List.{fold, list_all}
use Rattle.std.proofs.lemmas.List.Folds.{list_all_more}
use Rattle.circuit.specs.Counting.{every}
use Rattle.circuit.specs.File.{clear}
use Rattle.laws.proofs.Counting.{every_same}
use Rattle.laws.proofs.Asking.{all_asked}
use Rattle.blocks.proofs.Digits.{part_room}

module _ {A : Type 0} (p : A → Bool) (xs : List A) (z : A) where
  all_front : (n : ℕ) → n ≤ length xs → list_all p (take n xs) ≡ every (λ i. p (get_or xs i z)) n
  unfolding every
  all_front zero h = refl
  all_front (suc n) h = rw (← add-one n) (list_all_more p xs n z (omega arith)) ∙ ap (λ b. b && p (get_or xs n z)) (all_front n (omega arith))

  -- each element of a list
  pub all_every : list_all p xs ≡ every (λ i. p (get_or xs i z)) (length xs)
  all_every = ap (list_all p) (sym (take-length xs)) ∙ all_front (length xs) (le_refl _)

-- each byte of a part of a list
pub part_clear : (s : List ℕ) (at n m : ℕ) → at + n ≤ length s → m ≡ n → list_all (λ b. eqb b 0) (take m (drop at s)) ≡ clear n at s
unfolding clear
part_clear s at n m room e =
    ap (λ (k : ℕ). list_all (λ b. eqb b 0) (take k (drop at s))) e
    ∙ all_every (λ b. eqb b 0) (take n (drop at s)) 0
    ∙ ap (every (λ i. eqb (get_or (take n (drop at s)) i 0) 0)) (length-take-le n (drop at s) (part_room at n s room))
    ∙ every_same _ _ n (λ i l. ap (λ b. eqb b 0) (get_or-take n (drop at s) i 0 l ∙ get_or-drop at s i 0))

-- and where each is asked
pub part_asked : (s : List ℕ) (at n m : ℕ) → at + n ≤ length s → m ≡ n → fold (λ b x. b && eqb x 0) true (take m (drop at s)) ≡ clear n at s
part_asked s at n m room e = all_asked (λ x. eqb x 0) (take m (drop at s)) true ∙ part_clear s at n m room e
