-- Pieces of one length: a turn of a loop that places them one after another into a new block, and the pieces found again in the list that they
-- make. And parts of a list.
use mathlib.Core.Path.{◌≡◌, sym, ap, ◌∙◌}
use Prim.Native.Nat.{ℕ, zero, suc, ◌+◌, ◌*◌, ◌<◌, ◌≤◌, zero-le}
use native.Mathlib.Nat.{mul-suc}
use native.Mathlib.Numerals.{add-one}
use native.Mathlib.Omega.{arith}
use mathlib.Core.List.{List, [], ◌∷◌, ◌++◌, map, append_assoc, append-nil}
use lib.ListN.{length, get_or, take, drop, length-append, length-replicate}
use lib.Seq.{take-suc, take_all, take-add, take_at, drop_at, drop-drop}
use Rattle.circuit.specs.Counting.{table}
use Rattle.circuit.specs.File.{block_length, zeros, concat}
use Rattle.blocks.specs.Placing.{placed, begun}
use Rattle.blocks.proofs.Placed.{inner, Begun, begun_none, begun_more, begun_bytes}

-- ---- a part of a list

-- a part of a part
pub part_inner : (s : List ℕ) (at w i k : ℕ) → i + k ≤ w → take k (drop i (take w (drop at s))) ≡ take k (drop (at + i) s)
part_inner s at w i k h = inner i w k (drop at s) h ∙ ap (take k) (drop-drop i at s)

-- n bytes from `at` on, and k more
pub part_more : (s : List ℕ) (at n k p : ℕ) (front v : List ℕ) → p ≡ at + n → front ≡ take n (drop at s) → v ≡ take k (drop p s)
    → front ++ v ≡ take (n + k) (drop at s)
part_more s at n k p front v e f g = rw (f, g, e, ← drop-drop n at s) (sym (take-add n k (drop at s)))

-- ---- pieces, one after another

concat_snoc : {A : Type 0} (f : A → List ℕ) (xs : List A) (a : A) → concat (map f (xs ++ (a ∷ []))) ≡ concat (map f xs) ++ f a
unfolding concat
concat_snoc f [] a = append-nil (f a)
concat_snoc f (x ∷ xs) a = ap (λ (r : List ℕ). f x ++ r) (concat_snoc f xs a) ∙ sym (append_assoc (f x) (concat (map f xs)) (f a))

-- the first i of xs stand in a new block as pieces of w bytes, one after another
pub record Pieces {A : Type 0} (f : A → List ℕ) (w : ℕ) (xs : List A) (b : List ℕ) (i : ℕ) : Type 0 where
  pub inside : i ≤ length xs
  pub long : length b ≡ block_length
  pub entered : Begun (w * i) b (concat (map f (take i xs)))

module _ {A : Type 0} {f : A → List ℕ} {w : ℕ} {xs : List A} where
  pub pieces_none : Pieces f w xs (zeros block_length) 0
  unfolding concat
  pieces_none =
      let e : w * 0 ≡ 0 = omega arith in
      record { inside = zero-le; long = length-replicate {A = ℕ} block_length 0; entered = rw e begun_none }

  module _ {b : List ℕ} {i : ℕ} (p : Pieces f w xs b i) where
    pub pieces_more : ((a : A) → length (f a) ≡ w) → (z : A) {next : List ℕ} → i < length xs → next ≡ placed b (w * i) (f (get_or xs i z))
        → length next ≡ length b → Pieces f w xs next (i + 1)
    pieces_more size z h e same =
        let n : w * (i + 1) ≡ w * i + w = omega arith in
        record {
          inside = omega arith;
          long = same ∙ p.long;
          entered =
              rw (e, n, add-one, take-suc xs i z h, concat_snoc f (take i xs) (get_or xs i z))
              (begun_more p.entered (f (get_or xs i z)) w (size (get_or xs i z)));
        }

    pub pieces_all : length xs ≤ i → b ≡ begun (concat (map f xs))
    pieces_all h = begun_bytes (rw (take_all i xs h) at p.entered)

-- ---- pieces of w bytes, found again

module _ {A : Type 0} (f : A → List ℕ) (w : ℕ) (z : A) where
  pub pieces_length : (xs : List A) → ((j : ℕ) → j < length xs → length (f (get_or xs j z)) ≡ w) → length (concat (map f xs)) ≡ w * length xs
  unfolding concat
  pieces_length [] h = omega arith
  pieces_length (x ∷ xs) h =
      let e : length (f x) ≡ w = h 0 (omega arith) in
      let q : length (concat (map f xs)) ≡ w * length xs = pieces_length xs (λ j l. h (suc j) (omega arith)) in
      length-append (f x) (concat (map f xs)) ∙ omega (arith, e, q, mul-suc w (length xs))

  -- piece j, with anything behind the pieces
  pub pieces_at : (xs : List A) (t : List ℕ) → ((j : ℕ) → j < length xs → length (f (get_or xs j z)) ≡ w)
      → (j : ℕ) → j < length xs → take w (drop (w * j) (concat (map f xs) ++ t)) ≡ f (get_or xs j z)
  unfolding concat
  pieces_at [] t h j l = absurd (omega arith)
  pieces_at (x ∷ xs) t h zero l =
      let e : w * 0 ≡ 0 = omega arith in
      rw (e, append_assoc (f x) (concat (map f xs)) t) (take_at (f x) (concat (map f xs) ++ t) w (h 0 (omega arith)))
  pieces_at (x ∷ xs) t h (suc j) l =
      let e : w * suc j ≡ w + w * j = omega (arith, mul-suc w j) in
      let rest = concat (map f xs) ++ t in
      rw (e, append_assoc (f x) (concat (map f xs)) t, ← drop-drop (w * j) w (f x ++ rest), drop_at (f x) rest w (h 0 (omega arith)))
      (pieces_at xs t (λ i k. h (suc i) (omega arith)) j (omega arith))

  -- pieces that are each a part of a list are a part of it together
  pub pieces_back : (g : ℕ → A) (n : ℕ) (l : List ℕ) → ((j : ℕ) → j < n → f (g j) ≡ take w (drop (w * j) l))
      → concat (map f (table g n)) ≡ take (w * n) l
  unfolding table concat
  pieces_back g zero l h = let e : w * 0 ≡ 0 = omega arith in rw e
  pieces_back g (suc n) l h =
      let e : w * suc n ≡ w * n + w = omega (arith, mul-suc w n) in
      concat_snoc f (table g n) (g n)
      ∙ rw (pieces_back g n l (λ j k. h j (omega arith)), h n (omega arith), e) (sym (take-add (w * n) w l))
