-- The laws of bytes placed in a list: after a front, one after another, and into a new block of zeros.
use mathlib.Core.Path.{◌≡◌, refl, sym, ap, ◌∙◌}
use Prim.Native.Nat.{ℕ, zero, suc, ◌+◌, ◌-◌, ◌≤◌}
use native.Mathlib.Nat.{sub-zero, zero-sub, suc-sub-suc}
use native.Mathlib.Omega.{arith}
use mathlib.Core.List.{List, [], ◌∷◌, ◌++◌, append_assoc, append-nil}
use lib.ListN.{length, take, drop, length-append, length-replicate, replicate-append-replicate, drop_of_length-le}
use lib.Seq.{take-take, drop-drop, take_at, drop_at, length-take-le}
use Rattle.std.specs.Int.{bytes_low_first}
use Rattle.circuit.specs.File.{block_length, bytes, zeros}
use Rattle.blocks.specs.Placing.{placed, begun}
use Rattle.blocks.proofs.Digits.{le_bytes}

-- a part of a front is a part of the whole
pub inner : {A : Type 0} (i w k : ℕ) (l : List A) → i + k ≤ w → take k (drop i (take w l)) ≡ take k (drop i l)
inner zero w k l h = take-take k w l (omega arith)
inner (suc i) zero k l h = absurd (omega arith)
inner (suc i) (suc w) k [] h = refl
inner (suc i) (suc w) k (x ∷ l) h = inner i w k l (omega arith)

drop_zeros_lem : (k n : ℕ) → drop k (zeros n) ≡ zeros (n - k)
drop_zeros_lem zero n = ap zeros (sym (sub-zero n))
drop_zeros_lem (suc k) zero = ap zeros (sym (zero-sub (suc k)))
drop_zeros_lem (suc k) (suc n) = drop_zeros_lem k n ∙ ap zeros (sym (suc-sub-suc n k))

pub split_zeros : (a b n : ℕ) → a + b ≡ n → zeros n ≡ zeros a ++ zeros b
split_zeros a b n e = ap zeros (sym e) ∙ sym (replicate-append-replicate a b 0)

-- ---- placed

-- a number that the library turned into its bytes
pub number_placed : (d : List ℕ) (at k n : ℕ) {m v : List ℕ} → m ≡ placed d at v → v ≡ bytes_low_first 0 k n → m ≡ placed d at (bytes k n)
number_placed d at k n e f = e ∙ ap (placed d at) (f ∙ le_bytes k n)

-- after a front
placed_after : (a r v : List ℕ) (at : ℕ) → length a ≡ at → placed (a ++ r) at v ≡ a ++ v ++ drop (length v) r
placed_after a r v at e =
    ap (λ (x : List ℕ). x ++ v ++ drop (at + length v) (a ++ r)) (take_at a r at e)
    ∙ ap (λ (x : List ℕ). a ++ v ++ x) (sym (drop-drop (length v) at (a ++ r)) ∙ ap (λ (x : List ℕ). drop (length v) x) (drop_at a r at e))

-- where what was placed before ends
placed_more : (d a b : List ℕ) (at m : ℕ) → at + length a ≡ m → at ≤ length d → placed (placed d at a) m b ≡ placed d at (a ++ b)
placed_more d a b at m e h =
    placed_after (take at d ++ a) (drop (at + length a) d) b m
    (length-append (take at d) a ∙ ap (λ (x : ℕ). x + length a) (length-take-le at d h) ∙ e)
    ∙ ap (λ (x : List ℕ). take at d ++ a ++ b ++ x) (drop-drop (length b) (at + length a) d ∙ ap (λ (x : ℕ). drop x d) same)
    ∙ ap (λ (x : List ℕ). x ++ drop (at + length (a ++ b)) d) (append_assoc (take at d) a b)
  where
    same : at + length a + length b ≡ at + length (a ++ b)
    same = rw length-append (omega arith)

-- ---- fields of n bytes in all, entered one after another in d from `at` on

pub record Entered (d : List ℕ) (at n : ℕ) (m fields : List ℕ) : Type 0 where
  pub bytes : m ≡ placed d at fields
  pub long : length fields ≡ n

-- one field more
pub entered_more : {d : List ℕ} {at n : ℕ} {m fields : List ℕ} → Entered d at n m fields → at ≤ length d
    → (v next : List ℕ) (p k : ℕ) → p ≡ at + n → length v ≡ k → next ≡ placed m p v → Entered d at (n + k) next (fields ++ v)
entered_more {d} {at} {n} {m} {fields} g h v next p k e l q = record {
  bytes = q ∙ ap (λ (x : List ℕ). placed x p v) g.bytes ∙ placed_more d fields v at p (rw g.long (sym e)) h;
  long = length-append fields v ∙ rw (g.long, l);
}

-- fields that fill the list
pub entered_whole : {d m fields : List ℕ} {n : ℕ} → Entered d 0 n m fields → length d ≡ n → m ≡ fields
entered_whole {d} {m} {fields} g e =
    g.bytes ∙ ap (λ (x : List ℕ). fields ++ x) (drop_of_length-le d {i = 0 + length fields} (omega (arith, g.long))) ∙ append-nil fields

-- ---- a new block, and the fields that are entered in it so far

abbrev pub Begun : ℕ → List ℕ → List ℕ → Type 0
Begun n b fields = Entered (zeros block_length) 0 n b fields

pub begun_none : Begun 0 (zeros block_length) []
begun_none = record { bytes = refl; long = refl }

module _ {n : ℕ} {b fields : List ℕ} (g : Begun n b fields) where
  pub begun_more : (v : List ℕ) (k : ℕ) → length v ≡ k → Begun (n + k) (placed b n v) (fields ++ v)
  begun_more v k e = entered_more g (omega arith) v (placed b n v) n k (omega arith) e refl

  pub begun_bytes : b ≡ begun fields
  begun_bytes =
      let e : 0 + length fields ≡ length fields = omega arith in
      g.bytes ∙ ap (λ (k : ℕ). fields ++ drop k (zeros block_length)) e ∙ ap (λ (x : List ℕ). fields ++ x) (drop_zeros_lem (length fields) block_length)

  -- k zeros that stay
  pub begun_gap : (k : ℕ) → n + k ≤ block_length → Begun (n + k) b (fields ++ zeros k)
  begun_gap k h = record {
    bytes = begun_bytes ∙ ap (λ (x : List ℕ). fields ++ x) rest ∙ sym (append_assoc fields (zeros k) _);
    long = long;
  }
    where
      long : length (fields ++ zeros k) ≡ n + k
      long = length-append fields (zeros k) ∙ rw (g.long, length-replicate {A = ℕ} k 0)

      rest : zeros (block_length - length fields) ≡ zeros k ++ drop (0 + length (fields ++ zeros k)) (zeros block_length)
      rest =
          let n = 0 + length (fields ++ zeros k) in
          rw (drop_zeros_lem n block_length) (split_zeros k (block_length - n) (block_length - length fields) (omega (arith, long, g.long)))
