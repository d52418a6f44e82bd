-- A file as its blocks, one after another, each with its check: how they are written, where each is found, and when they are a list's own.
use mathlib.Core.Path.{◌≡◌, refl, sym, ap, ◌∙◌}
use Prim.Native.Nat.{ℕ, zero, suc, ◌+◌, ◌*◌, ◌<◌, ◌≤◌, zero-le}
use native.Mathlib.Omega.{arith}
use mathlib.Core.List.{List, [], ◌∷◌, ◌++◌, append_assoc, append-nil}
use lib.ListN.{length, get_or, drop, length-append, take-append-drop}
use lib.Seq.{take_at, drop_at, drop-drop}
use Rattle.circuit.specs.File.{block_length, check_place, block, sealed_from, block_at}
use Rattle.blocks.specs.Placing.{placed, begun, sealed}
use Rattle.blocks.proofs.Placed.{Entered, entered_more}
use Rattle.blocks.proofs.Blocks.{begun_sealed, block_length_lem}

-- ---- written one after another

sealed_snoc : (k : ℕ) (bs : List (List ℕ)) (b : List ℕ) → sealed_from k (bs ++ (b ∷ [])) ≡ sealed_from k bs ++ block (k + length bs) b
unfolding sealed_from
sealed_snoc k [] b = let e : k ≡ k + 0 = omega arith in append-nil (block k b) ∙ ap (λ (i : ℕ). block i b) e
sealed_snoc k (x ∷ bs) b =
    let e : suc k + length bs ≡ k + length (x ∷ bs) = omega arith in
    ap (λ (l : List ℕ). block k x ++ l) (sealed_snoc (suc k) bs b)
    ∙ sym (append_assoc (block k x) (sealed_from (suc k) bs) (block (suc k + length bs) b))
    ∙ ap (λ (i : ℕ). block k x ++ sealed_from (suc k) bs ++ block i b) e

-- no block yet, and one more
pub file_none : (d : List ℕ) → Entered d 0 (block_length * 0) d (sealed_from 0 [])
unfolding sealed_from
file_none d = record { bytes = refl; long = refl }

pub file_more : {d m b next : List ℕ} (bs : List (List ℕ)) (k : ℕ) (fields : List ℕ) → Entered d 0 (block_length * k) m (sealed_from 0 bs)
    → length bs ≡ k → length fields ≤ check_place → b ≡ begun fields → next ≡ placed m (block_length * k) (sealed k b)
    → Entered d 0 (block_length * k + block_length) next (sealed_from 0 (bs ++ (fields ∷ [])))
file_more {m = m} {next = next} bs k fields g e h f q =
    let i : 0 + length bs ≡ k = omega arith in
    rw (sealed_snoc 0 bs fields, i)
    (entered_more g zero-le (block k fields) next (block_length * k) block_length (omega arith) (block_length_lem k fields h)
    (q ∙ ap (placed m (block_length * k)) (ap (sealed k) f ∙ begun_sealed k fields h)))

-- ---- found again

-- every block's fields leave room for its check
abbrev pub Roomy : List (List ℕ) → Type 0
Roomy [] = Unit {0}
Roomy (b ∷ bs) = (length b ≤ check_place) × Roomy bs

pub roomy_at : (bs : List (List ℕ)) → Roomy bs → (j : ℕ) → length (get_or bs j []) ≤ check_place
roomy_at [] h j = zero-le
roomy_at (b ∷ bs) h zero = h.0
roomy_at (b ∷ bs) h (suc j) = roomy_at bs h.1 j

pub sealed_length : (k : ℕ) (bs : List (List ℕ)) → Roomy bs → length (sealed_from k bs) ≡ block_length * length bs
unfolding sealed_from
sealed_length k [] h = refl
sealed_length k (b ∷ bs) h =
    length-append (block k b) (sealed_from (suc k) bs) ∙ omega (arith, block_length_lem k b h.0, sealed_length (suc k) bs h.1)

pub sealed_at : (k : ℕ) (bs : List (List ℕ)) → Roomy bs → (j : ℕ) → j < length bs → block_at j (sealed_from k bs) ≡ block (k + j) (get_or bs j [])
unfolding sealed_from
sealed_at k [] h j l = absurd (omega arith)
sealed_at k (b ∷ bs) h zero l =
    let e : k ≡ k + 0 = omega arith in
    take_at (block k b) (sealed_from (suc k) bs) block_length (block_length_lem k b h.0) ∙ ap (λ (i : ℕ). block i b) e
sealed_at k (b ∷ bs) h (suc j) l =
    let e : suc k + j ≡ k + suc j = omega arith in
    let n : block_length * suc j ≡ block_length + block_length * j = omega arith in
    let rest = sealed_from (suc k) bs in
    rw (n, ← drop-drop (block_length * j) block_length (block k b ++ rest), drop_at (block k b) rest block_length (block_length_lem k b h.0))
    (sealed_at (suc k) bs h.1 j (omega arith) ∙ ap (λ (i : ℕ). block i (get_or bs j [])) e)

-- ---- blocks that are a list's own, from block k on

pub sealed_back : (k : ℕ) (b : List ℕ) (bs : List (List ℕ)) (s : List ℕ) → block k b ≡ block_at k s
    → sealed_from (suc k) bs ≡ drop (block_length * suc k) s → sealed_from k (b ∷ bs) ≡ drop (block_length * k) s
unfolding sealed_from
sealed_back k b bs s e f =
    let n : block_length * suc k ≡ block_length * k + block_length = omega arith in
    rw (e, f, n, ← drop-drop block_length (block_length * k) s) (take-append-drop block_length (drop (block_length * k) s))
