-- The laws of a block: the check goes by the bytes before it alone, a sealed block is right, and a right block is what sealing it gives.
use mathlib.Core.Path.{◌≡◌, refl, sym, ap, ◌∙◌}
use Prim.Native.Nat.{ℕ, zero, suc, ◌+◌, ◌-◌, ◌*◌, ◌%◌, ◌^◌, ◌<◌, ◌≤◌}
use native.Mathlib.Nat.{mod-lt}
use native.Mathlib.Omega.{arith}
use mathlib.Core.List.{List, ◌++◌, append_assoc, append-nil}
use lib.Dec.{lit<}
use lib.ListN.{length, take, drop, length-append, length-replicate, drop_of_length-le}
use lib.Seq.{take_at, drop_at, take-add, take_all, length-take-le}
use Rattle.circuit.specs.Counting.{total}
use Rattle.circuit.specs.File.{block_length, check_place, bytes, number_of, number_at, zeros, check_of, filled, block}
use Rattle.blocks.specs.Placing.{Bytes, placed, begun, sealed}
use Rattle.blocks.proofs.Digits.{number_bytes, length_bytes, part_back}
use Rattle.blocks.proofs.Placed.{inner, split_zeros}

words_take : (n m : ℕ) (s : List ℕ) → 4 * n ≤ m → total (λ i. number_at 4 (4 * i) (take m s)) n ≡ total (λ i. number_at 4 (4 * i) s) n
unfolding total
words_take zero m s h = refl
words_take (suc n) m s h = rw (words_take n m s (omega arith), inner (4 * n) m 4 s (omega arith))

check_take : (k : ℕ) (s : List ℕ) → check_of k (take check_place s) ≡ check_of k s
unfolding check_of
check_take k s = ap (λ (x : ℕ). (x + k + 1) % 2 ^ 32) (words_take 127 check_place s (omega arith))

check_lt : (k : ℕ) (s : List ℕ) → check_of k s < 2 ^ 32
unfolding check_of
check_lt k s = mod-lt (total (λ i. number_at 4 (4 * i) s) 127 + k + 1) (lit< tt)

-- the check put in its place
pub check_placed : (k c : ℕ) (b : List ℕ) → length b ≡ block_length → c ≡ check_of k b → placed b check_place (bytes 4 c) ≡ sealed k b
unfolding sealed
check_placed k c b n e =
    rw (e, length_bytes 4 (check_of k b), drop_of_length-le b {i = block_length} (omega arith)) (append-nil (take check_place b ++ bytes 4 (check_of k b)))

-- ---- a block that was written, as it is read

-- what stands behind the fields of a block: zeros, and the check
abbrev pad : List ℕ → List ℕ
pad fields = zeros (check_place - length fields)

abbrev check : ℕ → List ℕ → List ℕ
check k fields = bytes 4 (check_of k (filled fields))

abbrev pub behind : ℕ → List ℕ → List ℕ
behind k fields = pad fields ++ check k fields

module _ (k : ℕ) (fields : List ℕ) (h : length fields ≤ check_place) where
  pad_length : length (pad fields) ≡ check_place - length fields
  pad_length = length-replicate {A = ℕ} (check_place - length fields) 0

  filled_length : length (filled fields) ≡ check_place
  filled_length = length-append fields (pad fields) ∙ rw pad_length (omega arith)

  -- a new block with the fields in it, sealed
  pub begun_sealed : sealed k (begun fields) ≡ block k fields
  unfolding sealed block
  begun_sealed = ap (λ (c : ℕ). take check_place (begun fields) ++ bytes 4 c) (sym (check_take k (begun fields))) ∙ ap (λ (x : List ℕ). x ++ bytes 4 (check_of k x)) front
    where
      front : take check_place (begun fields) ≡ filled fields
      front =
          ap (λ (x : List ℕ). take check_place (fields ++ x)) (split_zeros (check_place - length fields) 4 (block_length - length fields) (omega arith))
          ∙ ap (take check_place) (sym (append_assoc fields (pad fields) (zeros 4)))
          ∙ take_at (filled fields) (zeros 4) check_place filled_length

  pub block_length_lem : length (block k fields) ≡ block_length
  unfolding block
  block_length_lem = length-append (filled fields) (check k fields) ∙ rw (filled_length, length_bytes 4 (check_of k (filled fields)))

  pub block_form : block k fields ≡ fields ++ behind k fields
  unfolding block
  block_form = append_assoc fields (pad fields) (check k fields)

  pub block_clear : take (check_place - length fields) (drop (length fields) (block k fields)) ≡ pad fields
  block_clear =
      ap (λ (x : List ℕ). take (check_place - length fields) (drop (length fields) x)) block_form
      ∙ ap (take (check_place - length fields)) (drop_at fields (behind k fields) (length fields) refl)
      ∙ take_at (pad fields) (check k fields) (check_place - length fields) pad_length

  -- its check is right
  pub block_right : number_at 4 check_place (block k fields) ≡ check_of k (block k fields)
  unfolding block
  block_right =
      ap (λ (x : List ℕ). number_of (take 4 x)) (drop_at (filled fields) (check k fields) check_place filled_length)
      ∙ ap number_of (take_all 4 (check k fields) (rw (length_bytes 4 (check_of k (filled fields))) (omega arith)))
      ∙ number_bytes 4 (check_of k (filled fields)) (check_lt k (filled fields))
      ∙ ap (check_of k) (sym (take_at (filled fields) (check k fields) check_place filled_length))
      ∙ check_take k (filled fields ++ check k fields)

-- ---- a block that was read, as it is written

pub block_back : (k n : ℕ) (fields b : List ℕ) → Bytes b → length b ≡ block_length → n ≤ check_place → fields ≡ take n b
    → take (check_place - n) (drop n b) ≡ zeros (check_place - n) → number_at 4 check_place b ≡ check_of k b → block k fields ≡ b
unfolding block
block_back k n fields b bs long h f z right =
    ap (λ (x : List ℕ). x ++ bytes 4 (check_of k x)) front
    ∙ ap (λ (c : ℕ). take check_place b ++ bytes 4 c) (check_take k b ∙ sym right)
    ∙ ap (λ (x : List ℕ). take check_place b ++ x) (part_back b bs check_place 4 (omega arith))
    ∙ sym (take-add check_place 4 b)
    ∙ take_all block_length b (omega arith)
  where
    size : length fields ≡ n
    size = ap length f ∙ length-take-le n b (omega arith)

    front : filled fields ≡ take check_place b
    front =
        let e : n + (check_place - n) ≡ check_place = omega arith in
        ap (λ (m : ℕ). fields ++ zeros (check_place - m)) size
        ∙ ap (λ (x : List ℕ). x ++ zeros (check_place - n)) f
        ∙ ap (λ (x : List ℕ). take n b ++ x) (sym z)
        ∙ sym (take-add n (check_place - n) b)
        ∙ ap (λ (m : ℕ). take m b) e
