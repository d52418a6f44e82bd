-- Laws of a take's bytes: whole samples and the bytes left over, where the bytes are cut anywhere; outputs one after another; and that no
-- sample of three bytes is refused with 14.
use Prim.Native.Nat.{ℕ, ◌+◌, ◌*◌, ◌/◌, ◌%◌, ◌^◌, ◌<◌, ◌≤◌}
use native.Mathlib.Nat.{mul-zero, mul-suc, mod-lt}
use native.Mathlib.Omega.{arith}
use borrow.Author.Tests.{ltb-true, ltb-false, le-leb}
use mathlib.Core.Path.{◌≡◌, refl, sym, ap, ap₂, ◌∙◌}
use mathlib.Core.Bool.{Bool, true, false, cond}
use mathlib.Core.List.{List, [], ◌∷◌, ◌++◌, map, append_assoc, append-nil}
use lib.Dec.{ltb, lit<}
use lib.ListN.{length, take, drop, length-append, length-drop}
use lib.Seq.{drop-drop, drop-append-le, take-take, take-append-le, take-append_seam}
use lib.IntN.{ℤ, pos, nat_abs, ◌-ℤ◌}
use Rattle.whole.specs.Integers.{at, ◌⊟◌}
use Rattle.whole.specs.Order.{zarith, Abs}
use Rattle.circuit.specs.Counting.{table}
use Rattle.circuit.specs.Record.{source_limit}
use Rattle.circuit.specs.File.{bytes, number_at, number_of, signed_bytes, zeros, concat}
use Rattle.circuit.specs.Run.{play}
use Rattle.circuit.specs.Take.{sample_length, output_length, left_limit, signed, sample_at, samples_of, left_over, output_bytes}
use Rattle.circuit.specs.declared.Record.{Record}
use Rattle.laws.proofs.Counting.{length_table, get_or-table, table_same, table_append}
use Rattle.laws.proofs.Playing.{play_within}

-- ---- how many

pub length-samples_of : (s : List ℕ) → length (samples_of s) ≡ length s / sample_length
unfolding samples_of
length-samples_of s = length_table (λ i. sample_at i s) (length s / sample_length)

pub length-left_over : (s : List ℕ) → length (left_over s) ≤ left_limit
unfolding left_over
length-left_over s = rw length-drop (omega arith)

-- ---- pieces, one after another

module _ {A : Type 0} (f : A → List ℕ) where
  pub concat_append : (xs ys : List A) → concat (map f (xs ++ ys)) ≡ concat (map f xs) ++ concat (map f ys)
  unfolding concat
  concat_append [] ys = refl
  concat_append (x ∷ xs) ys = rw (append_assoc, concat_append xs ys)

  pub length_concat : (w : ℕ) → ((a : A) → length (f a) ≡ w) → (xs : List A) → length (concat (map f xs)) ≡ w * length xs
  unfolding concat
  length_concat w size [] = sym (mul-zero w)
  length_concat w size (x ∷ xs) = length-append (f x) (concat (map f xs)) ∙ omega (arith, size x, length_concat w size xs, mul-suc w (length xs))

-- ---- outputs

pub output_bytes-append : (vs ws : List ℤ) → output_bytes (vs ++ ws) ≡ output_bytes vs ++ output_bytes ws
unfolding output_bytes
output_bytes-append = concat_append signed_bytes

-- one output more
pub output_bytes-snoc : (vs : List ℤ) (v : ℤ) → output_bytes (vs ++ (v ∷ [])) ≡ output_bytes vs ++ signed_bytes v
unfolding output_bytes concat
output_bytes-snoc vs v = output_bytes-append vs (v ∷ []) ∙ ap (λ b. output_bytes vs ++ b) (append-nil (signed_bytes v))

pub length-output_bytes : (vs : List ℤ) → length (output_bytes vs) ≡ output_length * length vs
unfolding output_bytes bytes
length-output_bytes = length_concat signed_bytes output_length (λ v. refl)

-- ---- cut in two

-- the sample in three bytes
abbrev sample_in : List ℕ → ℤ
sample_in b = signed (number_of b % 2 ^ 24)

module _ (s t : List ℕ) where
  abbrev whole : ℕ
  whole = length s / sample_length

  abbrev more : ℕ
  more = length (left_over s ++ t) / sample_length

  -- past the whole samples of s
  past : (n : ℕ) → drop (sample_length * (whole + n)) (s ++ t) ≡ drop (sample_length * n) (left_over s ++ t)
  unfolding left_over
  past n =
      let sum : sample_length * (whole + n) ≡ sample_length * whole + sample_length * n = omega arith in
      rw (sum, ← drop-drop (sample_length * n) (sample_length * whole) (s ++ t), drop-append-le (sample_length * whole) s t (omega arith))

  -- within them
  inside : (i : ℕ) → i < whole → take sample_length (drop (sample_length * i) (s ++ t)) ≡ take sample_length (drop (sample_length * i) s)
  inside i l =
      rw (drop-append-le (sample_length * i) s t (omega arith))
      (take-append-le sample_length (drop (sample_length * i) s) t (rw length-drop (omega arith)))

  count : length (s ++ t) / sample_length ≡ whole + more
  unfolding left_over
  count = rw (length-append s t, length-append, length-drop) (omega arith)

  pub samples_of-append : samples_of (s ++ t) ≡ samples_of s ++ samples_of (left_over s ++ t)
  unfolding samples_of
  samples_of-append =
      ap (table (λ i. sample_at i (s ++ t))) count
      ∙ table_append (λ i. sample_at i (s ++ t)) whole more
      ∙ ap₂ ◌++◌ (table_same _ _ whole (λ i l. ap sample_in (inside i l))) (table_same _ _ more (λ i l. ap (λ b. sample_in (take sample_length b)) (past i)))

  pub left_over-append : left_over (s ++ t) ≡ left_over (left_over s ++ t)
  unfolding left_over
  left_over-append = rw (count, past more)

-- what a take carries of the bytes left over
pub left_carried : (s : List ℕ) → length s ≤ left_limit → take (length s) (take left_limit (s ++ zeros left_limit)) ≡ s
left_carried s l = take-take (length s) left_limit (s ++ zeros left_limit) l ∙ take-append_seam s (zeros left_limit)

-- ---- no sample is refused with 14

signed_small : (n : ℕ) → n < 2 ^ 24 → Abs (signed n) (2 ^ 23)
signed_small n h = by (ltb n (2 ^ 23)) refl
  where
    by : (b : Bool) → ltb n (2 ^ 23) ≡ b → Abs (cond b (pos n) (pos n -ℤ pos (2 ^ 24))) (2 ^ 23)
    by true e = let l = ltb-true n (2 ^ 23) e in record { bound = omega arith }
    by false e = let l = ltb-false n (2 ^ 23) e in omega (zarith, at (pos n) ⊟ at (pos (2 ^ 24)))

pub sample_small : (s : List ℕ) (i : ℕ) → Abs (sample_at i s) (2 ^ 23)
sample_small s i = signed_small (number_at sample_length (sample_length * i) s % 2 ^ 24) (mod-lt _ (lit< tt))

pub samples_number : (r : Record) (ws : List ℤ) (s : List ℕ) → 0 < (play r ws (samples_of s)).number → (play r ws (samples_of s)).number ≡ 15
unfolding samples_of
samples_number r ws s =
    play_within r ws (samples_of s)
    (λ i l.
    rw (get_or-table (λ j. sample_at j s) (length s / sample_length) i (pos 0) (rw length-samples_of at l))
    (le-leb (nat_abs (sample_at i s)) source_limit (omega (arith, (sample_small s i).bound))))
