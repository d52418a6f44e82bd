-- The laws of raw bytes: the sample in three of them, the samples that there is room for, and the four bytes of an output.
use Prim.Native.Nat.{ℕ, suc, ◌+◌, ◌*◌, ◌/◌, ◌%◌, ◌^◌, ◌<◌, ◌≤◌, min}
use native.Mathlib.Omega.{arith}
use mathlib.Core.Path.{◌≡◌, refl, ◌∙◌}
use mathlib.Core.List.{List, [], ◌∷◌, ◌++◌}
use lib.ListN.{length, get_or, take, drop, set, length-append, length-take}
use lib.Seq.{get_or-take, drop-cons, drop-append-add, sets}
use lib.IntN.{pos}
use Rattle.whole.specs.Integers.{at}
use Rattle.circuit.specs.File.{bytes, number_at, number_of}
use Rattle.circuit.specs.Take.{sample_length, signed, sample_at, samples_of}
use Rattle.laws.proofs.Counting.{get_or-table}
use Rattle.laws.proofs.Bytes.{length-samples_of}
use Rattle.engine.specs.Raw.{fitting}

-- ---- a sample

-- the three bytes from a place on
pub three_from : (s : List ℕ) (at : ℕ) → at + sample_length ≤ length s
    → take sample_length (drop at s) ≡ get_or s at 0 ∷ get_or s (at + 1) 0 ∷ get_or s (at + 2) 0 ∷ []
three_from s at l =
    let second : at + 1 ≡ suc at = omega arith in
    let third : at + 2 ≡ suc (suc at) = omega arith in
    rw (second, third, drop-cons s at 0 (omega arith), drop-cons s (suc at) 0 (omega arith), drop-cons s (suc (suc at)) 0 (omega arith)) refl

module _ (s t : List ℕ) where
  -- a sample that stands in the second of two lists
  pub sample_after : (k i : ℕ) → length s + k ≡ sample_length * i → signed (number_at sample_length k t % 2 ^ 24) ≡ sample_at i (s ++ t)
  sample_after k i e = rw (← e, drop-append-add s t k)

  -- one of which each byte is read from both together
  pub sample_across : (i : ℕ) → sample_length * i + sample_length ≤ length s + length t → {a b c : ℕ} → a ≡ get_or (s ++ t) (sample_length * i) 0
      → b ≡ get_or (s ++ t) (sample_length * i + 1) 0 → c ≡ get_or (s ++ t) (sample_length * i + 2) 0
      → signed (number_of (a ∷ b ∷ c ∷ []) % 2 ^ 24) ≡ sample_at i (s ++ t)
  sample_across i l f g h = rw (f, g, h, three_from (s ++ t) (sample_length * i) (rw length-append (omega arith)))

-- ---- whole samples, but no more than so many

module _ (most : ℕ) (s t : List ℕ) where
  pub length_fitting : length (fitting most (s ++ t)) ≡ min most ((length s + length t) / sample_length)
  length_fitting = rw (length-take, length-samples_of, length-append)

  module _ (i : ℕ) (l : i < length (fitting most (s ++ t))) where
    few : (i < most) × (i < (length s + length t) / sample_length)
    few = omega (arith, rw length_fitting at l)

    pub fitting_whole : sample_length * i + sample_length ≤ length s + length t
    fitting_whole = omega (arith, few)

    pub fitting_at : get_or (fitting most (s ++ t)) i (pos 0) ≡ sample_at i (s ++ t)
    unfolding samples_of
    fitting_at =
        get_or-take most (samples_of (s ++ t)) i (pos 0) few.0
        ∙ get_or-table (λ j. sample_at j (s ++ t)) (length (s ++ t) / sample_length) i (pos 0) (rw length-append few.1)

-- ---- an output

pub four_placed : (s : List ℕ) (at n : ℕ)
    → set (set (set (set s at (n % 256)) (at + 1) (n / 256 % 256)) (at + 2) (n / 65536 % 256)) (at + 3) (n / 16777216 % 256) ≡ sets s at (bytes 4 n)
unfolding bytes
four_placed s at n =
    let second : at + 1 ≡ suc at = omega arith in
    let third : at + 2 ≡ suc (suc at) = omega arith in
    let fourth : at + 3 ≡ suc (suc (suc at)) = omega arith in
    let high : n / 65536 ≡ n / 256 / 256 = omega arith in
    let higher : n / 16777216 ≡ n / 256 / 256 / 256 = omega arith in
    rw (second, third, fourth, high, higher) refl
