-- The laws of a number by its bytes, over how many bytes there are: from bytes to the number and back, the range, a byte alone, and the
-- library's words for the same.
use mathlib.Core.Path.{◌≡◌, refl, sym, ap, ap₂, ◌∙◌}
use Prim.Native.Nat.{ℕ, zero, suc, ◌+◌, ◌*◌, ◌/◌, ◌%◌, ◌^◌, ◌<◌, ◌≤◌}
use native.Mathlib.Nat.{div-add-mod', div-lt_iff_lt-mul, pow-suc, div-div-eq-div-mul, div-one, mod-eq_of_lt, le_refl, add-zero}
use native.Mathlib.Omega.{arith}
use mathlib.Core.List.{List, [], ◌∷◌, ◌++◌}
use lib.ListN.{length, get_or, take, drop, length-drop}
use lib.Arith.{lt-one}
use lib.Dec.{lit<}
use lib.Seq.{get_or-drop, length-take-le, take-suc, take-take}
use Rattle.std.specs.Int as library
use Rattle.std.specs.Int.{bytes_low_first, byte_worth, sum_through}
use mir.Syntax.{w8}
use mir.Val.{Fits}
use Rattle.circuit.specs.File.{bytes, number_of, number_at}
use Rattle.blocks.specs.Placing.{Bytes}

-- ---- bytes, and parts of a list of them

-- a caller has this of a slice, as `c.slice-known.given`
pub bytes_held : (l : List ℕ) → ((i : ℕ) → Fits w8 (get_or l i 0)) → Bytes l
bytes_held l h i = (h i).fits

pub bytes_drop : (n : ℕ) (l : List ℕ) → Bytes l → Bytes (drop n l)
bytes_drop n l b i = rw get_or-drop (b (n + i))

pub bytes_take : (n : ℕ) (l : List ℕ) → Bytes l → Bytes (take n l)
bytes_take zero l b i = lit< tt
bytes_take (suc n) [] b i = lit< tt
bytes_take (suc n) (x ∷ l) b zero = b 0
bytes_take (suc n) (x ∷ l) b (suc i) = bytes_take n l (λ j. b (suc j)) i

-- ---- the range of a number

number_lt : (l : List ℕ) → Bytes l → number_of l < 256 ^ length l
unfolding number_of
number_lt [] b = lit< tt
number_lt (x ∷ l) b = omega (arith, pow-suc 256 (length l), number_lt l (λ i. b (suc i)), b 0)

-- ---- there and back

pub number_bytes : (k n : ℕ) → n < 256 ^ k → number_of (bytes k n) ≡ n
unfolding number_of bytes
number_bytes zero n h = sym (lt-one h)
number_bytes (suc k) n h =
    let q = number_bytes k (n / 256) ((div-lt_iff_lt-mul (lit< tt)).1 (rw pow-suc at h)) in
    omega (arith, div-add-mod' n 256)

-- a byte in front of a number is its remainder, and the number its quotient
byte_front : (x n : ℕ) → x < 256 → ((x + 256 * n) % 256 ≡ x) × ((x + 256 * n) / 256 ≡ n)
byte_front x n h = omega arith

bytes_number : (l : List ℕ) → Bytes l → bytes (length l) (number_of l) ≡ l
unfolding number_of bytes
bytes_number [] b = refl
bytes_number (x ∷ l) b = rw ((byte_front x (number_of l) (b 0)).0, (byte_front x (number_of l) (b 0)).1, bytes_number l (λ i. b (suc i)))

pub length_bytes : (k n : ℕ) → length (bytes k n) ≡ k
unfolding bytes
length_bytes zero n = refl
length_bytes (suc k) n = ap suc (length_bytes k (n / 256))

-- ---- byte i of a number, and the rest past it

pub digit_more : (n i : ℕ) → n / 256 ^ i / 256 ≡ n / 256 ^ suc i
digit_more n i = div-div-eq-div-mul n (256 ^ i) 256 ∙ ap (λ (x : ℕ). n / x) (sym (pow-suc 256 i))

-- ---- k bytes in their place, from `at` on

pub part_room : (at k : ℕ) (l : List ℕ) → at + k ≤ length l → k ≤ length (drop at l)
part_room at k l h = rw length-drop (omega arith)

module _ (s : List ℕ) (b : Bytes s) (at k : ℕ) (h : at + k ≤ length s) where
  part_length : length (take k (drop at s)) ≡ k
  part_length = length-take-le k (drop at s) (part_room at k s h)

  pub part_below : number_at k at s < 256 ^ k
  part_below = rw part_length at (number_lt (take k (drop at s)) (bytes_take k (drop at s) (bytes_drop at s b)))

  pub part_back : bytes k (number_at k at s) ≡ take k (drop at s)
  part_back =
      ap (λ (m : ℕ). bytes m (number_at k at s)) (sym part_length)
      ∙ bytes_number (take k (drop at s)) (bytes_take k (drop at s) (bytes_drop at s b))

-- ---- a byte alone

pub byte_alone : (n : ℕ) → n < 256 → bytes 1 n ≡ n ∷ []
unfolding bytes
byte_alone n h = ap (λ (x : ℕ). x ∷ []) (mod-eq_of_lt h)

first_byte : (l : List ℕ) → number_of (take 1 l) ≡ get_or l 0 0
unfolding number_of
first_byte [] = refl
first_byte (x ∷ l) = omega arith

pub byte_at : (at : ℕ) (s : List ℕ) → get_or s at 0 ≡ number_at 1 at s
byte_at at s = sym (first_byte (drop at s) ∙ get_or-drop at s 0 0 ∙ ap (λ (i : ℕ). get_or s i 0) (add-zero at))

-- ---- the library's words for the same

byte_is : (i n : ℕ) → library.byte_at i n ≡ n / 256 ^ i % 256
byte_is zero n = ap (λ (x : ℕ). x % 256) (sym (div-one n))
byte_is (suc i) n = refl

le_from : (i k n : ℕ) → bytes_low_first i k n ≡ bytes k (n / 256 ^ i)
unfolding bytes
le_from i zero n = refl
le_from i (suc k) n = ap₂ ◌∷◌ (byte_is i n) (le_from (suc i) k n ∙ ap (bytes k) (sym (digit_more n i)))

pub le_bytes : (k n : ℕ) → bytes_low_first 0 k n ≡ bytes k n
le_bytes k n = le_from 0 k n ∙ ap (bytes k) (div-one n)

number_snoc : (l : List ℕ) (b : ℕ) → number_of (l ++ (b ∷ [])) ≡ number_of l + b * 256 ^ length l
unfolding number_of
number_snoc [] b = omega arith
number_snoc (x ∷ l) b = omega (arith, number_snoc l b, ap (λ (p : ℕ). b * p) (pow-suc 256 (length l)))

le_number : (k : ℕ) (l : List ℕ) → k < length l → sum_through (λ i. byte_worth i (get_or l i 0)) k ≡ number_of (take (suc k) l)
le_number zero l h = sym (first_byte l)
le_number (suc k) l h =
    let front : length (take (suc k) l) ≡ suc k = length-take-le (suc k) l (omega arith) in
    rw (take-suc l (suc k) 0 h, number_snoc, front, le_number k l (omega arith)) refl

-- of bytes that are cut out
pub le_at : (k at : ℕ) (s : List ℕ) → at + suc k ≤ length s → {l : List ℕ} → l ≡ take (suc k) (drop at s)
    → sum_through (λ i. byte_worth i (get_or l i 0)) k ≡ number_at (suc k) at s
le_at k at s room {l} e =
    ap (λ (l : List ℕ). sum_through (λ i. byte_worth i (get_or l i 0)) k) e
    ∙ le_number k (take (suc k) (drop at s)) (rw (length-take-le (suc k) (drop at s) (part_room at (suc k) s room)) (omega arith))
    ∙ ap number_of (take-take (suc k) (suc k) (drop at s) (le_refl _))
