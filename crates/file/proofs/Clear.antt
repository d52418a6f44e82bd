-- Bytes that are zero, by the rule's test and as a list of zeros.
use mathlib.Core.Path.{◌≡◌, refl, sym, ap, ◌∙◌}
use Prim.Native.Nat.{ℕ, zero, suc, ◌+◌, ◌*◌, ◌<◌, ◌≤◌}
use native.Mathlib.Omega.{arith}
use borrow.Author.Tests.{eqb-true, eq-eqb}
use mathlib.Core.Bool.{true}
use mathlib.Core.List.{List}
use lib.Dec.{eqb}
use lib.ListN.{length, get_or, take, drop, length-replicate, get_or-replicate}
use lib.Seq.{get_or-take, get_or-drop, length-take-le, ext_get_or}
use Rattle.circuit.specs.File.{number_of, number_at, zeros, clear}
use Rattle.laws.proofs.Counting.{every_true, true_every}
use Rattle.blocks.proofs.Digits.{part_room}

module _ (n at : ℕ) (s : List ℕ) where
  byte_at : (j : ℕ) → j < n → get_or (take n (drop at s)) j 0 ≡ get_or s (at + j) 0
  byte_at j h = get_or-take n (drop at s) j 0 h ∙ get_or-drop at s j 0

  pub clear_zeros : at + n ≤ length s → clear n at s ≡ true → take n (drop at s) ≡ zeros n
  unfolding clear
  clear_zeros h e =
      let l : length (take n (drop at s)) ≡ n = length-take-le n (drop at s) (part_room at n s h) in
      ext_get_or 0 (take n (drop at s)) (zeros n) (l ∙ sym (length-replicate {A = ℕ} n 0))
      (λ j g. let k : j < n = omega arith in
      byte_at j k ∙ eqb-true _ 0 (every_true (λ i. eqb (get_or s (at + i) 0) 0) n e j k) ∙ sym (get_or-replicate n j 0 0 k))

  pub zeros_clear : take n (drop at s) ≡ zeros n → clear n at s ≡ true
  unfolding clear
  zeros_clear e =
      true_every (λ i. eqb (get_or s (at + i) 0) 0) n
      (λ j k. eq-eqb _ 0 (sym (byte_at j k) ∙ ap (λ (l : List ℕ). get_or l j 0) e ∙ get_or-replicate n j 0 0 k))

number_zeros : (n : ℕ) → number_of (zeros n) ≡ 0
unfolding number_of
number_zeros zero = refl
number_zeros (suc n) = ap (λ (m : ℕ). 0 + 256 * m) (number_zeros n)

pub clear_number : (n at : ℕ) (s : List ℕ) → at + n ≤ length s → clear n at s ≡ true → number_at n at s ≡ 0
clear_number n at s h e = ap number_of (clear_zeros n at s h e) ∙ number_zeros n
