-- The heading's fields and what they say, there and back.
use mathlib.Core.Path.{◌≡◌, refl, sym, ap, ◌∙◌}
use Prim.Native.Nat.{ℕ, zero, suc, ◌+◌, ◌≤◌}
use native.Mathlib.Omega.{arith}
use borrow.Author.Tests.{leb-true}
use mathlib.Core.Bool.{true, false}
use mathlib.Core.List.{List}
use lib.Dec.{leb}
use lib.ListN.{length, take, drop}
use lib.Ieee.{binary64, is_nan, of_bits}
use Rattle.circuit.specs.File.{bytes, number_of, number_at, float_at, kind_number, kind_of, heading, record_of, clear}
use Rattle.circuit.specs.declared.CurveKind.{CurveKind}
use Rattle.circuit.specs.declared.CurveKind.TheVariants.{Unset, Single, Pair}
use Rattle.circuit.specs.declared.Record.{Record}
use Rattle.file.specs.Held.{Held}
use Rattle.blocks.specs.Placing.{Bytes, heading_length}
use Rattle.blocks.proofs.Digits.{number_bytes, part_below, part_back}
use Rattle.file.proofs.Clear.{clear_zeros, zeros_clear}
use Rattle.blocks.proofs.Pieces.{part_more, part_inner}
use Rattle.file.proofs.RowTrips.{value_read, value_written}

-- ---- a curve's kind

kind_back : (n : ℕ) → n ≤ 2 → kind_number (kind_of n) ≡ n
kind_back zero h = refl
kind_back (suc zero) h = refl
kind_back (suc (suc zero)) h = refl
kind_back (suc (suc (suc n))) h = absurd (omega arith)

curve_kind_read : (k : CurveKind) → kind_of (kind_number k) ≡ k
curve_kind_read Unset = refl
curve_kind_read Single = refl
curve_kind_read Pair = refl

kind_small : (k : CurveKind) → kind_number k ≤ 2
kind_small Unset = omega arith
kind_small Single = omega arith
kind_small Pair = omega arith

-- ---- from bytes that pass to the fields

module _ (s : List ℕ) (bs : Bytes s) (long : heading_length ≤ length s) where
  pub heading_back : leb (number_at 1 4 s) 2 ≡ true → clear 2 6 s ≡ true → clear 4 12 s ≡ true → is_nan (float_at 16 s) ≡ false
      → heading (record_of s) ≡ take heading_length s
  unfolding heading record_of
  heading_back kind z₆ z₁₂ number =
      part_more s 0 16 8 16 _ _ refl
      (part_more s 0 12 4 12 _ _ refl
      (part_more s 0 8 4 8 _ _ refl
      (part_more s 0 6 2 6 _ _ refl
      (part_more s 0 5 1 5 _ _ refl
      (part_more s 0 4 1 4 _ _ refl
      (part_more s 0 3 1 3 _ _ refl
      (part_more s 0 2 1 2 _ _ refl (back 0 2 (omega arith)) (back 2 1 (omega arith)))
      (back 3 1 (omega arith)))
      (ap (bytes 1) (kind_back _ (leb-true _ _ kind)) ∙ back 4 1 (omega arith)))
      (back 5 1 (omega arith)))
      (sym (clear_zeros 2 6 s (omega arith) z₆)))
      (back 8 4 (omega arith)))
      (sym (clear_zeros 4 12 s (omega arith) z₁₂)))
      (value_written (number_at 8 16 s) (part_below s bs 16 8 (omega arith)) number ∙ back 16 8 (omega arith))
    where
      back : (at k : ℕ) → at + k ≤ heading_length → bytes k (number_at k at s) ≡ take k (drop at s)
      back at k h = part_back s bs at k (omega arith)

-- ---- from the fields to what is read of them

module _ (r : Record) (held : Held r) (s : List ℕ) (e : take heading_length s ≡ heading r) where
  heading_field : (i k : ℕ) → i + k ≤ heading_length → take k (drop (0 + i) s) ≡ take k (drop i (heading r))
  heading_field i k h = sym (part_inner s 0 heading_length i k h) ∙ ap (λ (l : List ℕ). take k (drop i l)) e

  pub version_read : number_at 2 0 s ≡ r.version
  unfolding heading bytes
  version_read = ap number_of (heading_field 0 2 (omega arith)) ∙ number_bytes 2 r.version held.version

  pub count_read : number_at 1 2 s ≡ r.count
  unfolding heading bytes
  count_read = ap number_of (heading_field 2 1 (omega arith)) ∙ number_bytes 1 r.count held.count

  pub tap_read : number_at 1 3 s ≡ r.tap
  unfolding heading bytes
  tap_read = ap number_of (heading_field 3 1 (omega arith)) ∙ number_bytes 1 r.tap held.tap

  kind_number_read : number_at 1 4 s ≡ kind_number r.kind
  unfolding heading bytes
  kind_number_read = ap number_of (heading_field 4 1 (omega arith)) ∙ number_bytes 1 (kind_number r.kind) (omega (arith, kind_small r.kind))

  pub kind_of_read : kind_of (number_at 1 4 s) ≡ r.kind
  kind_of_read = ap kind_of kind_number_read ∙ curve_kind_read r.kind

  pub kind_listed : number_at 1 4 s ≤ 2
  kind_listed = omega (arith, kind_small r.kind, kind_number_read)

  pub width_read : number_at 1 5 s ≡ r.width
  unfolding heading bytes
  width_read = ap number_of (heading_field 5 1 (omega arith)) ∙ number_bytes 1 r.width held.width

  pub rate_read : number_at 4 8 s ≡ r.rate
  unfolding heading bytes
  rate_read = ap number_of (heading_field 8 4 (omega arith)) ∙ number_bytes 4 r.rate held.rate

  pub resistance_read : float_at 16 s ≡ r.resistance
  unfolding heading bytes
  resistance_read = ap (λ (l : List ℕ). of_bits binary64 (number_of l)) (heading_field 16 8 (omega arith)) ∙ value_read r.resistance held.resistance

  -- the zeros between the fields
  pub gaps_clear : (clear 2 6 s ≡ true) × (clear 4 12 s ≡ true)
  unfolding heading bytes
  gaps_clear = (zeros_clear 2 6 s (heading_field 6 2 (omega arith)), zeros_clear 4 12 s (heading_field 12 4 (omega arith)))
