-- A row's bytes and the row, there and back. `Clean` says of the fields that those that the kind does not use are zero, and that the mark is 0 or
-- 1: a row's own fields are clean, and clean fields are those of the row that they are read as.
use mathlib.Core.Path.{◌≡◌, refl, sym, ap, ap₂, ◌∙◌}
use Prim.Native.Nat.{ℕ, zero, suc, ◌+◌, ◌%◌, ◌^◌, ◌<◌, ◌≤◌, zero-le}
use native.Mathlib.Omega.{arith}
use borrow.Author.Tests.{leb-true, le-leb}
use mathlib.Core.Bool.{Bool, true, false, ◌&&◌, ◌||◌, and-eq-true_iff}
use mathlib.Core.List.{List, [], ◌∷◌}
use lib.Dec.{T, eqb, leb}
use lib.ListN.{length, take, drop}
use lib.Seq.{take-take}
use lib.IntN.{ℤ, pos}
use lib.Ieee.{Float, nan, inf, fin, binary64, fits, is_nan, of_bits, to_bits}
use lib.Ieee.Bits.{of_bits-to_bits, to_bits-of_bits, to_bits-lt}
use lib.Ieee.Positive.{positive}
use mir.Syntax.{w32}
use mir.Val.{SFits, to_z, of_z}
use mir.ValLaws.{to_z-of_z, of_z-to_z, of_z_fits}
use Rattle.circuit.specs.Counting.{between, one}
use Rattle.circuit.specs.Record.{sound_part}
use Rattle.circuit.specs.File.{row_length, bytes, number_of, number_at, zeros, float_bytes, signed_at, signed_bytes, row_fields, part_fields, row_bytes, join_number, part_of, row_from, clear, clear_row}
use Rattle.circuit.specs.declared.Element.TheVariants.{Resistor, Capacitor, Inductor, Input, Steady}
use Rattle.circuit.specs.declared.Join.{Join}
use Rattle.circuit.specs.declared.Join.TheVariants.{Series, Parallel}
use Rattle.circuit.specs.declared.Part.{Part}
use Rattle.circuit.specs.declared.Part.TheVariants.{Blank, Leaf, Adaptor}
use Rattle.circuit.specs.declared.Row.{Row}
use Rattle.laws.proofs.Counting.{one_small}
use Rattle.blocks.specs.Placing.{Bytes}
use Rattle.file.specs.Held.{HeldPart}
use Rattle.blocks.proofs.Digits.{number_bytes, length_bytes, part_below, part_back}
use Rattle.file.proofs.Clear.{clear_zeros, zeros_clear, clear_number}
use Rattle.blocks.proofs.Fields.{part_same}
use Rattle.blocks.proofs.Pieces.{part_more, part_inner}

-- ---- values

-- a value that is held is read back from its bytes
pub value_read : (x : Float) → T (fits binary64 x) → of_bits binary64 (number_of (float_bytes x)) ≡ x
value_read x h = ap (of_bits binary64) (number_bytes 8 (to_bits binary64 x) (to_bits-lt binary64 x h)) ∙ of_bits-to_bits binary64 x h

-- bits that are no NaN's are written back
pub value_written : (n : ℕ) → n < 2 ^ 64 → is_nan (of_bits binary64 n) ≡ false → float_bytes (of_bits binary64 n) ≡ bytes 8 n
value_written n h e = ap (bytes 8) (to_bits-of_bits binary64 n h (rw e tt))

pub signed_read : (z : ℤ) → SFits w32 z → to_z w32 (number_of (signed_bytes z)) ≡ z
signed_read z h = ap (to_z w32) (number_bytes 4 (of_z w32 z) (of_z_fits w32 z h).fits) ∙ to_z-of_z w32 z h

pub signed_written : (n : ℕ) → n < 2 ^ 32 → signed_bytes (to_z w32 n) ≡ bytes 4 n
signed_written n h = ap (bytes 4) (of_z-to_z w32 n (record { fits = h }))

positive_number : (x : Float) → positive x ≡ true → is_nan x ≡ false
unfolding is_nan
positive_number nan e = sym e
positive_number (inf s) e = refl
positive_number (fin s m k) e = refl

-- ---- clean fields

record Clean (k a b mark : ℕ) (v : ℤ) (value : List ℕ) : Type 0 where
  listed : k ≤ 7
  marked : mark ≤ 1
  children : between 6 7 k ≡ false → (a ≡ 0) × (b ≡ 0)
  volts : eqb k 5 ≡ false → v ≡ pos 0
  empty : between 1 5 k ≡ false → value ≡ zeros 8

or_left : (x y : Bool) → (x || y) ≡ true → x ≡ false → y ≡ true
or_left true y e f = cc
or_left false y e f = e

or_from : (x y : Bool) → (x ≡ false → y ≡ true) → (x || y) ≡ true
or_from true y f = refl
or_from false y f = f refl

all_true : {p q r s t : Bool} → p ≡ true → q ≡ true → r ≡ true → s ≡ true → t ≡ true → (p && q && r && s && t) ≡ true
all_true p q r s t = rw (p, q, r, s, t)

-- ---- from a row to bytes that pass

module _ (s : List ℕ) (at k a b mark : ℕ) (v : ℤ) (value : List ℕ) (e : take row_length (drop at s) ≡ row_fields k a b mark v value)
    (c : Clean k a b mark v value) where
  row_field : (i n : ℕ) → i + n ≤ row_length → take n (drop (at + i) s) ≡ take n (drop i (row_fields k a b mark v value))
  row_field i n h = sym (part_inner s at row_length i n h) ∙ ap (λ (l : List ℕ). take n (drop i l)) e

  row_kind_read : number_at 1 at s ≡ k
  unfolding bytes
  row_kind_read =
      ap number_of (sym (take-take 1 row_length (drop at s) (omega arith)) ∙ ap (take 1) e)
      ∙ number_bytes 1 k (omega (arith, c.listed))

  row_mark_read : number_at 1 (at + 3) s ≡ mark
  unfolding bytes
  row_mark_read = ap number_of (row_field 3 1 (omega arith)) ∙ number_bytes 1 mark (omega (arith, c.marked))

  clean_passes : length value ≡ 8 → clear_row (number_at 1 at s) at s ≡ true
  unfolding bytes
  clean_passes n =
      ap (λ (q : ℕ). clear_row q at s) row_kind_read
      ∙ all_true (le-leb k 7 c.listed)
      (or_from (between 6 7 k) (clear 2 (at + 1) s)
      (λ f. zeros_clear 2 (at + 1) s (row_field 1 2 (omega arith) ∙ ap (λ (q : ℕ). q % 256 ∷ b % 256 ∷ []) (c.children f).0 ∙ ap (λ (q : ℕ). 0 ∷ q % 256 ∷ []) (c.children f).1)))
      (ap (λ (q : ℕ). leb q 1) row_mark_read ∙ le-leb mark 1 c.marked)
      (or_from (eqb k 5) (clear 4 (at + 4) s) (λ f. zeros_clear 4 (at + 4) s (row_field 4 4 (omega arith) ∙ ap signed_bytes (c.volts f))))
      (or_from (between 1 5 k) (clear 8 (at + 8) s) (λ f. zeros_clear 8 (at + 8) s (row_field 8 8 (omega arith) ∙ ap (take 8) (c.empty f))))

leaf_clean : (k mark : ℕ) (v : ℤ) (value : List ℕ) → k ≤ 7 → mark ≤ 1 → between 1 5 k ≡ true → (eqb k 5 ≡ false → v ≡ pos 0) → Clean k 0 0 mark v value
leaf_clean k mark v value h l e f = record { listed = h; marked = l; children = λ g. (refl, refl); volts = f; empty = λ g. cc }

-- ---- from a row to bytes that pass: each part's fields are clean

module _ (s : List ℕ) (at mark : ℕ) (l : mark ≤ 1) where
  leaf_passes : (k : ℕ) (v : ℤ) (x : Float) → k ≤ 7 → between 1 5 k ≡ true → (eqb k 5 ≡ false → v ≡ pos 0)
      → take row_length (drop at s) ≡ row_fields k 0 0 mark v (float_bytes x) → clear_row (number_at 1 at s) at s ≡ true
  leaf_passes k v x h e f g =
      clean_passes s at k 0 0 mark v (float_bytes x) g (leaf_clean k mark v (float_bytes x) h l e f) (length_bytes 8 (to_bits binary64 x))

  joint_passes : (k a b : ℕ) → k ≤ 7 → between 6 7 k ≡ true → eqb k 5 ≡ false → take row_length (drop at s) ≡ row_fields k a b mark (pos 0) (zeros 8)
      → clear_row (number_at 1 at s) at s ≡ true
  joint_passes k a b h e f g =
      clean_passes s at k a b mark (pos 0) (zeros 8) g
      (record { listed = h; marked = l; children = λ q. ((cc), (cc)); volts = λ q. refl; empty = λ q. refl }) refl

  adaptor_passes : (j : Join) (a b : ℕ) → take row_length (drop at s) ≡ row_fields (join_number j) a b mark (pos 0) (zeros 8)
      → clear_row (number_at 1 at s) at s ≡ true
  adaptor_passes Series a b e = joint_passes 6 a b (omega arith) refl refl e
  adaptor_passes Parallel a b e = joint_passes 7 a b (omega arith) refl refl e

  part_passes : (p : Part) → take row_length (drop at s) ≡ part_fields p mark → clear_row (number_at 1 at s) at s ≡ true
  unfolding part_fields
  part_passes Blank e =
      clean_passes s at 0 0 0 mark (pos 0) (zeros 8) e
      (record { listed = zero-le; marked = l; children = λ q. (refl, refl); volts = λ q. refl; empty = λ q. refl }) refl
  part_passes (Leaf (Resistor r)) e = leaf_passes 1 (pos 0) r (omega arith) refl (λ q. refl) e
  part_passes (Leaf (Capacitor c)) e = leaf_passes 2 (pos 0) c (omega arith) refl (λ q. refl) e
  part_passes (Leaf (Inductor i)) e = leaf_passes 3 (pos 0) i (omega arith) refl (λ q. refl) e
  part_passes (Leaf (Input r)) e = leaf_passes 4 (pos 0) r (omega arith) refl (λ q. refl) e
  part_passes (Leaf (Steady r v)) e = leaf_passes 5 v r (omega arith) refl (λ q. cc) e
  part_passes (Adaptor d) e = adaptor_passes d.join d.first d.second e

pub row_passes : (s : List ℕ) (at : ℕ) (w : Row) → take row_length (drop at s) ≡ row_bytes w → clear_row (number_at 1 at s) at s ≡ true
unfolding row_bytes
row_passes s at w e = part_passes s at (one w.reversed) (one_small w.reversed) w.part e

-- ---- from a row to bytes and back

children_read : (j : Join) (a b : ℕ) → a < 256 → b < 256
    → ◌≡◌ {A = Part} (Adaptor (record { join = j; first = number_of (bytes 1 a); second = number_of (bytes 1 b) }))
    (Adaptor (record { join = j; first = a; second = b }))
children_read j a b h l = rw (number_bytes 1 a h, number_bytes 1 b l)

adaptor_read : (j : Join) (a b mark : ℕ) → a < 256 → b < 256
    → (row_from 0 (row_fields (join_number j) a b mark (pos 0) (zeros 8))).part ≡ Adaptor (record { join = j; first = a; second = b })
unfolding bytes number_of
adaptor_read Series a b mark h l = children_read Series a b h l
adaptor_read Parallel a b mark h l = children_read Parallel a b h l

part_read : (p : Part) (mark : ℕ) → HeldPart p → (row_from 0 (part_fields p mark)).part ≡ p
unfolding part_fields bytes number_of
part_read Blank mark h = refl
part_read (Leaf (Resistor r)) mark h = ap (λ (x : Float). Leaf (Resistor x)) (value_read r h)
part_read (Leaf (Capacitor c)) mark h = ap (λ (x : Float). Leaf (Capacitor x)) (value_read c h)
part_read (Leaf (Inductor l)) mark h = ap (λ (x : Float). Leaf (Inductor x)) (value_read l h)
part_read (Leaf (Input r)) mark h = ap (λ (x : Float). Leaf (Input x)) (value_read r h)
part_read (Leaf (Steady r v)) mark h =
    ap (λ (x : Float). Leaf (Steady x (to_z w32 (number_of (signed_bytes v))))) (value_read r h.0)
    ∙ ap (λ (z : ℤ). Leaf (Steady r z)) (signed_read v h.1)
part_read (Adaptor d) mark h = adaptor_read d.join d.first d.second mark h.0 h.1

-- the mark stands in the same place of every part's fields
mark_stands : (p : Part) (mark : ℕ) → number_at 1 3 (part_fields p mark) ≡ number_of (bytes 1 mark)
unfolding part_fields bytes
mark_stands Blank mark = refl
mark_stands (Leaf (Resistor r)) mark = refl
mark_stands (Leaf (Capacitor c)) mark = refl
mark_stands (Leaf (Inductor l)) mark = refl
mark_stands (Leaf (Input r)) mark = refl
mark_stands (Leaf (Steady r v)) mark = refl
mark_stands (Adaptor d) mark = refl

mark_read : (b : Bool) → eqb (number_of (bytes 1 (one b))) 1 ≡ b
unfolding bytes number_of
mark_read true = refl
mark_read false = refl

-- what a row's bytes say is said by them alone
row_alone : (s l : List ℕ) (at : ℕ) → take row_length (drop at s) ≡ l → row_from at s ≡ row_from 0 l
row_alone s l at e =
    ap₂ (λ p b. record { part = p; reversed = b })
    (part_same _ _ _ _ _ _ _ _ _ _
    (ap number_of (sym (take-take 1 row_length (drop at s) (omega arith)) ∙ ap (take 1) e))
    (number 1 1 (omega arith))
    (number 2 1 (omega arith))
    (ap (to_z w32) (number 4 4 (omega arith)))
    (ap (of_bits binary64) (number 8 8 (omega arith))))
    (ap (λ (n : ℕ). eqb n 1) (number 3 1 (omega arith)))
  where
    number : (i k : ℕ) → i + k ≤ row_length → number_at k (at + i) s ≡ number_at k i l
    number i k h = ap number_of (sym (part_inner s at row_length i k h) ∙ ap (λ (m : List ℕ). take k (drop i m)) e)

pub row_read : (s : List ℕ) (at : ℕ) (w : Row) → HeldPart w.part → take row_length (drop at s) ≡ row_bytes w → row_from at s ≡ w
unfolding row_bytes
row_read s at w h e =
    let mark = one w.reversed in
    row_alone s (row_bytes w) at e
    ∙ ap₂ (λ p b. record { part = p; reversed = b }) (part_read w.part mark h)
    (ap (λ (n : ℕ). eqb n 1) (mark_stands w.part mark) ∙ mark_read w.reversed)

-- ---- from bytes that pass to a row and back

mark_written : (mark : ℕ) → mark ≤ 1 → one (eqb mark 1) ≡ mark
mark_written zero h = refl
mark_written (suc zero) h = refl
mark_written (suc (suc n)) h = absurd (omega arith)

leaf_back : (k a b mark m n : ℕ) → n < 2 ^ 64 → Clean k a b mark (to_z w32 m) (bytes 8 n) → between 6 7 k ≡ false → eqb k 5 ≡ false
    → positive (of_bits binary64 n) ≡ true → row_fields k 0 0 mark (pos 0) (float_bytes (of_bits binary64 n)) ≡ row_fields k a b mark (to_z w32 m) (bytes 8 n)
leaf_back k a b mark m n h c e f p =
    rw ((c.children e).0, (c.children e).1, c.volts f) (ap (row_fields k 0 0 mark (pos 0)) (value_written n h (positive_number _ p)))

-- clean fields are those of the part that they are read as
clean_back : (k a b mark m n : ℕ) → n < 2 ^ 64 → Clean k a b mark (to_z w32 m) (bytes 8 n) → sound_part (part_of k a b (to_z w32 m) (of_bits binary64 n)) ≡ true
    → part_fields (part_of k a b (to_z w32 m) (of_bits binary64 n)) mark ≡ row_fields k a b mark (to_z w32 m) (bytes 8 n)
unfolding part_fields
clean_back zero a b mark m n h c p = rw ((c.children refl).0, (c.children refl).1, c.volts refl, c.empty refl)
clean_back (suc zero) a b mark m n h c p = leaf_back 1 a b mark m n h c refl refl p
clean_back (suc (suc zero)) a b mark m n h c p = leaf_back 2 a b mark m n h c refl refl p
clean_back (suc (suc (suc zero))) a b mark m n h c p = leaf_back 3 a b mark m n h c refl refl p
clean_back (suc (suc (suc (suc zero)))) a b mark m n h c p = leaf_back 4 a b mark m n h c refl refl p
clean_back (suc (suc (suc (suc (suc zero))))) a b mark m n h c p =
    rw ((c.children refl).0, (c.children refl).1) (ap (row_fields 5 0 0 mark (to_z w32 m)) (value_written n h (positive_number _ ((and-eq-true_iff _ _).0 p).0)))
clean_back (suc (suc (suc (suc (suc (suc zero)))))) a b mark m n h c p = rw (c.volts refl, c.empty refl)
clean_back (suc (suc (suc (suc (suc (suc (suc zero))))))) a b mark m n h c p = rw (c.volts refl, c.empty refl)
clean_back (suc (suc (suc (suc (suc (suc (suc (suc k)))))))) a b mark m n h c p = absurd (let l = c.listed in omega arith)

module _ (s : List ℕ) (bs : Bytes s) (at : ℕ) (h : at + row_length ≤ length s) (e : clear_row (number_at 1 at s) at s ≡ true) where
  -- the five tests of the rule
  row_tests : (leb (number_at 1 at s) 7 ≡ true) × ((between 6 7 (number_at 1 at s) || clear 2 (at + 1) s) ≡ true) × (leb (number_at 1 (at + 3) s) 1 ≡ true)
      × ((eqb (number_at 1 at s) 5 || clear 4 (at + 4) s) ≡ true) × ((between 1 5 (number_at 1 at s) || clear 8 (at + 8) s) ≡ true)
  row_tests =
      let t₄ = (and-eq-true_iff _ _).0 e in
      let t₃ = (and-eq-true_iff _ _).0 t₄.0 in
      let t₂ = (and-eq-true_iff _ _).0 t₃.0 in
      let t₁ = (and-eq-true_iff _ _).0 t₂.0 in
      (t₁.0, t₁.1, t₂.1, t₃.1, t₄.1)

  children_clear : clear 2 (at + 1) s ≡ true → (number_at 1 (at + 1) s ≡ 0) × (number_at 1 (at + 2) s ≡ 0)
  unfolding number_of
  children_clear c =
      let z = clear_zeros 2 (at + 1) s (omega arith) c in
      let q : at + 1 + 1 ≡ at + 2 = omega arith in (
        ap number_of (sym (take-take 1 2 (drop (at + 1) s) (omega arith)) ∙ ap (take 1) z),
        ap number_of (ap (λ (p : ℕ). take 1 (drop p s)) (sym q) ∙ sym (part_inner s (at + 1) 2 1 1 (omega arith)) ∙ ap (λ (l : List ℕ). take 1 (drop 1 l)) z),
      )

  read_clean : Clean (number_at 1 at s) (number_at 1 (at + 1) s) (number_at 1 (at + 2) s) (number_at 1 (at + 3) s) (signed_at (at + 4) s)
      (bytes 8 (number_at 8 (at + 8) s))
  read_clean = record {
    listed = leb-true _ _ row_tests.0;
    marked = leb-true _ _ row_tests.2;
    children = λ f. children_clear (or_left _ _ row_tests.1 f);
    volts = λ f. ap (to_z w32) (clear_number 4 (at + 4) s (omega arith) (or_left _ _ row_tests.3 f));
    empty = λ f. part_back s bs (at + 8) 8 (omega arith) ∙ clear_zeros 8 (at + 8) s (omega arith) (or_left _ _ row_tests.4 f);
  }

  fields_back : row_fields (number_at 1 at s) (number_at 1 (at + 1) s) (number_at 1 (at + 2) s) (number_at 1 (at + 3) s) (signed_at (at + 4) s)
      (bytes 8 (number_at 8 (at + 8) s)) ≡ take row_length (drop at s)
  fields_back =
      part_more s at 8 8 (at + 8) _ _ refl
      (part_more s at 4 4 (at + 4) _ _ refl
      (part_more s at 3 1 (at + 3) _ _ refl
      (part_more s at 2 1 (at + 2) _ _ refl
      (part_more s at 1 1 (at + 1) _ _ refl (part_back s bs at 1 (omega arith)) (part_back s bs (at + 1) 1 (omega arith)))
      (part_back s bs (at + 2) 1 (omega arith)))
      (part_back s bs (at + 3) 1 (omega arith)))
      (signed_written (number_at 4 (at + 4) s) (part_below s bs (at + 4) 4 (omega arith)) ∙ part_back s bs (at + 4) 4 (omega arith)))
      (part_back s bs (at + 8) 8 (omega arith))

  pub row_back : sound_part (row_from at s).part ≡ true → row_bytes (row_from at s) ≡ take row_length (drop at s)
  unfolding row_bytes
  row_back p =
      ap (part_fields (row_from at s).part) (mark_written (number_at 1 (at + 3) s) read_clean.marked)
      ∙ clean_back _ _ _ _ (number_at 4 (at + 4) s) (number_at 8 (at + 8) s) (part_below s bs (at + 8) 8 (omega arith)) read_clean p
      ∙ fields_back
