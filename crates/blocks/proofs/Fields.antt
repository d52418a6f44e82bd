-- The fields of a row, of a column and of the heading, entered one after another; and the fields that a part is written as.
use mathlib.Core.Path.{◌≡◌, refl, sym, ap, ap₂, ◌∙◌}
use Prim.Native.Nat.{ℕ, ◌+◌, ◌≤◌, zero-le}
use native.Mathlib.Omega.{arith}
use mathlib.Core.Bool.{Bool, true, false}
use mathlib.Core.List.{List, [], ◌∷◌, ◌++◌, append_assoc}
use lib.ListN.{length}
use lib.IntN.{ℤ}
use lib.Ieee.{Float, binary64, to_bits, of_bits}
use mir.Syntax.{w32}
use mir.Val.{of_z}
use Rattle.std.specs.Int.{from_bool}
use Rattle.circuit.specs.Counting.{one}
use Rattle.circuit.specs.File.{block_length, bytes, float_bytes, zeros, part_fields, row_bytes, column_fields, part_of, kind_number, heading}
use Rattle.circuit.specs.declared.Column.{Column}
use Rattle.circuit.specs.declared.Part.{Part}
use Rattle.circuit.specs.declared.Row.{Row}
use Rattle.circuit.specs.declared.Record.{Record}
use Rattle.blocks.specs.Placing.{Bytes, placed, fields_bytes, heading_length}
use Rattle.blocks.specs.declared.row.Fields.{Fields}
use Rattle.blocks.proofs.Digits.{length_bytes, byte_alone}
use Rattle.blocks.proofs.Placed.{Entered, entered_more, Begun, begun_gap}

-- four numbers that are a byte each
four_alone : {a b c e : ℕ} → Bytes (a ∷ b ∷ c ∷ e ∷ []) → bytes 1 a ++ bytes 1 b ++ bytes 1 c ++ bytes 1 e ≡ a ∷ b ∷ c ∷ e ∷ []
four_alone {a} {b} {c} {e} held = rw (byte_alone a (held 0), byte_alone b (held 1), byte_alone c (held 2), byte_alone e (held 3)) refl

module _ (d : List ℕ) (at : ℕ) (h : at ≤ length d) where
  first_field : (k n : ℕ) (m : List ℕ) → m ≡ placed d at (bytes k n) → Entered d at k m (bytes k n)
  first_field k n m e = record { bytes = e; long = length_bytes k n }

  next_field : {j : ℕ} {m fields : List ℕ} (p k n : ℕ) (next : List ℕ) → p ≡ at + j → next ≡ placed m p (bytes k n) → Entered d at j m fields → Entered d at (j + k) next (fields ++ bytes k n)
  next_field p k n next e q g = entered_more g h (bytes k n) next p k e (length_bytes k n) q

  pub row_placed : (f : Fields) {p : ℕ} → p ≡ of_z w32 f.microvolts → {m₁ m₂ m₃ : List ℕ}
      → Bytes (f.kind ∷ f.first ∷ f.second ∷ f.mark ∷ [])
      → m₁ ≡ placed d at (f.kind ∷ f.first ∷ f.second ∷ f.mark ∷ [])
      → m₂ ≡ placed m₁ (at + 4) (bytes 4 p)
      → m₃ ≡ placed m₂ (at + 8) (float_bytes f.value)
      → m₃ ≡ placed d at (fields_bytes f)
  row_placed f e {m₁} {m₂} {m₃} held e₁ e₂ e₃ =
      (next_field (at + 8) 8 (to_bits binary64 f.value) m₃ refl e₃
      (next_field (at + 4) 4 (of_z w32 f.microvolts) m₂ refl (e₂ ∙ ap (λ (q : ℕ). placed m₁ (at + 4) (bytes 4 q)) e)
      (record { bytes = e₁ ∙ ap (placed d at) (sym (four_alone held)); long = ap length (four_alone held) }))).bytes

  pub column_placed : (c : Column) {x y : ℕ} {m n : List ℕ} → x ≡ of_z w32 c.x → y ≡ of_z w32 c.y
      → m ≡ placed d at (bytes 4 x) → n ≡ placed m (at + 4) (bytes 4 y) → n ≡ placed d at (column_fields c)
  column_placed c {x} {y} {m} {n} ex ey e f = (next_field (at + 4) 4 y n refl f (first_field 4 x m e)).bytes ∙ rw (ex, ey)

-- the heading's fields, with the zeros between them
pub heading_placed : (r : Record) {kind : ℕ} → kind ≡ kind_number r.kind → {m₁ m₂ m₃ m₄ : List ℕ}
    → Bytes (r.count ∷ r.tap ∷ kind ∷ r.width ∷ [])
    → m₁ ≡ placed (zeros block_length) 0 (bytes 2 r.version)
    → m₂ ≡ placed m₁ 2 (r.count ∷ r.tap ∷ kind ∷ r.width ∷ [])
    → m₃ ≡ placed m₂ 8 (bytes 4 r.rate)
    → m₄ ≡ placed m₃ 16 (float_bytes r.resistance)
    → Begun heading_length m₄ (heading r)
unfolding heading
heading_placed r {kind} e {m₁} {m₂} {m₃} {m₄} held e₁ e₂ e₃ e₄ =
    next 16 8 (to_bits binary64 r.resistance) m₄ refl e₄ (begun_gap (next 8 4 r.rate m₃ refl e₃ (begun_gap small 2 (omega arith))) 4 (omega arith))
  where
    next : {j : ℕ} {m fields : List ℕ} (p k n : ℕ) (to : List ℕ) → p ≡ 0 + j → to ≡ placed m p (bytes k n) → Begun j m fields → Begun (j + k) to (fields ++ bytes k n)
    next = next_field (zeros block_length) 0 zero-le

    joined : bytes 2 r.version ++ (r.count ∷ r.tap ∷ kind ∷ r.width ∷ []) ≡ bytes 2 r.version ++ bytes 1 r.count ++ bytes 1 r.tap ++ bytes 1 kind ++ bytes 1 r.width
    joined = rw (byte_alone r.count (held 0), byte_alone r.tap (held 1), byte_alone kind (held 2), byte_alone r.width (held 3)) (sym (simp append_assoc))

    small : Begun 6 m₂ (bytes 2 r.version ++ bytes 1 r.count ++ bytes 1 r.tap ++ bytes 1 (kind_number r.kind) ++ bytes 1 r.width)
    small = rw (← e) (rw joined at (entered_more (first_field (zeros block_length) 0 zero-le 2 r.version m₁ e₁) zero-le (r.count ∷ r.tap ∷ kind ∷ r.width ∷ []) m₂ 2 4 refl refl e₂))

-- ---- parts

-- a row's mark is its test as a byte
mark_is : (b : Bool) → from_bool b ≡ one b
mark_is true = refl
mark_is false = refl

pub row_said : (w : Row) (p : Part) {mark : ℕ} → w.part ≡ p → mark ≡ from_bool w.reversed → part_fields p mark ≡ row_bytes w
unfolding row_bytes
row_said w p {mark} e m = ap₂ part_fields (sym e) (m ∙ mark_is w.reversed)

-- what is no leaf has a value of zeros
pub zero_bytes : float_bytes (of_bits binary64 0) ≡ zeros 8
unfolding to_bits of_bits bytes
zero_bytes = refl

-- a part of fields that are read
pub part_same : (k a b k' a' b' : ℕ) (v v' : ℤ) (x x' : Float) → k ≡ k' → a ≡ a' → b ≡ b' → v ≡ v' → x ≡ x' → part_of k a b v x ≡ part_of k' a' b' v' x'
part_same k a b k' a' b' v v' x x' e₁ e₂ e₃ e₄ e₅ = rw (e₁, e₂, e₃, e₄, e₅)
