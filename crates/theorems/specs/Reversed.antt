-- Leaves put in the other way round (request 6): a record with some of its leaves reversed, or with every one, and what the tap reads then.
use Rattle.std.specs.Prelude.{ℕ, suc, ◌≡◌, Bool, true, false, not, ◌&&◌, cond, List, [], ◌∷◌, eqb, ℤ, neg_ℤ, Float}
use Rattle.circuit.specs.Record.{top, part_at, is_leaf}
use Rattle.circuit.specs.declared.Element.TheVariants.{Resistor}
use Rattle.circuit.specs.declared.Part.TheVariants.{Leaf}
use Rattle.circuit.specs.declared.Row.{Row}
use Rattle.circuit.specs.declared.Record.{Record}

-- ---- the record

abbrev pub with_rows : List Row → Record → Record
with_rows rows r = record {
  version = r.version;
  rate = r.rate;
  count = r.count;
  tap = r.tap;
  rows = rows;
  kind = r.kind;
  width = r.width;
  columns = r.columns;
  resistance = r.resistance;
}

-- a leaf that is picked has the other mark, so that one which was reversed is put right; what is no leaf has no mark to change
abbrev pub flipped : Bool → Row → Row
flipped picked w = record { part = w.part; reversed = cond (picked && is_leaf w.part) (not w.reversed) w.reversed }

abbrev pub flipped_rows : (ℕ → Bool) → List Row → List Row
flipped_rows pick [] = []
flipped_rows pick (w ∷ ws) = flipped (pick 0) w ∷ flipped_rows (λ j. pick (suc j)) ws

-- the leaves in the rows that `pick` names
abbrev pub reverse : (ℕ → Bool) → Record → Record
reverse pick r = with_rows (flipped_rows pick r.rows) r

abbrev pub reverse_all : Record → Record
reverse_all r = reverse (λ j. true) r

-- ---- what does not hear it

-- every row named is a resistor, and the tap reads none of them
pub record Resistors (pick : ℕ → Bool) (r : Record) : Type 0 where
  pub resistor : (j : ℕ) → pick j ≡ true → (ohms : Float) × (part_at r j ≡ Leaf (Resistor ohms))
  pub unread : eqb r.tap top ≡ false → pick r.tap ≡ false

-- an output with every leaf reversed: at the top the opposite of what it was, at a leaf the same
abbrev pub at_tap : ℕ → ℤ → ℤ
at_tap tap v = cond (eqb tap top) (neg_ℤ v) v
