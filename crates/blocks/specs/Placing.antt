-- The steps between bytes and a file: bytes placed in a list, a row's fields by name, a new block with its fields in it, and a block with its
-- check.
use Rattle.std.specs.Prelude.{ℕ, ◌+◌, ◌-◌, ◌<◌, List, ◌++◌, eqb, length, get_or, take, drop}
use Rattle.circuit.specs.File.{block_length, check_place, bytes, number_at, signed_at, float_at, float_bytes, zeros, check_of, row_fields, part_of}
use Rattle.circuit.specs.declared.Row.{Row}
use Rattle.blocks.specs.declared.row.Fields.{Fields}

-- what a slice of bytes has by its type
abbrev pub Bytes : List ℕ → Type 0
Bytes l = (i : ℕ) → get_or l i 0 < 256

-- bytes of the heading
abbrev pub heading_length : ℕ
heading_length = 24

-- v in the place of what stands from `at` on
abbrev pub placed : List ℕ → ℕ → List ℕ → List ℕ
placed d at v = take at d ++ v ++ drop (at + length v) d

-- the fields of the row whose bytes begin at `at`, the bytes of a row's fields, and the row that they stand for
abbrev pub fields_at : ℕ → List ℕ → Fields
fields_at at s = record {
  kind = number_at 1 at s;
  first = number_at 1 (at + 1) s;
  second = number_at 1 (at + 2) s;
  mark = number_at 1 (at + 3) s;
  microvolts = signed_at (at + 4) s;
  value = float_at (at + 8) s;
}

abbrev pub fields_bytes : Fields → List ℕ
fields_bytes f = row_fields f.kind f.first f.second f.mark f.microvolts (float_bytes f.value)

abbrev pub row_of : Fields → Row
row_of f = record { part = part_of f.kind f.first f.second f.microvolts f.value; reversed = eqb f.mark 1 }

-- a new block is zeros before its fields are placed
abbrev pub begun : List ℕ → List ℕ
begun fields = fields ++ zeros (block_length - length fields)

-- block k, its check in its last four bytes
unfoldable pub sealed : ℕ → List ℕ → List ℕ
sealed k b = take check_place b ++ bytes 4 (check_of k b)
