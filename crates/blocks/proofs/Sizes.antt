-- How many bytes the fields of a row, of a column and of the heading have, and so that every block of a file leaves room for its check.
use mathlib.Core.Path.{◌≡◌, refl}
use Prim.Native.Nat.{◌*◌}
use native.Mathlib.Omega.{arith}
use mathlib.Core.List.{List, map}
use lib.ListN.{length, get_or}
use Rattle.circuit.specs.Record.{blank_row, row_in}
use Rattle.circuit.specs.File.{row_length, column_length, bytes, heading, row_bytes, column_fields, concat, blocks_of}
use Rattle.circuit.specs.declared.Row.{Row}
use Rattle.circuit.specs.declared.Column.{Column}
use Rattle.circuit.specs.declared.Record.{Record}
use Rattle.laws.specs.Accepted.{Sized, origin}
use Rattle.blocks.specs.Placing.{heading_length}
pub use Rattle.blocks.specs.Lengths.{row_size, column_size}
use Rattle.blocks.proofs.Pieces.{pieces_length}
use Rattle.blocks.proofs.Sealed.{Roomy}

pub heading_size : (r : Record) → length (heading r) ≡ heading_length
unfolding heading bytes
heading_size r = refl

pub rows_size : (rows : List Row) → length (concat (map row_bytes rows)) ≡ row_length * length rows
rows_size rows = pieces_length row_bytes row_length blank_row rows (λ j l. row_size (row_in rows j))

pub columns_size : (columns : List Column) → length (concat (map column_fields columns)) ≡ column_length * length columns
columns_size columns = pieces_length column_fields column_length origin columns (λ i l. column_size (get_or columns i origin))

pub blocks_roomy : (r : Record) → Sized r → Roomy (blocks_of r)
unfolding blocks_of
blocks_roomy r sized = (omega (arith, heading_size r), (omega (arith, rows_size r.rows, sized.rows), (omega (arith, columns_size r.columns, sized.columns), tt)))
