-- How many bytes the fields of a row and of a column have.
use mathlib.Core.Path.{◌≡◌, refl}
use Prim.Native.Nat.{ℕ}
use lib.ListN.{length}
use Rattle.circuit.specs.Counting.{one}
use Rattle.circuit.specs.File.{row_length, column_length, bytes, part_fields, row_bytes, column_fields}
use Rattle.circuit.specs.declared.Element.TheVariants.{Resistor, Capacitor, Inductor, Input, Steady}
use Rattle.circuit.specs.declared.Part.{Part}
use Rattle.circuit.specs.declared.Part.TheVariants.{Blank, Leaf, Adaptor}
use Rattle.circuit.specs.declared.Row.{Row}
use Rattle.circuit.specs.declared.Column.{Column}

pub column_size : (c : Column) → length (column_fields c) ≡ column_length
unfolding bytes
column_size c = refl

part_size : (p : Part) (mark : ℕ) → length (part_fields p mark) ≡ row_length
unfolding part_fields bytes
part_size Blank mark = refl
part_size (Leaf (Resistor r)) mark = refl
part_size (Leaf (Capacitor c)) mark = refl
part_size (Leaf (Inductor l)) mark = refl
part_size (Leaf (Input r)) mark = refl
part_size (Leaf (Steady r v)) mark = refl
part_size (Adaptor a) mark = refl

pub row_size : (w : Row) → length (row_bytes w) ≡ row_length
unfolding row_bytes
row_size w = part_size w.part (one w.reversed)
