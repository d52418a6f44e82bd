-- A record that code holds has the array lengths that its type gives: what owning it tells, field by field.
use mathlib.Core.Path.{◌≡◌, refl}
use mathlib.Core.List.{List}
use mir.Val.{Val}
use denote.Shadow.{shadow}
use Rattle.circuit.specs.contracts.Record as Types
use Rattle.circuit.specs.Counting.{table}
use Rattle.circuit.specs.Record.{row_limit, column_limit, row_at, column_at}
use Rattle.circuit.specs.declared.Record.{Record}
use Rattle.laws.specs.Accepted.{Sized}
use Rattle.laws.proofs.Counting.{is_table}

pub sized : (r : Record) (vs : List Val) → shadow ((Types.the_row).own_val r vs) → Sized r
sized r vs h =
    let rows = h.1.1.1.1.1.1 in
    let columns = rows.1.1.1 in
    record { rows = rows.0.1.0.1; columns = columns.0.1.0.1 }

-- what is read row by row and column by column is the record
pub record_back : {r : Record} → Sized r → (r.rows ≡ table (row_at r) row_limit) × (r.columns ≡ table (column_at r) column_limit)
record_back {r} s =
    (is_table (row_at r) r.rows row_limit _ s.rows (λ j l. refl), is_table (column_at r) r.columns column_limit _ s.columns (λ i l. refl))
