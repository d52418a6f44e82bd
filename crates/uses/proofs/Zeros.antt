-- What is handed back, or zeros where a call is refused, is what the definition has.
use mathlib.Core.Path.{◌≡◌}
use mathlib.Core.List.{List}
use Prim.Native.Nat.{ℕ}
use Rattle.std.specs.Prelude.{Result, Ok, Err, replicate}
use Rattle.std.specs.Result.{result_unwrap_or}
use Rattle.circuit.specs.Record.{row_limit, column_limit}
use Rattle.circuit.specs.SetUp.{nothing, set_up_rows}
use Rattle.circuit.specs.File.{no_record, read_record}
use Rattle.circuit.specs.Knee.{built_kind, built_width, built_columns}
use Rattle.circuit.specs.Promises.{SetsUp, Reads, Builds}
use Rattle.circuit.specs.declared.Built.{Built}
use Rattle.circuit.specs.declared.CurveKind.TheVariants.{Unset}
use Rattle.circuit.specs.declared.Knob.{Knob}
use Rattle.circuit.specs.declared.Prepared.{Prepared}
use Rattle.circuit.specs.declared.Record.{Record}
use Rattle.circuit.specs.declared.Refusal.{Refusal}
use Rattle.laws.specs.Accepted.{origin}
use Rattle.laws.proofs.Trying.{refused_else}

pub record_or : {bytes : List ℕ} (s : Result Record Refusal) → Reads bytes s → result_unwrap_or s no_record ≡ read_record bytes
unfolding read_record
record_or (Ok r) h = h.circuit
record_or (Err e) h = refused_else e h.number _ _

pub rows_or : {r : Record} (s : Result (List Prepared) Refusal) → SetsUp r s → result_unwrap_or s (replicate row_limit nothing) ≡ set_up_rows r
unfolding set_up_rows
rows_or (Ok rows) h = h.rows
rows_or (Err e) h = refused_else e h.number _ _

-- no kind, no columns and zeros
abbrev pub no_curve : Built
no_curve = record { kind = Unset; width = 0; columns = replicate column_limit origin }

module _ {k : Knob} where
  pub kind_or : (s : Result Built Refusal) → Builds k s → (result_unwrap_or s no_curve).kind ≡ built_kind k
  unfolding built_kind
  kind_or (Ok b) h = h.kind
  kind_or (Err e) h = refused_else e h.number _ _

  pub width_or : (s : Result Built Refusal) → Builds k s → (result_unwrap_or s no_curve).width ≡ built_width k
  unfolding built_width
  width_or (Ok b) h = h.width
  width_or (Err e) h = refused_else e h.number _ _

  pub columns_or : (s : Result Built Refusal) → Builds k s → (result_unwrap_or s no_curve).columns ≡ built_columns k
  unfolding built_columns
  columns_or (Ok b) h = h.columns
  columns_or (Err e) h = refused_else e h.number _ _
