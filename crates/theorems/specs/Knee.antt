-- What building a curve comes to: a whole curve, a pair of 62 columns, or nothing at all.
use Rattle.std.specs.Prelude.{◌≡◌, Result, Ok, Err}
use Rattle.circuit.specs.Counting.{table}
use Rattle.circuit.specs.Record.{column_limit}
use Rattle.circuit.specs.Knee.{knee_column, with_curve}
use Rattle.circuit.specs.declared.Knob.{Knob}
use Rattle.circuit.specs.declared.Refusal.{Refusal}
use Rattle.circuit.specs.declared.Refusal.TheVariants.{Voltage}
use Rattle.circuit.specs.declared.Built.{Built}
use Rattle.circuit.specs.declared.CurveKind.TheVariants.{Pair}
use Rattle.circuit.specs.declared.Record.{Record}

pub record Whole (k : Knob) (s : Result Built Refusal) : Type 0 where
  pub curve : Built
  pub answer : s ≡ Ok curve
  pub kind : curve.kind ≡ Pair
  pub width : curve.width ≡ column_limit
  pub columns : curve.columns ≡ table (knee_column k) column_limit

-- a refused knob has no curve
pub record Nothing (s : Result Built Refusal) : Type 0 where
  pub answer : s ≡ Err Voltage

-- the record has the curve
pub record Holds (r : Record) (b : Built) : Type 0 where
  pub kind : r.kind ≡ b.kind
  pub width : r.width ≡ b.width
  pub columns : r.columns ≡ b.columns

-- the record with the curve in place of its own
abbrev pub put_in : Record → Built → Record
put_in r b = with_curve r b.kind b.width b.columns
