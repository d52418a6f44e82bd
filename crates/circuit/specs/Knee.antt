-- Request 4, "Tables built in the unit": the pair curve of a knee and a thermal voltage, refusal 18, and a circuit file whose curve is built anew.
use Rattle.std.specs.Prelude.{ℕ, zero, suc, ◌*◌, ◌%◌, Bool, ◌&&◌, cond, List, [], ◌∷◌, ◌++◌, eqb, replicate, ℤ, pos, ◌+ℤ◌, ◌-ℤ◌, ◌*ℤ◌, nat_abs}
use Rattle.std.proofs.Common.{arith}
use Rattle.std.specs.Int.Signed.{le_z}
use Rattle.whole.specs.Fraction.{over, floor}
use Rattle.circuit.specs.Counting.{table}
use Rattle.circuit.specs.Numbers.{Report, Rule, Verdict, rule, judge, of, unless}
use Rattle.circuit.specs.Record.{column_limit}
use Rattle.circuit.specs.Curve.{wave_limit}
use Rattle.circuit.specs.File.{file_length_rule, read_rules, record_of, file_of}
use Rattle.circuit.specs.Omega.{omega_parts, entry_at}
use Rattle.circuit.specs.declared.Column.{Column}
use Rattle.circuit.specs.declared.CurveKind.{CurveKind}
use Rattle.circuit.specs.declared.CurveKind.TheVariants.{Unset, Pair}
use Rattle.circuit.specs.declared.Knob.{Knob}
use Rattle.circuit.specs.declared.Record.{Record}

-- the knob: the knee a and the thermal voltage V, both in microvolts
abbrev pub knob : ℤ → ℤ → Knob
knob a v = record { knee = a; thermal = v }

-- ---- column j

-- from 1 to 61, with k = j − 1: x = a + (j − 1)·3V/32, where V is a multiple of 32 and so nothing is rounded
abbrev pub x_at : Knob → ℕ → ℤ
x_at b k = b.knee +ℤ floor (over (pos (k * 3) *ℤ b.thermal) 32 (omega arith))

-- V·w/16,777,216, rounded down, with the entry w at i = −943 + 24(j − 1)
abbrev pub lag_at : Knob → ℕ → ℤ
lag_at b k = floor (over (b.thermal *ℤ entry_at (24 * k)) omega_parts (omega arith))

-- y = x − 2·(V·w/16,777,216 rounded down)
abbrev pub y_at : Knob → ℕ → ℤ
y_at b k = x_at b k -ℤ pos 2 *ℤ lag_at b k

-- column 0 is (0, 0)
unfoldable pub knee_column : Knob → ℕ → Column
knee_column b zero = record { x = pos 0; y = pos 0 }
knee_column b (suc k) = record { x = x_at b k; y = y_at b k }

-- ---- 18: a or V below 1, V no multiple of 32, or the last x above the limit of a column

abbrev pub sound_knob : Knob → Bool
sound_knob b = le_z (pos 1) b.knee && le_z (pos 1) b.thermal && eqb (nat_abs b.thermal % 32) 0 && le_z (x_at b 60) (pos wave_limit)

unfoldable pub voltage_rule : Knob → Verdict
voltage_rule b = unless (sound_knob b) 0

unfoldable pub build_report : Knob → Report
build_report b = judge (rule 18 voltage_rule ∷ []) b

-- ---- the curve that is built: a pair of 62 columns; on refusal no kind, no columns and all zeros

abbrev pub if_built : {A : Type 0} → Knob → A → A → A
if_built b built none = cond (eqb (build_report b).number 0) built none

unfoldable pub built_kind : Knob → CurveKind
built_kind b = if_built b Pair Unset

unfoldable pub built_width : Knob → ℕ
built_width b = if_built b column_limit 0

unfoldable pub built_columns : Knob → List Column
built_columns b = if_built b (table (knee_column b) column_limit) (replicate column_limit (record { x = pos 0; y = pos 0 }))

-- ---- a record with another curve; the resistance that the curve is for is still its own

abbrev pub with_curve : Record → CurveKind → ℕ → List Column → Record
with_curve r kind width columns = record {
  version = r.version;
  rate = r.rate;
  count = r.count;
  tap = r.tap;
  rows = r.rows;
  kind = kind;
  width = width;
  columns = columns;
  resistance = r.resistance;
}

abbrev pub with_knee : Record → Knob → Record
with_knee r b = with_curve r (built_kind b) (built_width b) (built_columns b)

-- ---- a circuit file with its curve built anew: 1 of the buffer, 1 to 11 of the file, and 18

-- the file, the knob, and what the buffer holds before
pub record Turning : Type 0 where
  pub file : List ℕ
  pub knob : Knob
  pub buffer : List ℕ

abbrev pub turning : List ℕ → Knob → List ℕ → Turning
turning file b buffer = record { file = file; knob = b; buffer = buffer }

unfoldable pub turn_rules : List (Rule Turning)
turn_rules = rule 1 (λ t. file_length_rule t.buffer) ∷ of (λ t. t.file) read_rules ++ (rule 18 (λ t. voltage_rule t.knob) ∷ [])

unfoldable pub turn_report : Turning → Report
turn_report t = judge turn_rules t

-- the buffer afterwards
unfoldable pub buffer_turned : Turning → List ℕ
buffer_turned t = cond (eqb (turn_report t).number 0) (file_of (with_knee (record_of t.file) t.knob)) t.buffer
