-- A column against the one before it.
use Rattle.std.proofs.Common.{◌≡◌, ℕ, zero, suc, ◌+◌, ◌-◌, Bool, ◌&&◌, ◌||◌, cond, List, [], ◌∷◌, ◌++◌, refl, ap, ap₂, ◌∙◌, eqb, arith}
use lib.Dec.{eqb-suc-zero}
use mathlib.Core.Bool.{or-false}
use Rattle.std.specs.List.{list_any, range_with_len}
use Rattle.std.proofs.lemmas.List.Folds.{list_any-append}
use Rattle.circuit.specs.Counting.{within, some}
use Rattle.circuit.specs.Curve.{wave_limit, starts, beside, sound_column}
use Rattle.circuit.specs.Record.{column_at}
use Rattle.circuit.specs.declared.Column.{Column}
use Rattle.circuit.specs.declared.CurveKind.{CurveKind}
use Rattle.circuit.specs.declared.Record.{Record}

-- column i against the one before it
abbrev pub column_sound : CurveKind → ℕ → Column → Column → Bool
column_sound kind i before here = within wave_limit here.x && cond (eqb i 0) (starts kind here) (beside before here)

pub sound_across : (r : Record) (i : ℕ) → column_sound r.kind i (column_at r (i - 1)) (column_at r i) ≡ sound_column r i
unfolding sound_column
sound_across r zero = refl
sound_across r (suc i) = let last : suc i - 1 ≡ i = omega arith in rw (eqb-suc-zero i, last) refl
