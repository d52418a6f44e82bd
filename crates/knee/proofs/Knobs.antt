-- What a knob that code holds has by its type: two numbers that fit an i32.
use Rattle.std.specs.Int.{w32}
use Rattle.std.proofs.Common.{SFits}
use mathlib.Core.List.{List}
use mir.Val.{Val}
use denote.Shadow.{shadow}
use Rattle.circuit.specs.contracts.Knob as Types
use Rattle.circuit.specs.declared.Knob.{Knob}

pub record Held (b : Knob) : Type 0 where
  pub knee : SFits w32 b.knee
  pub thermal : SFits w32 b.thermal

pub held : (b : Knob) (vs : List Val) → shadow ((Types.the_row).own_val b vs) → Held b
held b vs h = record { knee = record { sfits = h.1.1.0.1 }; thermal = record { sfits = h.1.1.1.0.1 } }
