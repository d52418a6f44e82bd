-- What the rows below i send stands in their slots.
use Rattle.std.proofs.Common.{pos}
use Rattle.circuit.specs.Sample.{Rounding}
use Rattle.circuit.specs.Record.{row_at}
use Rattle.engine.proofs.Loading.{up_of}
use Rattle.engine.proofs.Placing.{Placed}
use Rattle.engine.proofs.play.load.Given as goal

abbrev pub invariant-loop-i : goal.invariant-loop-i
invariant-loop-i l = (ρ : Rounding) → Placed (pos 0) l.slots (λ j. up_of ρ l.state.waves j (row_at l.r j)) l.i l.up
