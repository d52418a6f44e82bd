-- The turns of the rows below i stand in their slots.
use Rattle.std.proofs.Common.{pos}
use Rattle.circuit.specs.Record.{part_at, reversed_at}
use Rattle.parts.specs.Parts.{turn_of}
use Rattle.engine.proofs.Placing.{Placed}
use Rattle.engine.proofs.plan.turns_of.Given as goal

abbrev pub invariant-loop-i : goal.invariant-loop-i
invariant-loop-i l = Placed (pos 0) l.slots (λ j. turn_of (part_at l.r j) (reversed_at l.r j)) l.i l.turns
