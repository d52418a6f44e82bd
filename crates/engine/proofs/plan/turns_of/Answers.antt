-- A turn of the loop places that of row i.
use Rattle.std.proofs.Common.{refl, ap, ◌∙◌, arith}
use Rattle.whole.specs.Signed.{returned}
use Rattle.circuit.specs.declared.Row.{Row}
use Rattle.parts.specs.Parts.{turn_of}
use Rattle.engine.proofs.Placing.{seated_own, placed_start, placed_more}
use Rattle.engine.proofs.plan.turns_of.Goals as goal

pub loop-i-init : goal.loop-i-init
loop-i-init c = placed_start refl

pub loop-i-preserved : goal.loop-i-preserved
loop-i-preserved c =
    let value = returned _ c.turn.type_inv ∙ c.turn.ensures ∙ ap (λ (w : Row). turn_of w.part w.reversed) c.row-row.ensures.value in
    placed_more (seated_own c.requires) (omega arith) c.slot_at.ensures value c.loop-i.invariant

pub bounds-turns-slot_at : goal.bounds-turns-slot_at
bounds-turns-slot_at c = omega (arith, (seated_own c.requires).low c.loop-i.i (omega arith), c.slot_at.ensures)
