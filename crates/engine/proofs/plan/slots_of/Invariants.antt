-- The rows below i have their slots, and `next` the next slot of each role.
use Rattle.engine.proofs.Giving.{Given}
use Rattle.engine.proofs.plan.slots_of.Given as goal

abbrev pub invariant-loop-i : goal.invariant-loop-i
invariant-loop-i l = Given l.r.rows l.r.count l.i l.slots l.next
