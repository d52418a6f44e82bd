-- The adaptors below row i are entered.
use Rattle.engine.proofs.Entering.{Entered}
use Rattle.engine.proofs.plan.joints_of.Given as goal

abbrev pub invariant-loop-i : goal.invariant-loop-i
invariant-loop-i l = Entered l.r l.i l.joints
