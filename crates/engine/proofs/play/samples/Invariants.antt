-- The outputs done stand in front of what was there before.
use Rattle.engine.proofs.Looping.{Going}
use Rattle.engine.proofs.play.samples.Given as goal

abbrev pub invariant-loop-i : goal.invariant-loop-i
invariant-loop-i g l = Going g.W.Written.shown l.plan l.fn.up (g.S.Samples.samples l.input) l.fn.out l.up l.down l.out l.i l.segment
