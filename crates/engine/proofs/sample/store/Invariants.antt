-- The first s slots hold what they keep, the others what they held.
use Rattle.engine.specs.Sample.{Restored}
use Rattle.engine.proofs.sample.store.Given as goal

abbrev pub invariant-loop-s : goal.invariant-loop-s
invariant-loop-s l = Restored l.turns l.down l.s l.fn.up l.up
