-- The first k adaptors have sent.
use Rattle.std.proofs.Common.{suc, ◌+◌}
use Rattle.engine.specs.Plan.{floor}
use Rattle.engine.specs.Sweep.{Risen, Climbs}
use Rattle.engine.proofs.sweep.sweep_up.Given as goal

abbrev pub invariant-loop-k : goal.invariant-loop-k
invariant-loop-k g l = (p : Climbs l.plan l.initial.up) → Risen p.swept.circuit p.swept.wave (suc floor + l.k) l.up
