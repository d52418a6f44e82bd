-- The adaptors from place k on have sent.
use Rattle.std.proofs.Common.{◌+◌}
use Rattle.circuit.specs.Sample.{stored_at}
use Rattle.engine.specs.Plan.{floor, top_slot}
use Rattle.engine.specs.Sweep.{Drops}
use Rattle.engine.proofs.Fall.{Falling}
use Rattle.engine.proofs.sweep.sweep_down.Given as goal

abbrev pub invariant-loop-k : goal.invariant-loop-k
invariant-loop-k g l =
    (p : Drops l.plan l.up l.initial.down)
    → Falling p.swept.circuit p.swept.wave (stored_at l.initial.down (top_slot p.swept.circuit)) (floor + l.k) l.down
