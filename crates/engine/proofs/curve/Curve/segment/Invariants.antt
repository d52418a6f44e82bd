-- The edge before `low` is passed and edge `high` is not. So the last that remains lies between its own two edges, and nothing is asked of the edges
-- on the way.
use Rattle.std.proofs.Common.{◌-◌, ◌<◌, ◌≤◌, ◌<ℤ◌}
use Rattle.engine.specs.Curve.{line_at}
use Rattle.engine.proofs.Lines.{Behind}
use Rattle.engine.proofs.curve.Curve.segment.Given as goal

abbrev pub invariant-loop-middle : goal.invariant-loop-middle
invariant-loop-middle l = (l.low < l.high) × (l.high ≤ l.self.width) × Behind l.self.lines.now l.wave l.low × (l.wave <ℤ (line_at l.self.lines.now l.high).edge)

abbrev pub decreases-loop-middle : goal.decreases-loop-middle
decreases-loop-middle l = l.high - l.low
