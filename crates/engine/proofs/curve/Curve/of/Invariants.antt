-- The line past the columns is laid, and the first i are.
use Rattle.engine.specs.Curve.{Plotted, Laid}
use Rattle.engine.proofs.curve.Curve.of.Given as goal

abbrev pub invariant-loop-i : goal.invariant-loop-i
invariant-loop-i l = Plotted l.r.columns l.width × Laid l.r.columns l.width l.i l.lines
