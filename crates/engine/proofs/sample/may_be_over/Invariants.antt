-- Where what is gathered is calm, so is what was gathered before, and every wave passed is in its limit.
use Rattle.std.proofs.Common.{ℕ, ◌<◌}
use Rattle.whole.specs.Order.{Abs}
use Rattle.circuit.specs.Curve.{wave_limit}
use Rattle.circuit.specs.Sample.{stored_at}
use Rattle.engine.specs.Sample.{Calm}
use Rattle.engine.proofs.sample.may_be_over.Given as goal

abbrev pub invariant-loop-s : goal.invariant-loop-s
invariant-loop-s l = Calm l.all → Calm l.first × ((i : ℕ) → i < l.s → Abs (stored_at l.down i) wave_limit)
