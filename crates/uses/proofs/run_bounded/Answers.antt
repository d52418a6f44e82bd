-- The bound of a run's samples, of a record that has the sizes of its type.
use mathlib.Core.Path.{subst}
use Rattle.circuit.specs.Run.{call}
use Rattle.theorems.proofs.RunBound.{run_bound, run_left}
use Rattle.uses.specs.Promises.{RunsBounded}
use Rattle.uses.proofs.run_bounded.Goals as goal

pub returns : goal.returns
returns c =
    let a = c.args in
    let runs = c.run.ensures in
    subst (λ r. RunsBounded (call r a.state.waves a.input.now a.output.now) c.run.result c.run.new.output) c.own-circuit.ensures.same
    (record { runs = runs; bounded = run_bound _ _ _ runs c.own-circuit.ensures.held.sized; left = run_left _ _ _ runs })
