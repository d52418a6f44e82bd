-- What is sent up, at each kind of adaptor.
use Rattle.std.proofs.Common.{◌∙◌, to_z-of_z}
use lib.IntN.{+ℤ_idl}
use Rattle.whole.specs.Signed.{returned}
use Rattle.circuit.specs.Sample.{sends_up}
use Rattle.engine.proofs.Range.{up_fits}
use Rattle.engine.proofs.wave.sends_up.Goals as goal

pub returns-in-Series : goal.returns-in-Series
unfolding sends_up
returns-in-Series g c =
    let m = up_fits c.requires in
    rw (c.in-Series.is, to_z-of_z m.0, to_z-of_z m.1, to_z-of_z m.2, to_z-of_z m.3) (+ℤ_idl _)

pub returns-in-Parallel : goal.returns-in-Parallel
unfolding sends_up
returns-in-Parallel g c =
    let m = up_fits c.requires in
    rw c.in-Parallel.is
    (returned _ c.parallel_up.type_inv ∙ rw (to_z-of_z c.ranges.g, to_z-of_z m.0, to_z-of_z m.1) at c.parallel_up.ensures)
