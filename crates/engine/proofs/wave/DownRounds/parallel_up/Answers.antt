-- A wave and a part of a sum, rounded down.
use Rattle.std.proofs.Common.{◌≡◌, false, ◌-ℤ◌, nat_abs, refl, to_z-of_z}
use Rattle.whole.specs.Signed.{returned}
use Rattle.circuit.specs.Sample.{h}
use Rattle.engine.proofs.Range.{up_fits, parallel_fits}
use Rattle.engine.proofs.wave.DownRounds.parallel_up.Goals as goal

part_is : (c : goal.After-part) → c.part.result ≡ h (nat_abs c.args.g) (c.args.a1 -ℤ c.args.a2)
part_is c = let m = up_fits c.requires in rw (to_z-of_z c.ranges.g, to_z-of_z m.0, to_z-of_z m.1, to_z-of_z m.4) at c.part.ensures

pub overflow_add-result : goal.overflow_add-result
overflow_add-result c =
    rw (to_z-of_z (up_fits c.requires).1, returned c.part.result c.part.type_inv, part_is c) (parallel_fits (false, refl) c.requires)

pub returns : goal.returns
returns c =
    rw (to_z-of_z (up_fits c.requires).1, returned c.part.result c.part.type_inv, part_is c) (to_z-of_z (parallel_fits (false, refl) c.requires))
