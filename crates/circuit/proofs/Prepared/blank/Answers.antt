-- The bits of 0.0 are what the definition's whole number 0 rounds to.
use Rattle.std.specs.Prelude.{refl}
use Rattle.std.specs.Float.Ieee.{of_bits, of_int}
use Rattle.circuit.proofs.Prepared.blank.Goals as goal

pub returns : goal.returns
unfolding of_bits of_int
returns c = refl
