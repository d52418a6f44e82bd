-- 0.0 is the whole number 0.
use Rattle.std.proofs.Common.{refl}
use Rattle.std.specs.Float.Ieee.{of_int, of_bits}
use Rattle.circuit.specs.File.{no_record}
use Rattle.blocks.proofs.no_record.Goals as goal

pub returns : goal.returns
unfolding no_record of_int of_bits
returns c = refl
