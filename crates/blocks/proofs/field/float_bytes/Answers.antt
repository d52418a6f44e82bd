-- The eight bytes of the bits.
use Rattle.std.proofs.Common.{ap, ◌∙◌}
use Rattle.circuit.specs.File.{bytes}
use Rattle.blocks.proofs.Digits.{le_bytes}
use Rattle.blocks.proofs.field.float_bytes.Goals as goal

pub returns : goal.returns
returns c = c.to_le_bytes.ensures ∙ le_bytes 8 _ ∙ ap (bytes 8) c.f64_to_bits_with_nan.ensures
