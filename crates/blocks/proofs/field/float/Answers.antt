-- The bits are the eight bytes from `at` on.
use Rattle.std.proofs.Common.{ap, ◌∙◌}
use Rattle.std.specs.Float.{binary64}
use Rattle.std.specs.Float.Ieee.{of_bits}
use Rattle.blocks.proofs.Digits.{le_at}
use Rattle.blocks.proofs.field.float.Goals as goal

pub returns : goal.returns
returns c =
    c.f64_from_bits_with_nan.ensures ∙ ap (of_bits binary64) (c.from_le_bytes.ensures ∙ le_at 7 c.args.at c.args.s.now c.requires c.array.ensures)
