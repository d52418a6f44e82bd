-- The bytes from `at` on, as a number.
use Rattle.std.proofs.Common.{◌∙◌}
use Rattle.blocks.proofs.Digits.{le_at}
use Rattle.blocks.proofs.field.word.Goals as goal

pub returns : goal.returns
returns c = c.from_le_bytes.ensures ∙ le_at 3 c.args.at c.args.s.now c.requires c.array.ensures
