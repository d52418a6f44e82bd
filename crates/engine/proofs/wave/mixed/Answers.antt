-- A wave of 30 bits in parts of 2^24, and a product of 24 and of 38 bits.
use Rattle.std.proofs.Common.{rules}
use Rattle.whole.specs.Signed.{signed}
use Rattle.engine.proofs.Range.{mixed_fits}
use Rattle.engine.proofs.wave.mixed.Goals as goal

pub overflow_add-result : goal.overflow_add-result
overflow_add-result c = let m = mixed_fits c.requires.0 c.requires.1 c.requires.2 in search (rules, signed)

pub returns : goal.returns
returns c = let m = mixed_fits c.requires.0 c.requires.1 c.requires.2 in search (rules, signed)
