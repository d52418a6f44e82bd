-- The lesser of two numbers.
use Rattle.std.proofs.Common.{arith}
use Rattle.engine.proofs.RawBytes.{length_fitting}
use Rattle.engine.proofs.packed.PackedSamples.count.Goals as goal

pub returns : goal.returns
returns c = let p = c.args.self.now in omega (arith, c.min.ensures, length_fitting p.most p.left.now p.more.now)
