-- 1 / 0 is the infinity above every finite value.
use lib.Ieee.{of_bits, div}
use Rattle.laws.proofs.Tests.{positive_is}
use Rattle.measure.proofs.is_positive.Goals as goal

pub returns : goal.returns
unfolding of_bits div
returns c = positive_is c.args.x
