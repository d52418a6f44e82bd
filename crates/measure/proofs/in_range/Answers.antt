-- The two ends as the code writes them are the paper's.
use Rattle.std.proofs.Common.{refl}
use lib.Ieee.{of_bits, of_int, div}
use Rattle.measure.proofs.in_range.Goals as goal

pub returns : goal.returns
unfolding of_bits of_int div
returns c = refl
