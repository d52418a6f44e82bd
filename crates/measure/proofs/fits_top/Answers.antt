-- The three factors as the code writes them are the paper's.
use Rattle.std.proofs.Common.{refl}
use lib.Ieee.{of_bits, of_int}
use Rattle.measure.proofs.fits_top.Goals as goal

pub returns : goal.returns
unfolding of_bits of_int
returns c = refl
