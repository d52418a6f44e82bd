-- What set-up prepares, or zeros; 0.0 is the whole number 0.
use Rattle.std.proofs.Common.{◌∙◌}
use Rattle.std.specs.Float.Ieee.{of_int, of_bits}
use Rattle.uses.proofs.Zeros.{rows_or}
use Rattle.uses.proofs.set_up_or_zeros.Goals as goal

pub returns : goal.returns
unfolding of_int of_bits
returns c = c.unwrap_or.ensures ∙ rows_or _ c.set_up.ensures
