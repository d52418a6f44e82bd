-- The case of 24 bits of the law over the width.
use Rattle.std.proofs.Common.{T, sym, ◌∙◌, subst, arith}
use lib.Ieee.{of_int}
use Rattle.measure.proofs.Width.{in_parts}
use Rattle.measure.proofs.ratio_of.Goals as goal

pub returns : goal.returns
unfolding of_int
returns c = c.whole_part.ensures ∙ in_parts 24 (omega arith) c.args.q (subst T (sym c.well_formed.0.1) tt)
