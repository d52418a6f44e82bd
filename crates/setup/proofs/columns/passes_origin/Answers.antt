-- Some column is asked for as the definition asks.
use Rattle.std.proofs.Common.{◌∙◌}
use Rattle.laws.proofs.Ranges.{some_in}
use Rattle.setup.proofs.columns.passes_origin.Goals as goal

pub returns-in-Single : goal.returns-in-Single
returns-in-Single c = rw c.in-Single.is (c.has_origin.ensures ∙ some_in _ _)
