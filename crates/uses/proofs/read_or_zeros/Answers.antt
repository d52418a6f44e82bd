-- What is read, or zeros.
use Rattle.std.proofs.Common.{ap, ◌∙◌}
use Rattle.std.specs.Result.{result_unwrap_or}
use Rattle.uses.proofs.Zeros.{record_or}
use Rattle.uses.proofs.read_or_zeros.Goals as goal

pub returns : goal.returns
returns c = c.unwrap_or.ensures ∙ ap (result_unwrap_or c.read.result) c.no_record.ensures ∙ record_or _ c.read.ensures
