-- What owning a record tells.
use Rattle.file.proofs.Owned.{held}
use Rattle.uses.proofs.own.Goals as goal

pub returns-clause-held : goal.returns-clause-held
returns-clause-held c = held c.args.r _ c.well_formed.0
