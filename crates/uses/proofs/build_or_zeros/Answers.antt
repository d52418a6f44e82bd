-- What is built, or zeros.
use Rattle.std.proofs.Common.{ap, ◌∙◌}
use Rattle.uses.proofs.Zeros.{kind_or, width_or, columns_or}
use Rattle.uses.proofs.build_or_zeros.Goals as goal

pub returns-clause-kind : goal.returns-clause-kind
returns-clause-kind c = ap (λ b. b.kind) c.unwrap_or.ensures ∙ kind_or _ c.build.ensures

pub returns-clause-width : goal.returns-clause-width
returns-clause-width c = ap (λ b. b.width) c.unwrap_or.ensures ∙ width_or _ c.build.ensures

pub returns-clause-columns : goal.returns-clause-columns
returns-clause-columns c = ap (λ b. b.columns) c.unwrap_or.ensures ∙ columns_or _ c.build.ensures
