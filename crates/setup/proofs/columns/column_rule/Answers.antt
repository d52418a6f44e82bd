-- One verdict, then the other, under one number.
use Rattle.std.proofs.Common.{◌∙◌}
use Rattle.circuit.specs.Curve.{column_rule}
use Rattle.laws.proofs.Trying.{handed_on, refused_then, passed_then}
use Rattle.setup.proofs.columns.column_rule.Goals as goal

pub returns-in_err-lowest_column : goal.returns-in_err-lowest_column
unfolding column_rule
returns-in_err-lowest_column c = handed_on _ _ c.from_residual.ensures.1 ∙ refused_then 10 _ _ _ c.in_err-lowest_column.ensures

pub returns : goal.returns
unfolding column_rule
returns c = passed_then 9 _ _ c.in_ok-lowest_column.ensures c.origin_rule.ensures
