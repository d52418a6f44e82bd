-- Each rule is told where those before it pass.
use Rattle.std.proofs.Common.{◌∙◌}
use Rattle.circuit.specs.Curve.{column_rule}
use Rattle.circuit.specs.SetUp.{port_resistance_rule, ratio_rule, curve_resistance_rule, port_rules}
use Rattle.laws.proofs.Trying.{handed_on, refused_first, passed_first, last_judged}
use Rattle.setup.proofs.port.Ports.judge.Goals as goal

pub returns-in_err-resistance_rule : goal.returns-in_err-resistance_rule
unfolding port_rules
returns-in_err-resistance_rule c =
    handed_on _ _ c.from_residual.ensures.1 ∙ refused_first 8 port_resistance_rule _ _ _ c.in_err-resistance_rule.ensures

pub returns-in_err-ratio_rule : goal.returns-in_err-ratio_rule
unfolding port_rules
returns-in_err-ratio_rule c =
    handed_on _ _ c.from_residual-in_err-ratio_rule.ensures.1
    ∙ passed_first 7 port_resistance_rule _ _ c.in_ok-resistance_rule.ensures
    (refused_first 9 ratio_rule _ _ _ c.in_err-ratio_rule.ensures)

pub returns-in_err-column_rule : goal.returns-in_err-column_rule
unfolding port_rules
returns-in_err-column_rule c =
    handed_on _ _ c.from_residual-in_err-column_rule.ensures.1
    ∙ passed_first 7 port_resistance_rule _ _ c.in_ok-resistance_rule.ensures
    (passed_first 8 ratio_rule _ _ c.in_ok-ratio_rule.ensures
    (refused_first 10 column_rule _ _ _ c.in_err-column_rule.ensures))

pub returns : goal.returns
unfolding port_rules
returns c =
    passed_first 7 port_resistance_rule _ _ c.in_ok-resistance_rule.ensures
    (passed_first 8 ratio_rule _ _ c.in_ok-ratio_rule.ensures
    (passed_first 9 column_rule _ _ c.in_ok-column_rule.ensures
    (c.curve_resistance_rule.ensures ∙ last_judged 11 curve_resistance_rule _)))
