-- Each rule is told where those before it pass.
use Rattle.std.proofs.Common.{◌∙◌}
use Rattle.circuit.specs.Record.{form_rule, rate_rule, children_rule, used_once_rule, input_and_tap_rule, value_rule, record_rules}
use Rattle.laws.proofs.Formed.{formed}
use Rattle.laws.proofs.Trying.{done_passes, handed_on, refused_first, passed_first, last_judged}
use Rattle.wiring.proofs.judge_record.Goals as goal

pub returns-in_err-form_rule : goal.returns-in_err-form_rule
unfolding record_rules
returns-in_err-form_rule c = handed_on _ _ c.from_residual.ensures.1 ∙ refused_first 4 form_rule _ _ _ c.in_err-form_rule.ensures

pub returns-in_err-rate_rule : goal.returns-in_err-rate_rule
unfolding record_rules
returns-in_err-rate_rule c =
    handed_on _ _ c.from_residual-in_err-rate_rule.ensures.1
    ∙ passed_first 3 form_rule _ _ c.in_ok-form_rule.ensures (refused_first 5 rate_rule _ _ _ c.in_err-rate_rule.ensures)

pub returns-in_err-children_rule : goal.returns-in_err-children_rule
unfolding record_rules
returns-in_err-children_rule c =
    handed_on _ _ c.from_residual-in_err-children_rule.ensures.1
    ∙ passed_first 3 form_rule _ _ c.in_ok-form_rule.ensures
    (passed_first 4 rate_rule _ _ c.in_ok-rate_rule.ensures (refused_first 6 children_rule _ _ _ c.in_err-children_rule.ensures))

pub used_once_rule-requires : goal.used_once_rule-requires
used_once_rule-requires c = (formed _ (done_passes 3 _ c.in_ok-form_rule.ensures)).short

pub returns-in_err-used_once_rule : goal.returns-in_err-used_once_rule
unfolding record_rules
returns-in_err-used_once_rule c =
    handed_on _ _ c.from_residual-in_err-used_once_rule.ensures.1
    ∙ passed_first 3 form_rule _ _ c.in_ok-form_rule.ensures
    (passed_first 4 rate_rule _ _ c.in_ok-rate_rule.ensures
    (passed_first 5 children_rule _ _ c.in_ok-children_rule.ensures (refused_first 6 used_once_rule _ _ _ c.in_err-used_once_rule.ensures)))

pub returns-in_err-input_and_tap_rule : goal.returns-in_err-input_and_tap_rule
unfolding record_rules
returns-in_err-input_and_tap_rule c =
    handed_on _ _ c.from_residual-in_err-input_and_tap_rule.ensures.1
    ∙ passed_first 3 form_rule _ _ c.in_ok-form_rule.ensures
    (passed_first 4 rate_rule _ _ c.in_ok-rate_rule.ensures
    (passed_first 5 children_rule _ _ c.in_ok-children_rule.ensures
    (passed_first 5 used_once_rule _ _ c.in_ok-used_once_rule.ensures
    (refused_first 6 input_and_tap_rule _ _ _ c.in_err-input_and_tap_rule.ensures))))

pub returns : goal.returns
unfolding record_rules
returns c =
    passed_first 3 form_rule _ _ c.in_ok-form_rule.ensures
    (passed_first 4 rate_rule _ _ c.in_ok-rate_rule.ensures
    (passed_first 5 children_rule _ _ c.in_ok-children_rule.ensures
    (passed_first 5 used_once_rule _ _ c.in_ok-used_once_rule.ensures
    (passed_first 5 input_and_tap_rule _ _ c.in_ok-input_and_tap_rule.ensures (c.value_rule.ensures ∙ last_judged 7 value_rule c.args.r.now)))))
