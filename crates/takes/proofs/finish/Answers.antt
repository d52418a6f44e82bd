-- The circuit's refusal, then the take's own, then what is left over.
use Rattle.std.proofs.Common.{◌≡◌, Err, ◌∙◌, rules}
use Rattle.circuit.specs.Take.{take_of}
use Rattle.takes.proofs.Deciding.{stopped, passed_on, end_decided}
use Rattle.takes.proofs.finish.Goals as goal

pub returns-in_err-check : goal.returns-in_err-check
returns-in_err-check c =
    let same : c.from_residual.result ≡ Err c.in_err-check.field-0.0 = search rules in
    record { number = rw same (stopped _ _ _ (rw c.in_err-check.was at c.check.ensures.charges.number)) ∙ end_decided (take_of _ _) }

pub returns-in_err-own_rules : goal.returns-in_err-own_rules
returns-in_err-own_rules c =
    let same : c.from_residual-in_err-own_rules.result ≡ Err c.in_err-own_rules.field-0.0 = search rules in
    record { number = rw same (stopped _ _ _ c.in_err-own_rules.ensures) ∙ passed_on _ _ (rw c.in_ok-check.was at c.check.ensures.charges.number) ∙ end_decided (take_of _ _) }

pub returns : goal.returns
returns c =
    record { number = c.end_rule.ensures ∙ passed_on _ _ c.in_ok-own_rules.ensures ∙ passed_on _ _ (rw c.in_ok-check.was at c.check.ensures.charges.number) ∙ end_decided (take_of _ _) }
