-- 12 is first to 15, as its rule is.
use Rattle.std.proofs.Common.{◌≡◌, Err, eqb, [], ◌∷◌, refl, sym, ◌∙◌, rules}
use Rattle.circuit.specs.Numbers.{rule}
use Rattle.circuit.specs.Take.{carried_rule, held_rule}
use Rattle.laws.proofs.Judging.{judge_test}
use Rattle.laws.proofs.Trying.{refused_first, passed_first}
use Rattle.takes.specs.Own.{own_rules}
use Rattle.takes.proofs.Deciding.{test_told}
use Rattle.takes.proofs.rules.own_rules.Goals as goal

pub returns-in_err-carried_rule : goal.returns-in_err-carried_rule
unfolding own_rules
returns-in_err-carried_rule c =
    let same : c.from_residual.result ≡ Err c.in_err-carried_rule.field-0.0 = search rules in
    rw same (refused_first 12 carried_rule (rule 15 held_rule ∷ []) c.args.c.now _ c.in_err-carried_rule.ensures)

pub returns : goal.returns
unfolding own_rules held_rule
returns c =
    let k = c.args.c.now in
    passed_first 11 carried_rule (rule 15 held_rule ∷ []) k c.in_ok-carried_rule.ensures
    (c.held_rule.ensures ∙ test_told 15 (eqb k.held 0) k.done ∙ sym (judge_test (rule 15 held_rule) k (eqb k.held 0) k.done refl))
