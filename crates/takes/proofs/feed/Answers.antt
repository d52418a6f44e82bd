-- The circuit's refusal comes before the take's own, and where the take's own rules pass the call is worked.
use Rattle.std.proofs.Common.{◌≡◌, sym, ap, ◌∙◌}
use mathlib.Core.Path.{ap₂}
use Rattle.circuit.specs.Numbers.{judge, handed, told}
use Rattle.circuit.specs.Take.{feeding, feed_rules}
use Rattle.laws.proofs.Judging.{◌or_else◌}
use Rattle.takes.proofs.Bytes.{left_sized}
use Rattle.takes.proofs.Deciding.{stopped, passed_on, both_handed, feed_decided, zero_ready}
use Rattle.takes.proofs.Feeding.{feeds_refused, fed_kept}
use Rattle.takes.proofs.feed.Goals as goal
use Rattle.takes.proofs.feed.Goals.{in-Ok, in-Err-answer}

pub returns-in-Err : goal.returns-in-Err
returns-in-Err c =
    let a = c.args in
    let own = ap handed c.in-Err.ensures ∙ both_handed _ _ ∙ ap₂ (λ m n. m or_else n) c.own_rules-own.ensures c.room_rule-room.ensures in
    let first : told c.match-check.first ≡ judge feed_rules (feeding a.r.now a.carried a.bytes.now a.out.now) =
    elim c.match-check.branch [
      | in-Ok w ↦ ap told w.first-is ∙ own ∙ passed_on _ _ (rw w.in-Ok.is at c.check.ensures.charges.number)
      | in-Err-answer w ↦ ap told w.first-is ∙ stopped _ _ _ (rw w.in-Err-answer.is at c.check.ensures.charges.number)
    ]
    ∙ feed_decided a.r.now a.carried a.bytes.now a.out.now (left_sized a.carried _ c.well_formed.1.0) in
    feeds_refused _ _ _ _ c.turned_away.ensures (fed_kept _ _ first)

pub work-requires : goal.work-requires
work-requires c =
    let own = ap handed c.in_default.ensures ∙ both_handed _ _ ∙ ap₂ (λ m n. m or_else n) c.own_rules-own.ensures c.room_rule-room.ensures in
    zero_ready _ _ c.args.carried (ap (λ n. n.number) (sym own))
