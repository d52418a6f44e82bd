-- A call that 3 to 13 refuse is turned away, and any other is played.
use Rattle.std.proofs.Common.{◌≡◌, [], None, Err, refl, sym, ap, ◌∙◌, ne_eqb, arith}
use Rattle.circuit.specs.Numbers.{rule, judge, unless, told}
use Rattle.circuit.specs.Run.{Call, lengths_rule, run_rules, ran, turned_away}
use Rattle.circuit.specs.Promises.{Runs}
use Rattle.circuit.specs.declared.Progress.{Progress}
use Rattle.circuit.specs.declared.Refusal.{Refusal}
use Rattle.circuit.specs.declared.Refusal.TheVariants.{Lengths}
use Rattle.circuit.specs.declared.State.{State}
use Rattle.laws.proofs.Judging.{judge_fail, else_next, else_first}
use Rattle.laws.proofs.Trying.{told_above}
use Rattle.laws.proofs.Running.{run_judged, ran_refused}
use Rattle.engine.proofs.Calling.{refusing, clearing, playable, runs}
use Rattle.engine.proofs.run.Goals as goal

-- what is handed back of a call that is refused before its first sample
away : (k : Call) (e : Refusal) (s : State) {p : Progress} → p ≡ record { answer = Err e; done = 0; segment = None; state = s } → s.waves ≡ k.waves
    → told e ≡ judge run_rules k → Runs k p k.output
away k e s p same j =
    let away : ran k ≡ turned_away k (judge run_rules k) = ran_refused k (rw j at (told_above e)) in
    record { number = rw (p, away) j; samples = rw (p, away) refl; segment = rw (p, away) refl; waves = rw (p, away) same; output = rw away refl }

pub returns-in-Err : goal.returns-in-Err
returns-in-Err c =
    let h = c.check-checked.ensures.charges in
    let is = c.in-Err.is in
    away _ _ _ c.turned_away.ensures refl ((rw is at h.number) ∙ sym (run_judged _ ∙ else_first _ _ (refusing h is)))

pub returns-in-Ok : goal.returns-in-Ok
unfolding told lengths_rule
returns-in-Ok c =
    let differ = judge_fail (rule 13 lengths_rule) [] _ 0 (ap (λ b. unless b 0) (ne_eqb _ _ c.if-input-output.true)) in
    away _ Lengths _ c.turned_away-in-Ok.ensures refl (sym (run_judged _ ∙ else_next _ _ (clearing c.check-checked.ensures.charges c.in-Ok.is) ∙ differ))

pub play-requires : goal.play-requires
play-requires c =
    let is = c.in-Ok.is in
    (playable c.check-checked.ensures.charges is (rw is at c.check-checked.ensures.sized), omega (arith, c.if-input-output.false))

pub returns-in-Ok-2 : goal.returns-in-Ok-2
returns-in-Ok-2 c =
    let is = c.in-Ok.is in
    runs (playable c.check-checked.ensures.charges is (rw is at c.check-checked.ensures.sized)) c.args.input.now c.args.output.now c.if-input-output.false
    c.play.ensures
