-- The run's answer says whether its samples are done, one is refused, or the circuit is.
use Rattle.std.proofs.Common.{refl, ap, ◌∙◌, arith}
use mathlib.Core.Logic.{inl, inr}
use Rattle.circuit.specs.Numbers.{handed, told}
use Rattle.circuit.specs.Take.{left_over}
use Rattle.takes.proofs.Bytes.{left_sized}
use Rattle.takes.proofs.Feeding.{feeds_refused, Run, few_done, feeds_played, fed_unplayed}
use Rattle.takes.proofs.work.Goals as goal
use Rattle.takes.proofs.work.Goals.{After-run_raw-progress}

ran : (c : After-run_raw-progress)
    → let a = c.args in Run a.r.now a.carried a.bytes.now a.out.now c.run_raw-progress.result c.run_raw-progress.new.out
ran c = record { sized = left_sized c.args.carried _ c.well_formed.1.0; ready = c.requires; promised = c.run_raw-progress.ensures }

pub overflow_add-done : goal.overflow_add-done
overflow_add-done c =
    omega (arith, few_done (ran (goal.at.overflow_add-done c).After-run_raw-progress), c.requires.samples)

pub returns-in-Ok : goal.returns-in-Ok
returns-in-Ok c =
    let run = ran (goal.at.returns-in-Ok c).After-run_raw-progress in
    let k = c.carried_on.ensures in
    feeds_played run 0 (ap (λ a. (handed a).number) c.in-Ok.is) (inl refl) _ refl refl refl
    (λ i. record { state = k.state i; left = k.left i; count = k.count i; done = k.done i; held = k.held i })

pub returns-in-Overload : goal.returns-in-Overload
unfolding told left_over
returns-in-Overload c =
    let run = ran (goal.at.returns-in-Overload c).After-run_raw-progress in
    let k = c.carried_on-in-Overload.ensures in
    feeds_played run 15 (ap (λ a. (handed a).number) c.in-Err.is ∙ ap (λ d. (told d).number) c.in-Overload.is) (inr refl) _ refl refl refl
    (λ i. record { state = k.state i; left = k.left i; count = k.count i; done = k.done i; held = 15 })

pub returns-in_default : goal.returns-in_default
returns-in_default c =
    let run = ran (goal.at.returns-in_default c).After-run_raw-progress in
    feeds_refused _ _ _ _ c.turned_away.ensures (fed_unplayed run _ c.in-Err.is c.in_default.not-Overload)
