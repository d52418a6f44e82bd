-- A call that 3 to 12 refuse is turned away, and any other is played.
use Rattle.std.proofs.Common.{◌≡◌, ◌/◌, ◌++◌, length, refl, arith}
use Rattle.circuit.specs.Numbers.{judge}
use Rattle.circuit.specs.Run.{charged_rules}
use Rattle.circuit.specs.Take.{output_length}
use Rattle.engine.specs.Raw.{RawCall, raw_call, raw_charged, raw_turned_away, ran_raw}
use Rattle.engine.proofs.Calling.{refusing, playable, runs_raw}
use Rattle.engine.proofs.RawBytes.{length_fitting}
use Rattle.engine.proofs.RawRuns.{ran_raw_refused}
use Rattle.engine.proofs.run_raw.Goals as goal

pub returns-in-Err : goal.returns-in-Err
returns-in-Err c =
    let k : RawCall = raw_call c.args.r.now c.args.state.waves (c.args.left.now ++ c.args.more.now) c.args.out.now in
    let h = c.check-checked.ensures.charges in
    let is = c.in-Err.is in
    let told = c.turned_away.ensures in
    let e : ran_raw k ≡ raw_turned_away k (judge charged_rules (raw_charged k)) = ran_raw_refused k (refusing h is) in
    record { number = rw (told, e) (rw is at h.number); samples = rw (told, e) refl; segment = rw (told, e) refl; waves = rw (told, e) refl; room = rw e refl }

pub play-requires : goal.play-requires
play-requires c =
    let is = c.in-Ok.is in (
      playable c.check-checked.ensures.charges is (rw is at c.check-checked.ensures.sized),
      omega (arith, length_fitting (length c.args.out.now / output_length) c.args.left.now c.args.more.now),
    )

pub returns-in-Ok : goal.returns-in-Ok
returns-in-Ok c =
    let is = c.in-Ok.is in
    runs_raw (playable c.check-checked.ensures.charges is (rw is at c.check-checked.ensures.sized)) (c.args.left.now ++ c.args.more.now) c.args.out.now c.play.ensures
