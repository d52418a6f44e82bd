-- A turn puts the output of sample i after the others.
use Rattle.std.proofs.Common.{◌≡◌, ◌<◌, length, get_or, pos, w32, to_z, of_z, ◌∙◌, arith, rules}
use mir.ValLaws.{to_z-of_z}
use Rattle.circuit.specs.Run.{fresh_waves}
use Rattle.engine.proofs.Looping.{going_start, going_laid, going_refused, going_on, going_done}
use Rattle.engine.proofs.play.samples.Goals as goal
use Rattle.engine.proofs.play.samples.Goals.{After-sample}

pub loop-i-init : goal.loop-i-init
unfolding fresh_waves
loop-i-init g c = going_start g.met.W.Written.shows c.requires.0.room

pub sample-requires-in-loop-i : goal.sample-requires-in-loop-i
sample-requires-in-loop-i g c = going_laid c.loop-i.invariant c.requires.0

-- where a sample is read
module _ (g : _) (c : After-sample g) where
  inside : c.loop-i.i < length (g.S.Samples.samples c.args.input.now)
  inside = omega (arith, c.loop-i-test.true, c.count-count.ensures)

  read : to_z w32 (of_z w32 c.sample.result) ≡ get_or (g.S.Samples.samples c.args.input.now) c.loop-i.i (pos 0)
  read = to_z-of_z w32 c.sample.result (search rules) ∙ c.sample.ensures

pub returns-in-Err : goal.returns-in-Err
returns-in-Err g c =
    let at = (goal.at.returns-in-Err g c).After-sample in
    rw c.at.ensures (going_refused c.loop-i.invariant (inside g at) (read g at) c.sample-in-loop-i.ensures c.in-Err.fault c.in-Err.is)

pub loop-i-preserved : goal.loop-i-preserved
loop-i-preserved g c =
    let at = (goal.at.loop-i-preserved g c).After-sample in
    going_on c.loop-i.invariant (inside g at) (read g at) c.sample-in-loop-i.ensures g.met.W.Written.shows c.in-Ok.is c.put.ensures (search rules)

pub returns : goal.returns
returns g c = going_done c.loop-i.invariant (omega (arith, c.loop-i-test.false, c.loop-i.invariant.inside, c.count-count.ensures)) (omega (arith, c.loop-i-test.false, c.count-count.ensures))
