-- A turn sends what adaptor k sends up, and at the end all have sent.
use Rattle.std.proofs.Common.{◌≡◌, ℕ, suc, ◌+◌, ◌<◌, Bool, true, false, cond, ℤ, refl, w64, to_z, of_z, arith, rules}
use mir.ValLaws.{to_z-of_z}
use Rattle.circuit.specs.Record.{row_limit}
use Rattle.circuit.specs.Sample.{stored_at}
use Rattle.engine.specs.Plan.{floor}
use Rattle.engine.specs.Sweep.{Swept}
use Rattle.engine.proofs.Turn.{Turn, turn, slot_inside, below, climbed}
use Rattle.engine.proofs.sweep.sweep_up.Goals as goal
use Rattle.engine.proofs.sweep.sweep_up.Goals.{After-joint_at-joint, After-wave_at-in-loop-k}

-- a turn's adaptor
module _ (g : _) (c : After-joint_at-joint g) where
  abbrev slots : Bool → ℕ
  slots side = cond side c.joint_at-joint.result.first c.joint_at-joint.result.second

  seen : (s : Swept c.args.plan.now)
      → Turn s.circuit (suc floor + c.loop-k.k) c.joint_at-joint.result.join slots (to_z w64 (of_z w64 c.joint_at-joint.result.ratio))
  seen s = turn s c.loop-k-test.true refl c.joint_at-joint.ensures (to_z-of_z w64 _ (search rules))

  inside : (side : Bool) → slots side < row_limit
  inside = slot_inside c.requires.0.swept (seen c.requires.0.swept)

pub wave_at-requires : goal.wave_at-requires
wave_at-requires g c = inside g (goal.at.wave_at-requires g c).After-joint_at-joint true

pub wave_at-requires-in-loop-k : goal.wave_at-requires-in-loop-k
wave_at-requires-in-loop-k g c = inside g (goal.at.wave_at-requires-in-loop-k g c).After-joint_at-joint false

-- its children's waves
module _ (g : _) (c : After-wave_at-in-loop-k g) where
  abbrev heard : Bool → ℤ
  heard side = cond side c.wave_at.result.0 c.wave_at-in-loop-k.result.0

  hears : (side : Bool) → heard side ≡ stored_at c.loop-k.up (cond side c.joint_at-joint.result.first c.joint_at-joint.result.second)
  hears true = c.wave_at.ensures
  hears false = c.wave_at-in-loop-k.ensures

pub sends_up-sent-requires : goal.sends_up-sent-requires
sends_up-sent-requires g c =
    let at = goal.at.sends_up-sent-requires g c in
    let p = c.requires.0 in
    below p.swept (seen g at.After-joint_at-joint p.swept) (omega arith) (c.loop-k.invariant p) (hears g at.After-wave_at-in-loop-k)

pub loop-k-preserved : goal.loop-k-preserved
loop-k-preserved g c = λ p.
    let at = goal.at.loop-k-preserved g c in
    rw c.put_wave.ensures
    (climbed p.swept (seen g at.After-joint_at-joint p.swept) (c.loop-k.invariant p) (hears g at.After-wave_at-in-loop-k)
    (rw c.requires.1 at c.sends_up-sent.ensures) (omega arith))

pub returns : goal.returns
returns g c p = let done : c.loop-k.k ≡ c.args.plan.now.adaptors = omega arith in rw (← done) (c.loop-k.invariant p)
