-- A turn sends what the adaptor sends down, and at the end all have sent.
use Rattle.std.proofs.Common.{◌≡◌, ℕ, suc, ◌+◌, ◌-◌, ◌<◌, Bool, true, false, cond, ℤ, refl, w64, to_z, of_z, arith, rules}
use mir.ValLaws.{to_z-of_z}
use Rattle.circuit.specs.Record.{row_limit}
use Rattle.circuit.specs.Sample.{stored_at}
use Rattle.engine.specs.Plan.{floor, top_slot}
use Rattle.engine.specs.Sweep.{Swept, Drops}
use Rattle.engine.proofs.Turn.{Turn, turn, slot_inside}
use Rattle.engine.proofs.Fall.{Falling, falling_begun, beneath, fallen, reached}
use Rattle.engine.proofs.sweep.sweep_down.Goals as goal
use Rattle.engine.proofs.sweep.sweep_down.Goals.{After-joint_at-joint, After-wave_at-in-loop-k}

pub loop-k-init : goal.loop-k-init
loop-k-init g c = falling_begun

-- its adaptor
module _ (g : _) (c : After-joint_at-joint g) where
  abbrev slots : Bool → ℕ
  slots side = cond side c.joint_at-joint.result.first c.joint_at-joint.result.second

  abbrev own : ℕ
  own = suc floor + (c.loop-k.k - 1)

  seen : (s : Swept c.args.plan.now) → Turn s.circuit own c.joint_at-joint.result.join slots (to_z w64 (of_z w64 c.joint_at-joint.result.ratio))
  seen s = turn s (omega (arith, c.loop-k-test.true, c.loop-k.auto.k)) refl c.joint_at-joint.ensures (to_z-of_z w64 _ (search rules))

  falling : (p : Drops c.args.plan.now c.args.up.now c.args.down.now)
      → Falling p.swept.circuit p.swept.wave (stored_at c.args.down.now (top_slot p.swept.circuit)) own c.loop-k.down
  falling p = let place : own ≡ floor + c.loop-k.k = omega (arith, c.loop-k-test.true) in rw place (c.loop-k.invariant p)

  inside : (side : Bool) → slots side < row_limit
  inside = let s = c.requires.0.swept in slot_inside s (seen s)

pub wave_at-requires : goal.wave_at-requires
wave_at-requires g c = inside g (goal.at.wave_at-requires g c).After-joint_at-joint true

pub wave_at-requires-in-loop-k : goal.wave_at-requires-in-loop-k
wave_at-requires-in-loop-k g c = inside g (goal.at.wave_at-requires-in-loop-k g c).After-joint_at-joint false

pub put_wave-requires : goal.put_wave-requires
put_wave-requires g c = inside g (goal.at.put_wave-requires g c).After-joint_at-joint true

pub put_wave-requires-in-loop-k : goal.put_wave-requires-in-loop-k
put_wave-requires-in-loop-k g c = inside g (goal.at.put_wave-requires-in-loop-k g c).After-joint_at-joint false

-- the waves that reach it from below
module _ (g : _) (c : After-wave_at-in-loop-k g) where
  abbrev heard : Bool → ℤ
  heard side = cond side c.wave_at.result.0 c.wave_at-in-loop-k.result.0

  hears : (side : Bool) → heard side ≡ stored_at c.args.up.now (cond side c.joint_at-joint.result.first c.joint_at-joint.result.second)
  hears true = c.wave_at.ensures
  hears false = c.wave_at-in-loop-k.ensures

pub sends_down-b-requires : goal.sends_down-b-requires
sends_down-b-requires g c =
    let at = goal.at.sends_down-b-requires g c in
    let p = c.requires.0 in
    rw c.requires.1
    (beneath p.swept (seen g at.After-joint_at-joint p.swept) (falling g at.After-joint_at-joint p) p.risen (hears g at.After-wave_at-in-loop-k)
    c.wave_at-in-loop-k-3.ensures c.wave_at-in-loop-k-2.ensures)

-- what is sent to each side
sides : (f : Bool → ℤ) {a b : ℤ} → a ≡ f true → b ≡ f false → (side : Bool) → cond side a b ≡ f side
sides f e h true = e
sides f e h false = h

pub loop-k-preserved : goal.loop-k-preserved
loop-k-preserved g c p =
    let at = goal.at.loop-k-preserved g c in
    let b = c.sends_down-b in
    rw (c.put_wave-in-loop-k.ensures, c.put_wave.ensures)
    (fallen p.swept (seen g at.After-joint_at-joint p.swept) (falling g at.After-joint_at-joint p) p.risen (hears g at.After-wave_at-in-loop-k)
    c.wave_at-in-loop-k-3.ensures (λ side. cond side b.result.first.0 b.result.second.0) (sides _ (rw c.requires.1 at b.ensures.first) (rw c.requires.1 at b.ensures.second))
    (omega (arith, c.loop-k-test.true)))

pub returns : goal.returns
returns g c p = reached p.swept (omega (arith, c.loop-k-test.false)) (c.loop-k.invariant p)
