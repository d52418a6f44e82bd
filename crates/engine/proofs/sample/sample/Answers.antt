-- Each way out is one of the definition's outcomes, for every circuit that the plan is laid out for; the calls ask what holds for the one that is
-- known to be there.
use Rattle.std.proofs.Common.{◌≡◌, ℕ, suc, ◌+◌, ◌<◌, ◌^◌, Bool, true, List, ℤ, set, w32, w64, to_z, of_z, FitsSigned, sym, ap, ◌∙◌, rules}
use lib.Signed.{mag}
use mir.Syntax.{Width}
use mir.ValLaws.{to_z-of_z}
use Rattle.whole.specs.Signed.{zfits, returned, wide_same}
use Rattle.circuit.specs.Counting.{within}
use Rattle.circuit.specs.Record.{source_limit}
use Rattle.circuit.specs.Curve.{wave_limit, segment}
use Rattle.circuit.specs.Sample.{stored_at}
use Rattle.circuit.specs.declared.Record.{Record}
use Rattle.engine.specs.Curve.{Reflects}
use Rattle.engine.specs.declared.plan.Plan.{Plan}
use Rattle.engine.specs.Plan.{floor}
use Rattle.engine.specs.Sweep.{Risen, Climbs, Modest, Drops, Reached}
use Rattle.engine.specs.Sample.{turned_by, Fixed, Loaded, LaidOut, Works}
use Rattle.engine.proofs.Limits.{limit_reads}
use Rattle.engine.proofs.Sampling.{Raised, Landed}
use Rattle.engine.proofs.Sampling as Sampling
use Rattle.engine.proofs.Finishing as Finishing
use Rattle.engine.proofs.sample.sample.Goals as goal
use Rattle.engine.proofs.sample.sample.Goals.{After-reflect-answer}

-- a test of a number that is read back from its bits
read_within : {w : Width} {z : ℤ} {b t : Bool} (m : ℕ) → FitsSigned w z → b ≡ within m (to_z w (of_z w z)) → b ≡ t → within m z ≡ t
read_within {w} {z} m fits told is = rw (to_z-of_z w z fits) at (sym told ∙ is)

-- what goes up from the input
enters : {a t x : ℤ} → mag a < 2 ^ 63 → FitsSigned w64 t → FitsSigned w32 x
    → a ≡ turned_by (to_z w64 (of_z w64 t)) (to_z w64 (of_z w64 (to_z w32 (of_z w32 x)))) → to_z w64 (of_z w64 a) ≡ turned_by t x
enters {a} {t} short turns fits told = returned a short ∙ rw (to_z-of_z w64 t turns, wide_same fits) at told

risen : {p : Plan} {ups ds : List ℤ} (k : LaidOut p ups ds) {x t : ℤ} {above : List ℤ} → within source_limit x ≡ true
    → t ≡ turned_by (stored_at p.turns floor) x
    → ((s : Climbs p (set ups floor t)) → Risen s.swept.circuit s.swept.wave (suc floor + p.adaptors) above)
    → Raised k x above
risen k {x} quiet e up = record { source = quiet; up = rw e at up (Sampling.climbs k x quiet) }

-- where the plan is of a circuit, and its waves are loaded
abbrev known : {p : Plan} {r : Record} {ws ups ds : List ℤ} → Fixed p r → Loaded r ws ups → Modest ds → LaidOut p ups ds
known {r = r} {ws = ws} fixed loaded room = record { circuit = r; stored = ws; fixed = fixed; loaded = loaded; room = room }

-- ---- up

pub returns-then-not-in_source_limit : goal.returns-then-not-in_source_limit
unfolding Works
returns-then-not-in_source_limit c =
    let loud = read_within source_limit c.ranges.x c.in_source_limit.ensures c.if-not-in_source_limit.true in
    record { works = λ r ws f l. (Sampling.refuses_loud r ws c.args.x loud, l); room = c.requires.room }

pub turned-requires : goal.turned-requires
turned-requires c =
    let fixed = c.requires.fixed in
    let reads : FitsSigned w64 (stored_at c.args.plan.now.turns floor) = search rules in
    rw (to_z-of_z w64 _ reads, wide_same c.ranges.x)
    (Sampling.slot_turn fixed floor fixed.seated.slotted.source, (let x = c.ranges.x in omega zfits))

pub swept_up-requires : goal.swept_up-requires
swept_up-requires c =
    let quiet = read_within source_limit c.ranges.x c.in_source_limit.ensures c.if-not-in_source_limit.false in
    let turns : FitsSigned w64 (stored_at c.args.plan.now.turns floor) = search rules in
    rw (enters c.turned.type_inv turns c.ranges.x c.turned.ensures) (Sampling.climbs c.requires c.args.x quiet)

pub returns-then-not-in_limit : goal.returns-then-not-in_limit
unfolding Works
returns-then-not-in_limit c =
    let quiet = read_within source_limit c.ranges.x c.in_source_limit.ensures c.if-not-in_source_limit.false in
    let reads : FitsSigned w64 (stored_at c.swept_up.new.up (floor + c.args.plan.now.adaptors)) = search rules in
    let over = read_within wave_limit reads c.in_limit.ensures c.if-not-in_limit.true in
    let turns : FitsSigned w64 (stored_at c.args.plan.now.turns floor) = search rules in
    let e = enters c.turned.type_inv turns c.ranges.x c.turned.ensures in
    record {
      works = λ r ws f l.
          let k = known f l c.requires.room in
          let h = risen k quiet e c.swept_up.ensures in
          (Sampling.refuses_top k _ h over, Sampling.still k _ h);
      room = c.requires.room;
    }

-- ---- the diode

module _ (c : After-reflect-answer) where
  abbrev plan : Plan
  plan = c.args.plan.now

  -- a circuit and its waves
  abbrev Laid : Type 0
  Laid = LaidOut plan c.args.up.now c.args.down.now

  abbrev above : List ℤ
  above = c.swept_up.new.up

  -- the top's slot, the wave that goes up from it, and the answer
  abbrev top : ℕ
  top = floor + plan.adaptors

  abbrev wave : ℤ
  wave = stored_at above top

  abbrev answer : ℤ
  answer = c.reflect-answer.result.wave.0

  raised : (k : Laid) → Raised k c.args.x above
  raised k =
      let quiet = read_within source_limit c.ranges.x c.in_source_limit.ensures c.if-not-in_source_limit.false in
      let turns : FitsSigned w64 (stored_at plan.turns floor) = search rules in
      risen k quiet (enters c.turned.type_inv turns c.ranges.x c.turned.ensures) c.swept_up.ensures

  calm : within wave_limit wave ≡ true
  calm =
      let reads : FitsSigned w64 wave = search rules in
      read_within wave_limit reads c.in_limit.ensures c.if-not-in_limit.false

  answered : (k : Laid) → Reflects k.circuit wave c.reflect-answer.result
  answered k =
      let reads : FitsSigned w64 wave = search rules in
      rw (to_z-of_z w64 _ reads) at c.reflect-answer.ensures k.circuit k.fixed.drawn

  -- it is no larger than the wave
  answer_reads : to_z w64 (of_z w64 answer) ≡ answer
  answer_reads = let k = c.requires in limit_reads (Sampling.answer_range k _ (raised k) calm (answered k).wave)

  -- ---- down

  abbrev drops : (k : Laid) → Drops plan above (set c.args.down.now top answer)
  drops k = Sampling.drops k _ (raised k) calm (answered k).wave

  landed : {below : List ℤ}
      → ((s : Drops plan above (set c.args.down.now top (to_z w64 (of_z w64 answer))))
      → Reached s.swept.circuit s.swept.wave (set c.args.down.now top (to_z w64 (of_z w64 answer))) below)
      → (k : Laid) → Landed plan k.circuit k.stored c.args.x above below
  landed down k = Sampling.landed k _ (raised k) calm (answered k).wave ((rw answer_reads at down) (drops k))

pub swept_down-requires : goal.swept_down-requires
swept_down-requires c = let at = (goal.at.swept_down-requires c).After-reflect-answer in rw (answer_reads at) (drops at c.requires)

pub settle-requires : goal.settle-requires
settle-requires c = Finishing.settles (landed (goal.at.settle-requires c).After-reflect-answer c.swept_down.ensures c.requires)

pub returns : goal.returns
returns c =
    let at = (goal.at.returns c).After-reflect-answer in
    record {
      works = λ r ws f l.
          let k = known f l c.requires.room in
          let risen = Sampling.top_wave k _ (raised at k) in
          Finishing.works (landed at c.swept_down.ensures k) ((answered at k).segment ∙ ap (segment r) risen) c.settle.result _ c.settle.ensures;
      room = (landed at c.swept_down.ensures c.requires).modest;
    }
