-- One sample over a plan: what the leaves' slots hold, what the plan has to be, and what a sample comes to.
use Rattle.std.specs.Prelude.{ℕ, ◌*◌, ◌^◌, ◌<◌, ◌≤◌, ◌≡◌, ◌⊎◌, Bool, true, false, not, ◌||◌, List, ℤ, pos, negsuc, ◌+ℤ◌, neg_ℤ, length, Result, Ok, Err}
use Rattle.whole.specs.Order.{Abs}
use Rattle.circuit.specs.Counting.{within, some}
use Rattle.circuit.specs.Numbers.{done}
use Rattle.circuit.specs.Record.{part_at, reversed_at, is_leaf, is_input, row_limit, adaptors_of}
use Rattle.circuit.specs.Curve.{wave_limit}
use Rattle.circuit.specs.SetUp.{prepared_rows, set_up_report}
use Rattle.circuit.specs.Sample.{rounding_of, rounded, raised, sampled, refused, finished, stored_at}
use Rattle.circuit.specs.Run.{sound_wave}
use Rattle.circuit.specs.declared.Prepared.{Prepared}
use Rattle.circuit.specs.declared.Record.{Record}
use Rattle.circuit.specs.declared.Refusal.{Refusal}
use Rattle.circuit.specs.declared.Refusal.TheVariants.{Sample, Overload}
use Rattle.laws.specs.Accepted.{Sized}
use Rattle.parts.specs.Parts.{turn_of}
use Rattle.engine.specs.declared.plan.Plan.{Plan}
use Rattle.engine.specs.declared.sample.Finished.{Finished}
use Rattle.engine.specs.declared.sample.Fault.{Fault}
use Rattle.engine.specs.declared.sample.Fault.TheVariants.{Loud, Over}
use Rattle.engine.specs.Wave.{way}
use Rattle.engine.specs.Curve.{Drawing}
use Rattle.engine.specs.Plan.{floor, slot_of, reactives, Staged, tap_row, meter_in, Seated}
use Rattle.engine.specs.Sweep.{Modest}

-- ---- the leaves' limits

abbrev pub over_at : List ℤ → ℕ → Bool
over_at ds s = not (within wave_limit (stored_at ds s))

-- at one of the first n slots, or at the input's
abbrev pub leaf_over : ℕ → List ℤ → Bool
leaf_over n ds = some (over_at ds) n || over_at ds floor

-- waves gathered by `|`, each with the limit added: no bit from 2^27 on
pub record Calm (all : ℤ) : Type 0 where
  pub few : (n : ℕ) × (all ≡ pos n) × (n < 2 * wave_limit)

-- ---- what changes sign

abbrev pub Turn : ℤ → Type 0
Turn t = (t ≡ pos 0) ⊎ (t ≡ negsuc 0)

-- as it is, or its opposite
abbrev pub turned_by : ℤ → ℤ → ℤ
turned_by (pos n) a = a
turned_by (negsuc n) a = neg_ℤ a

-- of a wave that has 32 bits
abbrev pub turn_limit : ℕ
turn_limit = 2 ^ 31

-- ---- what the leaves keep

-- the first q slots hold what they keep of the waves that reached them, the others what they held
pub record Restored (turns ds : List ℤ) (q : ℕ) (ups after : List ℤ) : Type 0 where
  pub long : length after ≡ length ups
  pub kept : (s : ℕ) → s < q → stored_at after s ≡ turned_by (stored_at turns s) (stored_at ds s)
  pub rest : (s : ℕ) → q ≤ s → stored_at after s ≡ stored_at ups s

pub record Restores (turns : List ℤ) (q : ℕ) (ups ds : List ℤ) : Type 0 where
  pub few : q ≤ floor
  pub long : length ups ≡ row_limit
  pub turn : (s : ℕ) → s < q → Turn (stored_at turns s)
  pub wave : (s : ℕ) → s < q → Abs (stored_at ds s) wave_limit

-- ---- the end of a sample

-- the two waves of the slot that the tap reads
pub record Port (ups ds : List ℤ) (s : ℕ) : Type 0 where
  pub inside : s < row_limit
  pub sent : Abs (stored_at ups s) wave_limit
  pub arriving : Abs (stored_at ds s) wave_limit

pub record Settles (p : Plan) (ups ds : List ℤ) : Type 0 where
  pub few : p.adaptors ≤ floor
  pub meter : Turn p.meter
  pub modest : Modest ds
  -- where no leaf is over its limit
  pub port : leaf_over p.adaptors ds ≡ false → Port ups ds p.tap
  pub restores : leaf_over p.adaptors ds ≡ false → Restores p.turns p.reactive ups ds

-- the waves are as they were, or the tap's two are put out, with the segment, and the reactive leaves' kept
unfoldable pub Settled : Plan → ℕ → List ℤ → List ℤ → Result Finished Fault → List ℤ → Type 0
Settled p segment ups ds (Err Loud) after = ⊥
Settled p segment ups ds (Err Over) after = (leaf_over p.adaptors ds ≡ true) × (after ≡ ups)
Settled p segment ups ds (Ok f) after =
    (leaf_over p.adaptors ds ≡ false) × (f.output.0 ≡ turned_by p.meter (stored_at ups p.tap +ℤ stored_at ds p.tap)) × (f.segment ≡ segment)
    × Restored p.turns ds p.reactive ups after

-- ---- what is laid out for a run, and what changes from sample to sample

-- the plan of a record
pub record Fixed (p : Plan) (r : Record) : Type 0 where
  pub seated : Seated r p.slots
  pub rounds : rounding_of r.version ≡ way p.inward
  pub adaptors : p.adaptors ≡ adaptors_of r
  pub reactive : p.reactive ≡ reactives r
  pub tap : p.tap ≡ slot_of r (tap_row r)
  pub meter : p.meter ≡ meter_in r.rows r.tap
  pub staged : Staged r p.joints
  pub turn : (j : ℕ) → j < r.count → stored_at p.turns (slot_of r j) ≡ turn_of (part_at r j) (reversed_at r j)
  pub drawn : Drawing r p.curve

-- the rows after set-up, of a record that it does not refuse
pub record Ready (r : Record) (prepared : List Prepared) : Type 0 where
  pub sized : Sized r
  pub set_up : set_up_report r ≡ done
  pub rows : prepared ≡ prepared_rows r

-- the stored waves ws pass rule 12, and every leaf but the input has in its slot what goes up from it next
pub record Loaded (r : Record) (ws ups : List ℤ) : Type 0 where
  pub size : length ws ≡ row_limit
  pub long : length ups ≡ row_limit
  pub sound : (j : ℕ) → j < row_limit → sound_wave (part_at r j) (stored_at ws j) ≡ true
  pub leaves : (j : ℕ) → j < r.count → is_leaf (part_at r j) ≡ true → is_input (part_at r j) ≡ false
      → stored_at ups (slot_of r j) ≡ raised (rounded r) r (stored_at ws) (pos 0) j

-- it is laid out for a circuit, whichever that is
pub record LaidOut (p : Plan) (ups ds : List ℤ) : Type 0 where
  pub circuit : Record
  pub stored : List ℤ
  pub fixed : Fixed p circuit
  pub loaded : Loaded circuit stored ups
  pub room : Modest ds

-- ---- what a sample comes to

-- of sample i
abbrev pub refusal_at : Fault → ℕ → Refusal
refusal_at Loud i = Sample i
refusal_at Over i = Overload i

unfoldable pub Works : Record → List ℤ → ℤ → Result Finished Fault → List ℤ → Type 0
Works r ws x (Err Loud) ups = (sampled r ws x ≡ refused 14) × Loaded r ws ups
Works r ws x (Err Over) ups = (sampled r ws x ≡ refused 15) × Loaded r ws ups
Works r ws x (Ok f) ups = (next : List ℤ) × (sampled r ws x ≡ finished f.output.0 f.segment next) × Loaded r next ups

pub record Samples (p : Plan) (ups : List ℤ) (x : ℤ) (o : Result Finished Fault) (after ds : List ℤ) : Type 0 where
  pub works : (r : Record) (ws : List ℤ) → Fixed p r → Loaded r ws ups → Works r ws x o after
  pub room : Modest ds
