-- The sweeps over lists of waves, one for each slot: what they find and what they leave, for every circuit that is laid out so.
use Rattle.std.specs.Prelude.{ℕ, suc, ◌+◌, ◌<◌, ◌≡◌, true, List, ℤ, length}
use Rattle.whole.specs.Order.{Abs}
use Rattle.circuit.specs.Record.{row_limit, part_at, is_leaf, adaptors_of, tree_at, tree_of}
use Rattle.circuit.specs.SetUp.{ratio_at}
use Rattle.circuit.specs.Curve.{wave_limit}
use Rattle.circuit.specs.Sample.{rounding_of, rounded, up, reach, stored_at}
use Rattle.circuit.specs.declared.Record.{Record}
use Rattle.laws.specs.Accepted.{adaptor_limit, Accepted}
use Rattle.engine.specs.Wave.{down_limit, way}
use Rattle.engine.specs.Plan.{floor, slot_of, top_slot, Slotted, Staged}
use Rattle.engine.specs.declared.plan.Plan.{Plan}

-- what row j's tree sends up, where w j is what a leaf at row j sends
abbrev pub rises : Record → (ℕ → ℤ) → ℕ → ℤ
rises r w j = up (rounded r) (ratio_at r) w (tree_at r j)

-- every row whose slot is below s has its wave there
pub record Risen (r : Record) (w : ℕ → ℤ) (s : ℕ) (us : List ℤ) : Type 0 where
  pub long : length us ≡ row_limit
  pub right : (j : ℕ) → j < r.count → slot_of r j < s → stored_at us (slot_of r j) ≡ rises r w j

-- a circuit whose adaptors stand so and round so, and the waves that its leaves send
pub record Swept (p : Plan) : Type 0 where
  pub circuit : Record
  pub wave : ℕ → ℤ
  pub accepted : Accepted circuit
  pub slotted : Slotted circuit
  pub all : p.adaptors ≡ adaptors_of circuit
  pub staged : Staged circuit p.joints
  pub rounds : rounding_of circuit.version ≡ way p.inward
  pub quiet : (j : ℕ) → Abs (wave j) wave_limit

-- the leaves' waves stand in their slots
pub record Climbs (p : Plan) (ups : List ℤ) : Type 0 where
  pub swept : Swept p
  pub begun : Risen swept.circuit swept.wave (suc floor) ups

-- waves that arrive, in slots that are in use and in those that are not
pub record Modest (ds : List ℤ) : Type 0 where
  pub long : length ds ≡ row_limit
  pub small : (s : ℕ) → Abs (stored_at ds s) (down_limit adaptor_limit)

-- all waves are up, and a wave comes from above
pub record Drops (p : Plan) (ups ds : List ℤ) : Type 0 where
  pub swept : Swept p
  pub risen : Risen swept.circuit swept.wave (suc floor + p.adaptors) ups
  pub modest : Modest ds
  pub answer : Abs (stored_at ds (floor + p.adaptors)) wave_limit

-- the top keeps its wave, and every leaf has the wave that reaches it
pub record Reached (r : Record) (w : ℕ → ℤ) (before ds : List ℤ) : Type 0 where
  pub modest : Modest ds
  pub above : stored_at ds (top_slot r) ≡ stored_at before (top_slot r)
  pub leaves : (j : ℕ) → is_leaf (part_at r j) ≡ true
      → stored_at ds (slot_of r j) ≡ reach (rounded r) (ratio_at r) w (tree_of r) (stored_at before (top_slot r)) j
