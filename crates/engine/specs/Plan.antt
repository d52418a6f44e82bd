-- What a run lays out of a record before its first sample: a slot for each row, and in the order of the slots what a sample reads.
use Rattle.std.specs.Prelude.{ℕ, zero, suc, ◌+◌, ◌-◌, ◌<◌, ◌≤◌, ◌≡◌, cond, List, eqb, ℤ, pos, get_or}
use Rattle.circuit.specs.Counting.{total, one}
use Rattle.circuit.specs.Record.{top, row_in, part_at, adaptors_of}
use Rattle.circuit.specs.SetUp.{nothing, ratio_at}
use Rattle.circuit.specs.declared.Join.TheVariants.{Parallel}
use Rattle.circuit.specs.declared.Adaptor.{Adaptor as Joined}
use Rattle.circuit.specs.declared.Part.TheVariants.{Adaptor}
use Rattle.circuit.specs.declared.Prepared.{Prepared}
use Rattle.circuit.specs.declared.Row.{Row}
use Rattle.circuit.specs.declared.Record.{Record}
use Rattle.laws.specs.Accepted.{adaptor_limit, Child, Accepted}
use Rattle.parts.specs.Parts.{role_of, facing_of}
use Rattle.engine.specs.declared.plan.Joint.{Joint}

-- ---- slots

-- the input's slot: the slots of the other leaves are below it, those of the adaptors above it
abbrev pub floor : ℕ
floor = adaptor_limit

-- how many of the first n rows have a role
unfoldable pub rank : List Row → ℕ → ℕ → ℕ
rank rows role n = total (λ j. one (eqb (role_of (row_in rows j).part) role)) n

-- the first slot of a role, where so many rows are in use
unfoldable pub base : List Row → ℕ → ℕ → ℕ
base rows count zero = 0
base rows count (suc zero) = rank rows 0 count
base rows count (suc (suc zero)) = floor
base rows count (suc (suc (suc role))) = suc floor

-- the rows of a role have the slots from there on, in their order
unfoldable pub slot_in : List Row → ℕ → ℕ → ℕ
slot_in rows count j = base rows count (role_of (row_in rows j).part) + rank rows (role_of (row_in rows j).part) j

abbrev pub slot_of : Record → ℕ → ℕ
slot_of r = slot_in r.rows r.count

-- the slot of the top
abbrev pub top_slot : Record → ℕ
top_slot r = floor + adaptors_of r

-- how many reactive leaves there are
abbrev pub reactives : Record → ℕ
reactives r = rank r.rows 0 r.count

-- Where the rows of an accepted circuit stand: `row` leads back from a slot, so that two rows have two slots.
pub record Slotted (r : Record) : Type 0 where
  pub row : ℕ → ℕ
  pub back : (j : ℕ) → j < r.count → row (slot_of r j) ≡ j
  pub few : adaptors_of r ≤ adaptor_limit
  pub fewer : reactives r ≤ adaptors_of r
  -- a reactive leaf, another, the input, an adaptor
  pub reactive : (j : ℕ) → j < r.count → role_of (part_at r j) ≡ 0 → slot_of r j < reactives r
  pub other : (j : ℕ) → j < r.count → role_of (part_at r j) ≡ 1 → (reactives r ≤ slot_of r j) × (slot_of r j < adaptors_of r)
  pub input : (j : ℕ) → j < r.count → role_of (part_at r j) ≡ 2 → slot_of r j ≡ floor
  pub adaptor : (j : ℕ) → j < r.count → role_of (part_at r j) ≡ 3 → (floor < slot_of r j) × (slot_of r j ≤ top_slot r)
  -- a leaf stands in every slot below the number of adaptors, and the input at the floor
  pub leaf : (s : ℕ) → s < adaptors_of r → (row s < r.count) × (slot_of r (row s) ≡ s)
  pub source : (row floor < r.count) × (slot_of r (row floor) ≡ floor)
  pub above : (p c : ℕ) → Child (part_at r p) c → slot_of r c < slot_of r p
  pub last : slot_of r (r.count - 1) ≡ top_slot r

-- ---- adaptors, by their places k in the sweep

-- past the last one, one that is never read
abbrev pub no_joint : Joint
no_joint = record { join = Parallel; first = 0; second = 0; ratio = pos 0 }

abbrev pub joint_in : List Joint → ℕ → Joint
joint_in joints k = get_or joints k no_joint

-- what stands at k is of the adaptor with slot floor + 1 + k
pub record Stage (r : Record) (js : List Joint) (k : ℕ) : Type 0 where
  pub row : ℕ
  pub adaptor : Joined
  pub inside : row < r.count
  pub part : part_at r row ≡ Adaptor adaptor
  pub place : slot_of r row ≡ suc floor + k
  pub join : (joint_in js k).join ≡ adaptor.join
  pub first : (joint_in js k).first ≡ slot_of r adaptor.first
  pub second : (joint_in js k).second ≡ slot_of r adaptor.second
  pub ratio : (joint_in js k).ratio ≡ pos (ratio_at r row)

abbrev pub Staged : Record → List Joint → Type 0
Staged r js = (k : ℕ) → k < adaptors_of r → Stage r js k

-- ---- the tap

-- its row; at the top the two waves are the top's and the diode's
abbrev pub tap_row : Record → ℕ
tap_row r = cond (eqb r.tap top) (r.count - 1) r.tap

-- what its two waves are turned by
abbrev pub meter_in : List Row → ℕ → ℤ
meter_in rows tap = cond (eqb tap top) (pos 0) (facing_of (row_in rows tap).reversed)

-- ---- what the plan is laid out from

-- an accepted circuit whose rows stand in these slots
pub record Seated (r : Record) (slots : List ℕ) : Type 0 where
  pub accepted : Accepted r
  pub slotted : Slotted r
  pub slot : (j : ℕ) → j < r.count → get_or slots j 0 ≡ slot_of r j

-- and its rows after set-up
pub record Layable (r : Record) (prepared : List Prepared) (slots : List ℕ) : Type 0 where
  pub seated : Seated r slots
  pub ratio : (j : ℕ) → j < r.count → (get_or prepared j nothing).ratio ≡ ratio_at r j
