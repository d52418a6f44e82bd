-- A turn of a sweep: the adaptor that it comes to, as the code reads it, and that adaptor's children. They go by their side: true is the first.
use Prim.Native.Nat.{ℕ, suc, ◌+◌, ◌<◌, ◌≤◌}
use native.Mathlib.Decide.{ℕ_discrete}
use native.Mathlib.Omega.{arith}
use mathlib.Core.Path.{◌≡◌, refl, sym, ap, ◌∙◌}
use mathlib.Core.Bool.{Bool, true, false, cond}
use mathlib.Core.Logic.{inl, inr}
use mathlib.Core.List.{List}
use lib.ListN.{set, length-set}
use lib.Seq.{get_or-set_same, get_or-set_other}
use lib.IntN.{ℤ, pos, nat_abs}
use Rattle.whole.specs.Order.{Abs, abs_as}
use Rattle.circuit.specs.Record.{row_limit, part_at, tree_at}
use Rattle.circuit.specs.SetUp.{ratio_at}
use Rattle.circuit.specs.Sample.{whole_waves, rounded, sends_up, stored_at}
use Rattle.circuit.specs.declared.Join.{Join}
use Rattle.circuit.specs.declared.Adaptor.{Adaptor as Joined}
use Rattle.circuit.specs.declared.Part.{Part}
use Rattle.circuit.specs.declared.Part.TheVariants.{Blank, Leaf, Adaptor}
use Rattle.circuit.specs.declared.Record.{Record}
use Rattle.laws.specs.Accepted.{adaptor_limit, adaptors, Child, Lower, Apart}
use Rattle.laws.proofs.Formed.{child_lower}
use Rattle.laws.proofs.Trees.{tree_adaptor, up_adaptor}
use Rattle.engine.specs.Wave.{up_limit, way, Below}
use Rattle.parts.specs.Parts.{role_of}
use Rattle.engine.specs.declared.plan.Joint.{Joint}
use Rattle.engine.specs.declared.plan.Plan.{Plan}
use Rattle.engine.specs.Plan.{floor, slot_of, top_slot, joint_in, Slotted}
use Rattle.engine.specs.Sweep.{rises, Risen, Swept}
use Rattle.engine.proofs.Range.{tree_range}

-- ---- children

abbrev pub child_of : Joined → Bool → ℕ
child_of a side = cond side a.first a.second

pub child_there : {p : Part} {a : Joined} → p ≡ Adaptor a → (side : Bool) → Child p (child_of a side)
unfolding Child
child_there e true = rw e (inl refl)
child_there e false = rw e (inr refl)

pub child_under : (j : ℕ) {p : Part} {a : Joined} → Lower j p → p ≡ Adaptor a → (side : Bool) → child_of a side < j
child_under j {p} {a} lower e side = child_lower j p (child_of a side) lower (child_there e side)

-- what has a child is an adaptor
pub parent_is : (p : Part) (c : ℕ) → Child p c → (a : Joined) × (side : Bool) × (p ≡ Adaptor a) × (c ≡ child_of a side)
unfolding Child
parent_is Blank c h = absurd h
parent_is (Leaf x) c h = absurd h
parent_is (Adaptor a) c (inl e) = (a, true, refl, e)
parent_is (Adaptor a) c (inr e) = (a, false, refl, e)

-- ---- an adaptor of a circuit that is swept

pub same_row : {r : Record} → Slotted r → (i j : ℕ) → i < r.count → j < r.count → slot_of r i ≡ slot_of r j → i ≡ j
same_row slotted i j l m e = sym (slotted.back i l) ∙ ap slotted.row e ∙ slotted.back j m

pub adaptor_slot : {r : Record} → Slotted r → (p : ℕ) {a : Joined} → p < r.count → part_at r p ≡ Adaptor a
    → (floor < slot_of r p) × (slot_of r p ≤ top_slot r)
unfolding role_of
adaptor_slot slotted p l e = slotted.adaptor p l (ap role_of e)

-- `own` is the adaptor's slot, `slots` are its children's
pub record Turn (r : Record) (own : ℕ) (j : Join) (slots : Bool → ℕ) (g : ℤ) : Type 0 where
  pub row : ℕ
  pub adaptor : Joined
  pub inside : row < r.count
  pub part : part_at r row ≡ Adaptor adaptor
  pub place : slot_of r row ≡ own
  pub join : j ≡ adaptor.join
  pub child : (side : Bool) → slots side ≡ slot_of r (child_of adaptor side)
  pub ratio : g ≡ pos (ratio_at r row)

module _ {plan : Plan} (s : Swept plan) where
  open s use {circuit as r, wave as w, accepted, slotted, all, staged, rounds, quiet}

  pub turn : {k own : ℕ} → k < plan.adaptors → own ≡ suc floor + k → {t : Joint} → t ≡ joint_in plan.joints k → {g : ℤ} → g ≡ t.ratio
      → Turn r own t.join (λ side. cond side t.first t.second) g
  turn {k} l o {t} e weight =
      let at = staged k (omega (arith, all)) in
      record {
        row = at.row;
        adaptor = at.adaptor;
        inside = at.inside;
        part = at.part;
        place = at.place ∙ sym o;
        join = ap (λ j. j.join) e ∙ at.join;
        child = λ side. elim side as (λ k. cond k t.first t.second ≡ slot_of r (child_of at.adaptor k)) [
          | true ↦ ap (λ j. j.first) e ∙ at.first
          | false ↦ ap (λ j. j.second) e ∙ at.second
        ];
        ratio = weight ∙ ap (λ j. j.ratio) e ∙ at.ratio;
      }

  module _ {own : ℕ} {j : Join} {slots : Bool → ℕ} {g : ℤ} (t : Turn r own j slots g) where
    open t use {row, adaptor, inside, part, place, join, child, ratio}

    pub child_inside : (side : Bool) → child_of adaptor side < r.count
    child_inside side = omega (arith, inside, child_under row (accepted.lower row) part side)

    pub own_slot : (floor < own) × (own ≤ top_slot r)
    own_slot = rw (← place) (adaptor_slot slotted row inside part)

    pub child_slot : (side : Bool) → slots side < own
    child_slot side = rw (child side, ← place) (slotted.above row (child_of adaptor side) (child_there part side))

    pub slots_apart : slots true ≡ slots false → ⊥
    unfolding Apart
    slots_apart e =
        (rw part at (accepted.apart row)) (same_row slotted _ _ (child_inside true) (child_inside false) (sym (child true) ∙ e ∙ child false))

    pub slot_inside : (side : Bool) → slots side < row_limit
    slot_inside side = omega (arith, child_slot side, own_slot, slotted.few)

    -- ---- what it reads and sends, once all rows with lower slots have their waves

    pub rises_range : (i : ℕ) → Abs (rises r w i) (up_limit (adaptors (tree_at r i)))
    rises_range i = (tree_range (plan.inward, rounds) (ratio_at r) w accepted.ratio quiet (tree_at r i))

    -- no row's tree has more adaptors than a circuit can have, and those of its two children together have one less
    pub few : (i : ℕ) → i < r.count → adaptors (tree_at r i) ≤ adaptor_limit
    few i l = omega (arith, accepted.partly i l, slotted.few)

    pub both_few : adaptors (tree_at r adaptor.first) + adaptors (tree_at r adaptor.second) < adaptor_limit
    unfolding adaptors
    both_few = let own = ap adaptors (tree_adaptor r accepted.lower row adaptor part) in omega (arith, few row inside)

    -- `heard` are its children's waves
    module _ {m : ℕ} (enough : own ≤ m) {us : List ℤ} (risen : Risen r w m us)
        {heard : Bool → ℤ} (hears : (side : Bool) → heard side ≡ stored_at us (slots side)) where
      pub wave_right : (side : Bool) → heard side ≡ rises r w (child_of adaptor side)
      wave_right side =
          let c = child_of adaptor side in
          hears side ∙ ap (stored_at us) (child side) ∙ risen.right c (child_inside side) (omega (arith, child_slot side, child side))

      pub sends_right : sends_up (whole_waves (way plan.inward)) j (nat_abs g) (heard true) (heard false) ≡ rises r w row
      sends_right =
          rw (wave_right true, wave_right false, join, ratio, ← rounds) (sym (up_adaptor r accepted.lower row adaptor part (rounded r) (ratio_at r) w))

      pub below : Below g (heard true) (heard false)
      below = record {
        ratio = rw ratio (record { whole = refl; part = accepted.ratio row });
        first = rw (wave_right true) (abs_as (rises_range adaptor.first) refl (omega (arith, both_few)));
        second = rw (wave_right false) (abs_as (rises_range adaptor.second) refl (omega (arith, both_few)));
      }

    -- ---- the turn of the sweep up

    pub climbed : {us : List ℤ} → Risen r w own us → {heard : Bool → ℤ} → ((side : Bool) → heard side ≡ stored_at us (slots side))
        → {u : ℤ} → u ≡ sends_up (whole_waves (way plan.inward)) j (nat_abs g) (heard true) (heard false) → {m : ℕ} → m ≤ suc own → Risen r w m (set us own u)
    climbed {us} risen hears {u} e more =
        let sent = e ∙ sends_right (omega arith) risen hears in
        record {
          long = length-set us own u ∙ risen.long;
          right = λ i l h. elim (ℕ_discrete (slot_of r i) own) [
            | yes here ↦ rw here (get_or-set_same us own u (pos 0) (omega (arith, risen.long, own_slot, slotted.few)) ∙ sent
                ∙ ap (rises r w) (same_row slotted row i inside l (place ∙ sym here)))
            | no other ↦ get_or-set_other us own (slot_of r i) u (pos 0) other ∙ risen.right i l (omega arith)
          ];
        }
