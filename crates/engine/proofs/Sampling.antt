-- One sample up to the limits of its leaves, for every circuit that a plan is laid out for: what the leaves send, what each sweep asks, and what both
-- leave.
use Prim.Native.Nat.{ℕ, suc, ◌+◌, ◌-◌, ◌<◌, ◌≤◌}
use native.Mathlib.Decide.{dec_lt}
use native.Mathlib.Omega.{arith}
use mathlib.Core.Path.{◌≡◌, refl, sym, ap, ◌∙◌, subst}
use mathlib.Core.Bool.{true, false, cond, true≢false, and-eq-true_iff}
use mathlib.Core.Logic.{◌⊎◌, inl, inr}
use mathlib.Core.List.{List}
use lib.ListN.{set, length-set}
use lib.Seq.{get_or-set_same, get_or-set_other}
use lib.IntN.{ℤ, pos}
use lib.Ieee.Bits.{is_true}
use lib.Ieee.Positive.{positive}
use Rattle.whole.specs.Order.{zarith, Abs, abs_as}
use Rattle.circuit.specs.Counting.{within}
use Rattle.circuit.specs.Record.{part_at, reversed_at, is_blank, is_leaf, is_input, sound_part, source_limit, tree_of, last_row}
use Rattle.circuit.specs.SetUp.{ratio_at}
use Rattle.circuit.specs.Curve.{wave_limit, reflected}
use Rattle.circuit.specs.Sample.{Rounding, whole_waves, rounding_of, rounded, sends, part_sends, turned, sent, raised, risen, reach, reached, in_limit, sampled, refused, stored_at}
use Rattle.circuit.specs.Run.{sound_wave}
use Rattle.circuit.specs.declared.Element.{Element}
use Rattle.circuit.specs.declared.Element.TheVariants.{Resistor, Capacitor, Inductor, Input, Steady}
use Rattle.circuit.specs.declared.Part.{Part}
use Rattle.circuit.specs.declared.Part.TheVariants.{Blank, Leaf, Adaptor}
use Rattle.circuit.specs.declared.Record.{Record}
use Rattle.laws.proofs.Drawn.{answer_never_exceeds}
use Rattle.laws.proofs.Trees as Trees
use Rattle.parts.specs.Parts.{role_of}
use Rattle.engine.specs.declared.plan.Plan.{Plan}
use Rattle.engine.specs.Plan.{floor, slot_of, top_slot}
use Rattle.engine.specs.Sweep.{rises, Risen, Swept, Climbs, Modest, Drops, Reached}
use Rattle.engine.specs.Sample.{Turn, turned_by, Fixed, Loaded, LaidOut}
use Rattle.engine.proofs.Facing.{part_turn, turned_range, input_turned}
use Rattle.engine.proofs.Limits.{within_abs}
use Rattle.engine.proofs.Turn.{adaptor_slot}
use Rattle.engine.proofs.Fall.{modest_set}

-- ---- the leaves' slots

pub leaf_of : (p : Part) → is_leaf p ≡ true → (y : Element) × (p ≡ Leaf y)
leaf_of Blank e = absurd (true≢false (sym e))
leaf_of (Leaf y) e = (y, refl)
leaf_of (Adaptor a) e = absurd (true≢false (sym e))

-- one of the first n, or the input's
abbrev pub LeafSlot : ℕ → ℕ → Type 0
LeafSlot n s = (s < n) ⊎ (s ≡ floor)

module _ {p : Plan} {r : Record} (fixed : Fixed p r) where
  abbrev n : ℕ
  n = p.adaptors

  -- a leaf's row is in use
  pub leaf_inside : (j : ℕ) → is_leaf (part_at r j) ≡ true → j < r.count
  leaf_inside j e = elim (dec_lt j r.count) [ yes l ↦ l | no l ↦ absurd (true≢false (sym e ∙ ap is_leaf (fixed.seated.accepted.blank j (omega arith)))) ]

  -- a row in use is a leaf's where its slot is not above the floor
  low_leaf : (j : ℕ) → j < r.count → slot_of r j ≤ floor → is_leaf (part_at r j) ≡ true
  low_leaf j l h = by (part_at r j) refl
    where
      by : (p : Part) → part_at r j ≡ p → is_leaf p ≡ true
      by Blank e = absurd (true≢false (sym (ap is_blank e) ∙ fixed.seated.accepted.present j l))
      by (Leaf y) e = refl
      by (Adaptor a) e = absurd (omega (arith, adaptor_slot fixed.seated.slotted j l e))

  -- only the input stands at the floor
  stands : (j : ℕ) → j < r.count → (y : Element) → part_at r j ≡ Leaf y
      → ((slot_of r j < n) × (is_input (Leaf y) ≡ false)) ⊎ ((slot_of r j ≡ floor) × (is_input (Leaf y) ≡ true))
  unfolding role_of
  stands j l (Resistor v) e = inl (omega (arith, fixed.seated.slotted.other j l (ap role_of e)), refl)
  stands j l (Capacitor v) e = inl (omega (arith, fixed.seated.slotted.reactive j l (ap role_of e)), refl)
  stands j l (Inductor v) e = inl (omega (arith, fixed.seated.slotted.reactive j l (ap role_of e)), refl)
  stands j l (Input v) e = inr (fixed.seated.slotted.input j l (ap role_of e), refl)
  stands j l (Steady v m) e = inl (omega (arith, fixed.seated.slotted.other j l (ap role_of e)), refl)

  pub leaf_slot : (j : ℕ) → is_leaf (part_at r j) ≡ true → LeafSlot n (slot_of r j)
  leaf_slot j e =
      let y = leaf_of (part_at r j) e in
      elim (stands j (leaf_inside j e) y.0 y.1) [ inl h ↦ inl h.0 | inr h ↦ inr h.0 ]

  pub slot_low : {s : ℕ} → LeafSlot n s → s ≤ floor
  slot_low (inl l) = omega arith
  slot_low (inr e) = omega arith

  there : (s : ℕ) → LeafSlot n s → (fixed.seated.slotted.row s < r.count) × (slot_of r (fixed.seated.slotted.row s) ≡ s)
  there s (inl l) = fixed.seated.slotted.leaf s (omega arith)
  there s (inr e) = rw e fixed.seated.slotted.source

  pub slot_leaf : (s : ℕ) → LeafSlot n s → (j : ℕ) × (j < r.count) × (is_leaf (part_at r j) ≡ true) × (slot_of r j ≡ s)
  slot_leaf s k =
      let t = there s k in
      let low = slot_low k in
      (fixed.seated.slotted.row s, t.0, low_leaf (fixed.seated.slotted.row s) t.0 (omega (arith, t.1)), t.1)

  -- what a leaf's slot is turned by
  pub slot_turn : (s : ℕ) → (fixed.seated.slotted.row s < r.count) × (slot_of r (fixed.seated.slotted.row s) ≡ s) → Turn (stored_at p.turns s)
  slot_turn s t =
      let j = fixed.seated.slotted.row s in
      subst (λ (i : ℕ). Turn (stored_at p.turns i)) t.1 (rw (fixed.turn j t.0) (part_turn (part_at r j) (reversed_at r j)))

-- ---- what one leaf sends

none : Abs (pos 0) wave_limit
none = omega zarith

source_quiet : {z : ℤ} → within source_limit z ≡ true → Abs z wave_limit
source_quiet {z} e = abs_as (within_abs source_limit z e) refl (omega arith)

module _ (ρ : Rounding) (x s : ℤ) where
  -- an input sends the sample, any other part the same with every sample
  sends_either : (p : Part) → part_sends (whole_waves ρ) x s p ≡ cond (is_input p) x (part_sends (whole_waves ρ) (pos 0) s p)
  unfolding sends
  sends_either Blank = refl
  sends_either (Leaf (Resistor v)) = refl
  sends_either (Leaf (Capacitor v)) = refl
  sends_either (Leaf (Inductor v)) = refl
  sends_either (Leaf (Input v)) = refl
  sends_either (Leaf (Steady v m)) = refl
  sends_either (Adaptor a) = refl

  part_quiet : (p : Part) → within source_limit x ≡ true → sound_wave p s ≡ true → sound_part p ≡ true → Abs (part_sends (whole_waves ρ) x s p) wave_limit
  unfolding sends
  part_quiet Blank h k l = none
  part_quiet (Leaf (Resistor v)) h k l = none
  part_quiet (Leaf (Capacitor v)) h k l = within_abs wave_limit s k
  part_quiet (Leaf (Inductor v)) h k l = within_abs wave_limit s k
  part_quiet (Leaf (Input v)) h k l = source_quiet h
  part_quiet (Leaf (Steady v m)) h k l = source_quiet ((and-eq-true_iff (positive v) (within source_limit m)).0 l).1
  part_quiet (Adaptor a) h k l = none

-- ---- the sweeps

-- what both leave, where the top's wave is in its limit
pub record Landed (p : Plan) (r : Record) (ws : List ℤ) (x : ℤ) (above below : List ℤ) : Type 0 where
  pub fixed : Fixed p r
  pub source : within source_limit x ≡ true
  pub calm : within wave_limit (risen (rounded r) r (stored_at ws) x) ≡ true
  pub quiet : (j : ℕ) → Abs (raised (rounded r) r (stored_at ws) x j) wave_limit
  pub still : Loaded r ws above
  pub sends : (j : ℕ) → is_leaf (part_at r j) ≡ true → stored_at above (slot_of r j) ≡ raised (rounded r) r (stored_at ws) x j
  pub rises : stored_at above (top_slot r) ≡ risen (rounded r) r (stored_at ws) x
  pub comes : (j : ℕ) → is_leaf (part_at r j) ≡ true → stored_at below (slot_of r j) ≡ reached (rounded r) (reflected r) r (stored_at ws) x j
  pub returns : stored_at below (top_slot r) ≡ reflected r (risen (rounded r) r (stored_at ws) x)
  pub answer : Abs (stored_at below (top_slot r)) wave_limit
  pub modest : Modest below

pub refuses_loud : (r : Record) (ws : List ℤ) (x : ℤ) → within source_limit x ≡ false → sampled r ws x ≡ refused 14
unfolding sampled
refuses_loud r ws x e = rw e

module _ {p : Plan} {ups ds : List ℤ} (k : LaidOut p ups ds) (x : ℤ) where
  abbrev r : Record
  r = k.circuit

  -- what goes up from row j with the sample
  abbrev pub sends_at : ℕ → ℤ
  sends_at = raised (rounded r) r (stored_at k.stored) x

  -- what goes up from the input
  abbrev pub entered : ℤ
  entered = turned_by (stored_at p.turns floor) x

  leaf_rises : (j : ℕ) → is_leaf (part_at r j) ≡ true → rises r sends_at j ≡ sends_at j
  leaf_rises j e =
      let y = leaf_of (part_at r j) e in
      Trees.up_leaf r k.fixed.seated.accepted.lower j (Trees.tree_leaf r k.fixed.seated.accepted.lower j y.0 y.1) (rounded r) (ratio_at r) sends_at

  -- in the input's row
  enters : (j : ℕ) → j < r.count → slot_of r j ≡ floor → is_input (part_at r j) ≡ true → entered ≡ turned (rounded r) (reversed_at r j) x
  enters j l e is =
      ap (λ s. turned_by (stored_at p.turns s) x) (sym e) ∙ ap (λ t. turned_by t x) (k.fixed.turn j l)
      ∙ input_turned (rounding_of r.version) (part_at r j) (reversed_at r j) x is

  -- with the sample at the floor every leaf has in its slot what goes up from it
  all_sent : (j : ℕ) → j < r.count → is_leaf (part_at r j) ≡ true → stored_at (set ups floor entered) (slot_of r j) ≡ sends_at j
  unfolding raised sent
  all_sent j l e =
      let y = leaf_of (part_at r j) e in
      rw (sends_either (rounding_of r.version) x (stored_at k.stored j) (part_at r j))
      (elim (stands k.fixed j l y.0 y.1) [
        | inl h ↦
            let other = ap is_input y.1 ∙ h.1 in
            let apart : slot_of r j ≡ floor → ⊥ = λ q. omega (arith, h.0) in
            rw other (get_or-set_other ups floor (slot_of r j) entered (pos 0) apart ∙ k.loaded.leaves j l e other)
        | inr h ↦
            let is = ap is_input y.1 ∙ h.1 in
            rw (h.0, is) (get_or-set_same ups floor entered (pos 0) (omega (arith, k.loaded.long)) ∙ enters j l h.0 is)
      ])

  pub begun : Risen r sends_at (suc floor) (set ups floor entered)
  begun = record {
    long = length-set ups floor entered ∙ k.loaded.long;
    right = λ j l h. let e = low_leaf k.fixed j l (omega arith) in all_sent j l e ∙ sym (leaf_rises j e);
  }

  module _ (source : within source_limit x ≡ true) where
    pub quiet : (j : ℕ) → Abs (sends_at j) wave_limit
    unfolding raised sent
    quiet j = turned_range (rounding_of r.version) (reversed_at r j) (elim (dec_lt j r.count) [
      | yes l ↦
          let sound = k.loaded.sound j (omega (arith, k.fixed.seated.accepted.short)) in
          part_quiet (rounding_of r.version) x (stored_at k.stored j) (part_at r j) source sound (is_true _ (k.fixed.seated.accepted.sound j l))
      | no l ↦ rw (k.fixed.seated.accepted.blank j (omega arith)) none
    ])

    abbrev pub swept : Swept p
    swept = record {
      circuit = r;
      wave = sends_at;
      accepted = k.fixed.seated.accepted;
      slotted = k.fixed.seated.slotted;
      all = k.fixed.adaptors;
      staged = k.fixed.staged;
      rounds = k.fixed.rounds;
      quiet = quiet;
    }

    abbrev pub climbs : Climbs p (set ups floor entered)
    climbs = record { swept = swept; begun = begun }

  -- ---- between the sweeps

  -- what the sweep up leaves
  pub record Raised (above : List ℤ) : Type 0 where
    pub source : within source_limit x ≡ true
    pub up : Risen r sends_at (suc floor + p.adaptors) above

  module _ {above : List ℤ} (h : Raised above) where
    -- the top's slot, and the wave there
    abbrev top : ℕ
    top = floor + p.adaptors

    abbrev wave : ℤ
    wave = stored_at above top

    top_slot_lem : top ≡ top_slot r
    top_slot_lem = ap (◌+◌ floor) k.fixed.adaptors

    leaf_risen : (j : ℕ) → is_leaf (part_at r j) ≡ true → stored_at above (slot_of r j) ≡ sends_at j
    leaf_risen j e =
        let low = slot_low k.fixed (leaf_slot k.fixed j e) in
        h.up.right j (leaf_inside k.fixed j e) (omega arith) ∙ leaf_rises j e

    -- what every leaf but the input sends next is as it was
    pub still : Loaded r k.stored above
    unfolding raised sent
    still = record {
      size = k.loaded.size;
      long = h.up.long;
      sound = k.loaded.sound;
      leaves = λ j l e f. leaf_risen j e ∙ rw (sends_either (rounding_of r.version) x (stored_at k.stored j) (part_at r j), f);
    }

    pub top_wave : wave ≡ risen (rounded r) r (stored_at k.stored) x
    unfolding risen tree_of last_row
    top_wave =
        let last = k.fixed.seated.slotted.last in
        ap (stored_at above) (top_slot_lem ∙ sym last) ∙ h.up.right (r.count - 1) (omega (arith, k.fixed.seated.accepted.some)) (omega (arith, top_slot_lem))

    pub refuses_top : within wave_limit wave ≡ false → sampled r k.stored x ≡ refused 15
    unfolding sampled in_limit
    refuses_top e = rw (h.source, ← top_wave, e)

    module _ (calm : within wave_limit wave ≡ true) {answer : ℤ} (answers : answer ≡ reflected r wave) where
      pub answer_range : Abs answer wave_limit
      answer_range =
          let limit = (within_abs wave_limit wave calm).bound in
          record { bound = rw answers (omega (arith, answer_never_exceeds k.fixed.seated.accepted.drawn wave)) }

      pub answer_there : stored_at (set ds top answer) top ≡ answer
      answer_there = get_or-set_same ds top answer (pos 0) (omega (arith, k.room.long, k.fixed.adaptors, k.fixed.seated.slotted.few))

      abbrev pub drops : Drops p above (set ds top answer)
      drops = record {
        swept = swept h.source;
        risen = h.up;
        modest = modest_set k.room top (abs_as answer_range refl (omega arith));
        answer = abs_as answer_range (sym answer_there) (omega arith);
      }

      answered : stored_at (set ds top answer) (top_slot r) ≡ answer
      answered = ap (stored_at (set ds top answer)) (sym top_slot_lem) ∙ answer_there

      pub landed : {below : List ℤ} → Reached r sends_at (set ds top answer) below → Landed p r k.stored x above below
      unfolding reached
      landed fallen =
          let diode = answered ∙ answers ∙ ap (reflected r) top_wave in
          record {
            fixed = k.fixed;
            source = h.source;
            calm = rw (← top_wave) calm;
            quiet = quiet h.source;
            still = still;
            sends = leaf_risen;
            rises = ap (stored_at above) (sym top_slot_lem) ∙ top_wave;
            comes = λ j e. fallen.leaves j e ∙ ap (λ z. reach (rounded r) (ratio_at r) sends_at (tree_of r) z j) diode;
            returns = fallen.above ∙ diode;
            answer = abs_as answer_range (sym (fallen.above ∙ answered)) (omega arith);
            modest = fallen.modest;
          }
