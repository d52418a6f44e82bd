-- The end of a sample: a leaf's wave over its limit is the definition's 15, and else what the tap reads is the output and what the leaves keep is
-- stored, loaded for the next sample.
use Prim.Native.Nat.{ℕ, ◌<◌, ◌≤◌}
use native.Mathlib.Omega.{arith}
use mathlib.Core.Path.{◌≡◌, refl, sym, ap, ap₂, ◌∙◌}
use mathlib.Core.Bool.{Bool, true, false, true≢false, not, ◌||◌, cond}
use lib.Dec.{eqb}
use mathlib.Core.Logic.{inl, inr}
use mathlib.Core.List.{List}
use lib.IntN.{ℤ, pos, ◌+ℤ◌}
use lib.Ieee.Bits.{is_true}
use Rattle.std.specs.Prelude.{Result, Ok, Err}
use borrow.Author.Tests.{eq-eqb, ne_eqb, not-true, not-false}
use Rattle.circuit.specs.Counting.{within, some, table}
use Rattle.circuit.specs.Record.{part_at, reversed_at, is_leaf, is_input, top, row_limit}
use Rattle.circuit.specs.Curve.{wave_limit, reflected, segment}
use Rattle.circuit.specs.Sample.{Rounding, rounding_of, rounded, sends, stores, part_stores, part_sends, turned, sent, raised, risen, reached, arriving, kept, output, in_limit, sampled, refused, finished, stored_at}
use Rattle.circuit.specs.declared.Element.{Element}
use Rattle.circuit.specs.declared.Element.TheVariants.{Resistor, Capacitor, Inductor, Input, Steady}
use Rattle.circuit.specs.declared.Part.TheVariants.{Leaf}
use Rattle.circuit.specs.declared.Record.{Record}
use Rattle.laws.specs.Accepted.{Accepted}
use Rattle.laws.proofs.Counting as Counting
use Rattle.laws.proofs.Playing.{stored_sound}
use Rattle.parts.specs.Parts.{role_of, facing_of, turn_of}
use Rattle.engine.specs.Plan.{floor, slot_of, reactives, Slotted}
use Rattle.engine.specs.Sample.{over_at, leaf_over, Turn, turned_by, Restored, Restores, Port, Settles, Settled, Loaded, Works}
use Rattle.engine.specs.declared.plan.Plan.{Plan}
use Rattle.engine.specs.declared.sample.Finished.{Finished}
use Rattle.engine.specs.declared.sample.Fault.{Fault}
use Rattle.engine.specs.declared.sample.Fault.TheVariants.{Loud, Over}
use Rattle.engine.proofs.Facing.{facing_turn, facing_turned, turned_within, turned_back, turned_opposite, turned_sum}
use Rattle.engine.proofs.Limits.{within_abs}
use Rattle.engine.proofs.Sampling.{leaf_of, LeafSlot, leaf_inside, leaf_slot, slot_low, slot_leaf, slot_turn, Landed}

-- ---- a test of all leaves' slots

module _ (n : ℕ) (ds : List ℤ) where
  found_over : leaf_over n ds ≡ true → (s : ℕ) × LeafSlot n s × (over_at ds s ≡ true)
  found_over = by (some (over_at ds) n) refl
    where
      by : (b : Bool) → some (over_at ds) n ≡ b → (b || over_at ds floor) ≡ true → (s : ℕ) × LeafSlot n s × (over_at ds s ≡ true)
      by true e h = let f = Counting.true_some (over_at ds) n e in (f.0, inl f.1, f.2)
      by false e h = (floor, inr refl, h)

  none_over : leaf_over n ds ≡ false → (s : ℕ) → LeafSlot n s → within wave_limit (stored_at ds s) ≡ true
  none_over = by (some (over_at ds) n) refl
    where
      by : (b : Bool) → some (over_at ds) n ≡ b → (b || over_at ds floor) ≡ false → (s : ℕ) → LeafSlot n s → within wave_limit (stored_at ds s) ≡ true
      by true e h s l = absurd (true≢false h)
      by false e h s (inl l) = not-false _ (Counting.some_false (over_at ds) n e s l)
      by false e h s (inr q) = rw q (not-false _ h)

meter_turn : (top reversed : Bool) → Turn (cond top (pos 0) (facing_of reversed))
meter_turn true reversed = inl refl
meter_turn false reversed = facing_turn reversed

module _ {p : Plan} {r : Record} {ws : List ℤ} {x : ℤ} {above below : List ℤ} (h : Landed p r ws x above below) where
  abbrev acc : Accepted r
  acc = h.fixed.seated.accepted

  abbrev at : Slotted r
  at = h.fixed.seated.slotted

  abbrev n : ℕ
  n = p.adaptors

  abbrev ρ : Rounding
  ρ = rounding_of r.version

  -- what comes down to row j, and the leaf's own wave
  abbrev comes_at : ℕ → ℤ
  comes_at = reached (rounded r) (reflected r) r (stored_at ws) x

  abbrev arrives_at : ℕ → ℤ
  arrives_at = arriving (rounded r) (reflected r) r (stored_at ws) x

  -- the segment
  abbrev used : ℕ
  used = segment r (risen (rounded r) r (stored_at ws) x)

  abbrev keeps_limit : ℕ → Bool
  keeps_limit j = not (is_leaf (part_at r j)) || within wave_limit (arrives_at j)

  -- ---- rule 15

  -- a leaf's own wave is as large as the one in its slot
  same_limit : (j : ℕ) → is_leaf (part_at r j) ≡ true → within wave_limit (arrives_at j) ≡ within wave_limit (stored_at below (slot_of r j))
  unfolding arriving
  same_limit j e = turned_within ρ (reversed_at r j) wave_limit (comes_at j) ∙ ap (within wave_limit) (sym (h.comes j e))

  refuses_leaf : leaf_over n below ≡ true → sampled r ws x ≡ refused 15
  unfolding sampled in_limit
  refuses_leaf e =
      let f = found_over n below e in
      let j = slot_leaf h.fixed f.0 f.1 in
      let short = acc.short in
      let breaks : keeps_limit j.0 ≡ false = rw (j.2, same_limit j.0 j.2, j.3) (not-true _ f.2) in
      rw (h.source, h.calm, Counting.every_false keeps_limit row_limit j.0 (omega (arith, j.1)) breaks)

  module _ (calm : leaf_over n below ≡ false) where
    calm_leaf : (j : ℕ) → is_leaf (part_at r j) ≡ true → within wave_limit (arrives_at j) ≡ true
    calm_leaf j e = same_limit j e ∙ none_over n below calm (slot_of r j) (leaf_slot h.fixed j e)

    keeps : (j : ℕ) (b : Bool) → is_leaf (part_at r j) ≡ b → (not b || within wave_limit (arrives_at j)) ≡ true
    keeps j false e = refl
    keeps j true e = calm_leaf j e

    abbrev next : List ℤ
    next = table (kept (rounded r) (reflected r) r (stored_at ws) x) row_limit

    finishes : sampled r ws x ≡ finished (output (rounded r) (reflected r) r (stored_at ws) x) used next
    unfolding sampled in_limit
    finishes = rw (h.source, h.calm, Counting.true_every keeps_limit row_limit (λ j l. keeps j (is_leaf (part_at r j)) refl))

    -- ---- what the tap reads

    tapped : Port above below p.tap
        × (turned_by p.meter (stored_at above p.tap +ℤ stored_at below p.tap) ≡ output (rounded r) (reflected r) r (stored_at ws) x)
    unfolding output arriving raised
    tapped = elim acc.tapped [
      | inl q ↦ rw (h.fixed.tap, h.fixed.meter, eq-eqb r.tap top q, at.last) (
        record { inside = omega (arith, at.few); sent = rw h.rises (within_abs wave_limit _ h.calm); arriving = h.answer },
        ap₂ ◌+ℤ◌ h.rises h.returns,
      )
      | inr t ↦
          let e = is_true _ t in
          let inside = leaf_inside h.fixed r.tap e in
          let apart : r.tap ≡ top → ⊥ = λ q. omega (arith, acc.short) in
          let reversed = reversed_at r r.tap in
          rw (h.fixed.tap, h.fixed.meter, ne_eqb r.tap top apart) (
            record {
              inside = omega (arith, slot_low h.fixed (leaf_slot h.fixed r.tap e));
              sent = rw (h.sends r.tap e) (h.quiet r.tap);
              arriving = within_abs wave_limit _ (none_over n below calm _ (leaf_slot h.fixed r.tap e));
            },
            facing_turned ρ reversed _ ∙ ap (turned (rounded r) reversed) (ap₂ ◌+ℤ◌ (h.sends r.tap e) (h.comes r.tap e))
                ∙ turned_sum ρ reversed (sent (rounded r) r (stored_at ws) x r.tap) (comes_at r.tap),
          )
    ]

    -- ---- what is stored

    restores : Restores p.turns p.reactive above below
    restores =
        let fewer = at.fewer in
        let q = h.fixed.reactive in
        record {
          few = omega (arith, at.few);
          long = h.still.long;
          turn = λ s l. slot_turn h.fixed s (at.leaf s (omega arith));
          wave = λ s l. within_abs wave_limit _ (none_over n below calm s (inl (omega (arith, h.fixed.adaptors))));
        }

    module _ {after : List ℤ} (k : Restored p.turns below p.reactive above after) (j : ℕ) (l : j < r.count) where
      next_at : stored_at next j ≡ part_stores (rounded r) (part_at r j) (arrives_at j)
      unfolding kept
      next_at = let short = acc.short in Counting.get_or-table (kept (rounded r) (reflected r) r (stored_at ws) x) row_limit j (pos 0) (omega arith)

      abbrev reversed : Bool
      reversed = reversed_at r j

      moves : slot_of r j < reactives r → is_leaf (part_at r j) ≡ true → stored_at after (slot_of r j) ≡ turned_by (turn_of (part_at r j) reversed) (comes_at j)
      moves low e = k.kept (slot_of r j) (rw h.fixed.reactive low) ∙ ap₂ turned_by (h.fixed.turn j l) (h.comes j e)

      stays : reactives r ≤ slot_of r j → is_leaf (part_at r j) ≡ true → stored_at after (slot_of r j) ≡ raised (rounded r) r (stored_at ws) x j
      stays high e = k.rest (slot_of r j) (rw h.fixed.reactive high) ∙ h.sends j e

      -- a reversed leaf's wave has changed sign coming down and changes it again going up
      sends_next : (y : Element) → part_at r j ≡ Leaf y → is_input (Leaf y) ≡ false
          → stored_at after (slot_of r j) ≡ turned (rounded r) reversed (part_sends (rounded r) (pos 0) (stored_at next j) (Leaf y))
      unfolding raised sent sends stores role_of arriving
      sends_next (Resistor v) e f = stays (at.other j l (ap role_of e)).0 (ap is_leaf e) ∙ rw e
      sends_next (Capacitor v) e f = moves (at.reactive j l (ap role_of e)) (ap is_leaf e) ∙ rw (next_at, e) (sym (turned_back ρ reversed (comes_at j)))
      sends_next (Inductor v) e f = moves (at.reactive j l (ap role_of e)) (ap is_leaf e) ∙ rw (next_at, e) (sym (turned_opposite ρ reversed (comes_at j)))
      sends_next (Input v) e f = absurd (true≢false f)
      sends_next (Steady v m) e f = stays (at.other j l (ap role_of e)).0 (ap is_leaf e) ∙ rw e

    loaded_next : {after : List ℤ} → Restored p.turns below p.reactive above after → Loaded r next after
    unfolding raised sent
    loaded_next k = record {
      size = Counting.length_table (kept (rounded r) (reflected r) r (stored_at ws) x) row_limit;
      long = k.long ∙ h.still.long;
      sound = stored_sound r ws x _ _ next finishes;
      leaves = λ j l e f. let y = leaf_of (part_at r j) e in
          sends_next k j l y.0 y.1 (sym (ap is_input y.1) ∙ f)
          ∙ sym (ap (λ q. turned (rounded r) (reversed_at r j) (part_sends (rounded r) (pos 0) (stored_at next j) q)) y.1);
    }

  -- ---- the end

  pub settles : Settles p above below
  settles = record {
    few = omega (arith, h.fixed.adaptors, at.few);
    meter = rw h.fixed.meter (meter_turn (eqb r.tap top) (reversed_at r r.tap));
    modest = h.modest;
    port = λ e. (tapped e).0;
    restores = restores;
  }

  -- what it comes to is the definition's sample
  pub works : {told : ℕ} → told ≡ used → (o : Result Finished Fault) (after : List ℤ) → Settled p told above below o after → Works r ws x o after
  unfolding Works Settled
  works e (Err Loud) after s = absurd s
  works e (Err Over) after s = (refuses_leaf s.0, rw s.1 h.still)
  works e (Ok f) after s = (
    next s.0,
    finishes s.0 ∙ ap₂ (λ z m. finished z m (next s.0)) (sym (s.1 ∙ (tapped s.0).1)) (sym (s.2 ∙ e)),
    loaded_next s.0 s.3,
  )
