-- The ends of a run: the waves that are loaded before its first sample, and the stored waves that are taken out after its last.
use Prim.Native.Nat.{ℕ, zero, suc, ◌<◌, ◌≤◌}
use native.Mathlib.Decide.{dec_lt}
use native.Mathlib.Omega.{arith}
use mathlib.Core.Path.{◌≡◌, refl, sym, ap, ap₂, ◌∙◌}
use mathlib.Core.Bool.{Bool, true, false}
use mathlib.Core.List.{List}
use lib.Dec.{eqb}
use lib.ListN.{length, get_or, replicate}
use lib.Seq.{ext_get_or}
use lib.IntN.{ℤ, pos, nat_abs}
use borrow.Author.Tests.{eqb-true, not-false}
use Rattle.whole.specs.Order.{zarith, Abs, abs_parts}
use Rattle.circuit.specs.Record.{row_at, part_at, reversed_at, is_leaf, is_input, row_limit}
use Rattle.circuit.specs.Curve.{wave_limit}
use Rattle.circuit.specs.Numbers.{passes}
use Rattle.circuit.specs.Sample.{Rounding, whole_waves, rounding_of, sends, part_sends, turned, sent, raised, stored_at}
use Rattle.circuit.specs.Run.{sound_wave, stored_waves_rule}
use Rattle.circuit.specs.declared.Element.TheVariants.{Resistor, Capacitor, Inductor, Input, Steady}
use Rattle.circuit.specs.declared.Part.{Part}
use Rattle.circuit.specs.declared.Part.TheVariants.{Blank, Leaf, Adaptor}
use Rattle.circuit.specs.declared.Row.{Row}
use Rattle.circuit.specs.declared.Record.{Record}
use Rattle.laws.proofs.Counting as Counting
use Rattle.parts.specs.Parts.{facing_of, part_taken}
use Rattle.engine.specs.Plan.{Seated}
use Rattle.engine.specs.Sample.{turned_by, Loaded}
use Rattle.engine.proofs.Facing.{facing_turned, turned_back}
use Rattle.engine.proofs.Limits.{within_abs}
use Rattle.engine.proofs.Placing.{Placed, placed_all}

pub zeros_at : (n j : ℕ) → stored_at (replicate n (pos 0)) j ≡ pos 0
zeros_at zero j = refl
zeros_at (suc n) zero = refl
zeros_at (suc n) (suc j) = zeros_at n j

nought : (z : ℤ) → eqb (nat_abs z) 0 ≡ true → (pos 0 ≡ z) × Abs z wave_limit
nought z e = let n = eqb-true (nat_abs z) 0 e in (omega (zarith, abs_parts z), record { bound = omega arith })

-- a row without a wave, whichever way round
none_taken : (b : Bool) (z : ℤ) → eqb (nat_abs z) 0 ≡ true → (turned_by (facing_of b) (pos 0) ≡ z) × Abs z wave_limit
none_taken true z e = nought z e
none_taken false z e = nought z e

-- a sound wave z is taken out of the wave w that goes up from it
sound_taken : (ρ : Rounding) (q : Part) (b : Bool) (z w : ℤ) → sound_wave q z ≡ true
    → (is_leaf q ≡ true → is_input q ≡ false → w ≡ turned (whole_waves ρ) b (part_sends (whole_waves ρ) (pos 0) z q))
    → (turned_by (facing_of b) (part_taken q w) ≡ z) × Abs z wave_limit
unfolding sends
sound_taken ρ Blank b z w h up = none_taken b z h
sound_taken ρ (Leaf (Resistor v)) b z w h up = none_taken b z h
sound_taken ρ (Leaf (Capacitor v)) b z w h up =
    (ap (turned_by (facing_of b)) (up refl refl) ∙ facing_turned ρ b _ ∙ turned_back ρ b z, within_abs wave_limit z h)
sound_taken ρ (Leaf (Inductor v)) b z w h up =
    (ap (turned_by (facing_of b)) (up refl refl) ∙ facing_turned ρ b _ ∙ turned_back ρ b z, within_abs wave_limit z h)
sound_taken ρ (Leaf (Input v)) b z w h up = none_taken b z h
sound_taken ρ (Leaf (Steady v m)) b z w h up = none_taken b z h
sound_taken ρ (Adaptor a) b z w h up = none_taken b z h

-- what `unload` takes out for row j
abbrev pub out_of : Record → List ℕ → List ℤ → ℕ → ℤ
out_of r slots ups j = turned_by (facing_of (reversed_at r j)) (part_taken (part_at r j) (stored_at ups (get_or slots j 0)))

-- what `load` puts up for row j
abbrev pub up_of : Rounding → List ℤ → ℕ → Row → ℤ
up_of ρ ws j w = turned (whole_waves ρ) w.reversed (part_sends (whole_waves ρ) (pos 0) (stored_at ws j) w.part)

pub up_turned : (ρ : Rounding) (ws : List ℤ) (j : ℕ) (w : Row) {f s : ℤ} → f ≡ facing_of w.reversed
    → s ≡ part_sends (whole_waves ρ) (pos 0) (stored_at ws j) w.part → turned_by f s ≡ up_of ρ ws j w
up_turned ρ ws j w faced own = ap₂ turned_by faced own ∙ facing_turned ρ w.reversed _

module _ {r : Record} {slots : List ℕ} (h : Seated r slots) where
  -- rows in their slots, as `load` fills them
  pub loaded : {ws ups : List ℤ} → length ws ≡ row_limit → stored_waves_rule r ws ≡ passes
      → Placed (pos 0) slots (λ j. up_of (rounding_of r.version) ws j (row_at r j)) r.count ups → Loaded r ws ups
  unfolding raised sent stored_waves_rule
  loaded size waves p = record {
    size = size;
    long = p.long;
    sound = λ j l. not-false _ (Counting.lowest_passes _ row_limit waves j l);
    leaves = λ j l e f. placed_all h p j l;
  }

  module _ {ws ups : List ℤ} (l : Loaded r ws ups) where
    pub taken : (j : ℕ) → j < r.count → (out_of r slots ups j ≡ stored_at ws j) × Abs (stored_at ws j) wave_limit
    unfolding raised sent
    taken j m =
        let short = h.accepted.short in
        rw (h.slot j m)
        (sound_taken (rounding_of r.version) (part_at r j) (reversed_at r j) (stored_at ws j) _ (l.sound j (omega arith)) (l.leaves j m))

    -- the rows after the last have none
    pub all_taken : {after : List ℤ} → length after ≡ row_limit → ((j : ℕ) → j < r.count → stored_at after j ≡ out_of r slots ups j)
        → ((j : ℕ) → r.count ≤ j → stored_at after j ≡ pos 0) → after ≡ ws
    all_taken {after} size each rest = ext_get_or (pos 0) after ws (size ∙ sym l.size) (λ j m. by j (omega arith) (dec_lt j r.count))
      where
        by : (j : ℕ) → j < row_limit → Dec (j < r.count) → stored_at after j ≡ stored_at ws j
        by j m (yes n) = each j n ∙ (taken j n).0
        by j m (no n) =
            let blank = h.accepted.blank j (omega arith) in
            rest j (omega arith) ∙ (nought (stored_at ws j) (rw blank at (l.sound j m))).0
