-- What a run lays out, from a record that set-up does not refuse and its rows after it.
use Prim.Native.Nat.{ℕ, ◌<◌}
use native.Mathlib.Omega.{arith}
use borrow.Author.Tests.{eq-eqb, ne_eqb}
use mathlib.Core.Path.{◌≡◌, refl, sym, ap, ◌∙◌, subst}
use mathlib.Core.Logic.{⊎_elim}
use mathlib.Core.Bool.{Bool, true, false, cond, not}
use mathlib.Core.List.{List}
use lib.Dec.{T, eqb}
use lib.ListN.{get_or}
use Rattle.std.specs.Prelude.{nat_eq, count_by}
use Rattle.std.specs.List.{range_with_len}
use Rattle.circuit.specs.Record.{row_limit, top, part_at, is_leaf}
use Rattle.circuit.specs.SetUp.{nothing, prepared_part, prepared_rows, ratio_at}
use Rattle.circuit.specs.Sample.{rounded_down, rounded_to_zero, rounding_of}
use Rattle.circuit.specs.declared.Part.{Part}
use Rattle.circuit.specs.declared.Part.TheVariants.{Blank, Leaf, Adaptor}
use Rattle.circuit.specs.declared.Prepared.{Prepared}
use Rattle.circuit.specs.declared.Record.{Record}
use Rattle.laws.specs.Accepted.{Accepted}
use Rattle.laws.proofs.Accepting.{accepting}
use Rattle.laws.proofs.Counting as Counting
use Rattle.laws.proofs.Ranges.{total_in}
use Rattle.laws.proofs.Trees.{tree_blank, tree_leaf, ratio_leaf}
use Rattle.parts.specs.Parts.{role_of}
use Rattle.engine.specs.Plan.{rank, reactives, slot_of, tap_row, Layable, Seated}
use Rattle.engine.specs.Wave.{way}
use Rattle.engine.specs.Sample.{Ready}
use Rattle.engine.proofs.Slots.{in_use, slotted}

-- what version 1 rounds down every later one rounds toward zero
pub rounding : (version : ℕ) → rounding_of version ≡ way (not (eqb version 1))
unfolding rounding_of
rounding version = by (eqb version 1)
  where
    by : (b : Bool) → cond b rounded_down rounded_to_zero ≡ way (not b)
    by true = refl
    by false = refl

-- the reactive leaves, as the library counts them
pub counted : (r : Record) {n : ℕ} → n ≡ count_by (λ j. nat_eq (role_of (part_at r j)) 0) (range_with_len 0 r.count) → n ≡ reactives r
unfolding rank
counted r e = e ∙ total_in _ r.count

-- the tap's row is in use
pub tap_inside : (r : Record) → Accepted r → tap_row r < r.count
tap_inside r acc = ⊎_elim
    (λ e. rw (eq-eqb r.tap top e) (omega (arith, acc.some)))
    (λ h.
    let l = in_use r acc r.tap (λ e. subst T (ap is_leaf e) h) in
    rw (ne_eqb r.tap top (λ e. omega (arith, acc.short))) l)
    acc.tapped

-- the prepared ratio is the definition's
part_ratio : (r : Record) → Accepted r → (j : ℕ) (q : Part) → part_at r j ≡ q → (prepared_part r j q).ratio ≡ ratio_at r j
part_ratio r acc j Blank e = sym (ratio_leaf r acc.lower j (tree_blank r acc.lower j e))
part_ratio r acc j (Leaf x) e = sym (ratio_leaf r acc.lower j (tree_leaf r acc.lower j x e))
part_ratio r acc j (Adaptor a) e = refl

module _ {r : Record} {prepared : List Prepared} (p : Ready r prepared) where
  pub accepted : Accepted r
  accepted = accepting r p.sized p.set_up

  ratio : (j : ℕ) → j < r.count → (get_or prepared j nothing).ratio ≡ ratio_at r j
  unfolding prepared_rows
  ratio j l =
      let inside : j < row_limit = omega (arith, accepted.short) in
      let at = Counting.get_or-table (λ k. prepared_part r k (part_at r k)) row_limit j nothing inside in
      ap (λ (rows : List Prepared). (get_or rows j nothing).ratio) p.rows ∙ ap (λ (x : Prepared). x.ratio) at
      ∙ part_ratio r accepted j (part_at r j) refl

  pub seated : {slots : List ℕ} → ((j : ℕ) → j < r.count → get_or slots j 0 ≡ slot_of r j) → Seated r slots
  seated h = record { accepted = accepted; slotted = slotted r accepted; slot = h }

  pub layable : {slots : List ℕ} → Seated r slots → Layable r prepared slots
  layable h = record { seated = h; ratio = ratio }
