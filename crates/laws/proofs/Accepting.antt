-- A record that set-up does not refuse has every fact of an accepted one: each rule's verdict, read row by row and column by column.
use Prim.Native.Nat.{ℕ, suc, ◌+◌, ◌-◌, ◌*◌, ◌<◌, ◌≤◌}
use native.Mathlib.Decide.{dec_lt}
use native.Mathlib.Omega.{arith}
use borrow.Author.Tests.{leb-true, eqb-true, not-false}
use mathlib.Core.Path.{◌≡◌, refl, sym, ap, ◌∙◌, subst}
use mathlib.Core.Logic.{◌⊎◌, inl, inr}
use mathlib.Core.Bool.{Bool, true, false, ◌||◌, and-eq-true_iff}
use lib.Dec.{T, eqb, leb}
use Rattle.circuit.specs.Numbers.{done}
use Rattle.circuit.specs.Record.{top, no_row, part_at, is_leaf, is_adaptor, names, uses, inputs, input_and_tap_rule, sound_part, value_rule, adaptors_of, tree_at, tree_of, last_row}
use Rattle.circuit.specs.Counting.{total, one}
use Rattle.circuit.specs.SetUp.{parts, port_resistance_rule, resistance_at, in_range, ratio_fault, ratio_rule, ratio_at, set_up_report}
use Rattle.circuit.specs.Sample.{holds}
use Rattle.circuit.specs.declared.Part.{Part}
use Rattle.circuit.specs.declared.Part.TheVariants.{Blank, Leaf, Adaptor}
use Rattle.circuit.specs.declared.Record.{Record}
use Rattle.laws.specs.Accepted.{Sized, Lower, Above, adaptors, Accepted}
use Rattle.laws.proofs.Counting as Counting
use Rattle.laws.proofs.Judging.{Passed, done_passed}
use Rattle.laws.proofs.Trees as Trees
use Rattle.laws.proofs.Formed as Formed
use Rattle.laws.proofs.Leaves as Leaves
use Rattle.laws.proofs.Columns.{columns_drawn}

pub truly : (b : Bool) → b ≡ true → T b
truly b e = subst T (sym e) tt

module _ (r : Record) (s : Sized r) (h : Passed r) where
  formed : Formed.Formed r
  formed = Formed.formed r h.form

  lower : (j : ℕ) → Lower j (part_at r j)
  lower = Formed.rows_lower r s formed h.children_lower

  -- ---- rule 6: the input and the tap

  tests : (eqb (inputs r) 1 ≡ true) × ((eqb r.tap top || is_leaf (part_at r r.tap)) ≡ true)
  unfolding input_and_tap_rule
  tests = (and-eq-true_iff _ _).0 (Counting.unless_passes _ no_row h.input_and_tap)

  tapped : (a : Bool) → eqb r.tap top ≡ a → (a || is_leaf (part_at r r.tap)) ≡ true → (r.tap ≡ top) ⊎ T (is_leaf (part_at r r.tap))
  tapped true q e = inl (eqb-true r.tap top q)
  tapped false q e = inr (truly _ e)

  -- ---- rules 7 to 9

  sound : (j : ℕ) → j < r.count → T (sound_part (part_at r j))
  unfolding value_rule
  sound j l = truly (sound_part (part_at r j)) (not-false _ (Counting.lowest_passes _ r.count h.values j l))

  resistances : (j : ℕ) → j < r.count → T (in_range (resistance_at r j))
  unfolding port_resistance_rule
  resistances j l = truly (in_range (resistance_at r j)) (not-false _ (Counting.lowest_passes _ r.count h.port_resistances j l))

  no_fault : (j : ℕ) → ratio_fault (part_at r j) (ratio_at r j) ≡ false
  unfolding ratio_rule
  no_fault j = by (dec_lt j r.count)
    where
      by : Dec (j < r.count) → ratio_fault (part_at r j) (ratio_at r j) ≡ false
      by (yes l) = Counting.lowest_passes _ r.count h.ratios j l
      by (no l) = ap (λ p. ratio_fault p (ratio_at r j)) (Formed.rows_blank r formed s j (omega arith))

  ratio_of : (j : ℕ) (p : Part) → part_at r j ≡ p → ratio_fault p (ratio_at r j) ≡ false → ratio_at r j < parts
  ratio_of j Blank e f = let none = Trees.ratio_leaf r lower j (Trees.tree_blank r lower j e) in omega arith
  ratio_of j (Leaf x) e f = let none = Trees.ratio_leaf r lower j (Trees.tree_leaf r lower j x e) in omega arith
  ratio_of j (Adaptor a) e f = let most : ratio_at r j ≤ parts - 1 = leb-true _ _ ((and-eq-true_iff (leb 1 (ratio_at r j)) _).0 (not-false _ f)).1 in omega arith

  above : (j : ℕ) (p : Part) → ratio_fault p (ratio_at r j) ≡ false → Above (ratio_at r j) p
  unfolding Above
  above j Blank f = tt
  above j (Leaf x) f = tt
  above j (Adaptor a) f = leb-true 1 _ ((and-eq-true_iff (leb 1 (ratio_at r j)) _).0 (not-false _ f)).0

  -- ---- the tree

  once_below : (j : ℕ) → j < r.count → (k : ℕ) → k < j → total (λ p. names (part_at r p) k) (suc j) ≤ 1
  unfolding uses
  once_below j l k i =
      let once = Formed.used_once_lem r s formed lower h.used_once k (omega arith) in
      let more = Counting.total_more (λ p. names (part_at r p) k) (suc j) r.count l in
      omega arith

  -- up to the last row, which is all of them
  last : suc (last_row r) ≡ r.count
  unfolding last_row
  last = let some = formed.some in omega arith

  once_all : (k : ℕ) → k < last_row r → total (λ p. names (part_at r p) k) (suc (last_row r)) ≡ 1
  unfolding uses
  once_all k l = ap (total (λ p. names (part_at r p) k)) last ∙ Formed.used_once_lem r s formed lower h.used_once k (omega (arith, last))

  odd : r.count ≡ 2 * adaptors_of r + 1
  unfolding adaptors_of
  odd = let all = Leaves.rows_odd r lower (last_row r) once_all in let same = ap (Leaves.rank r lower) last in omega (arith, last)

  all_adaptors : adaptors (tree_of r) ≡ adaptors_of r
  unfolding tree_of adaptors_of
  all_adaptors = Leaves.tree_size r lower (last_row r) once_all ∙ ap (Leaves.rank r lower) last

  few : (j : ℕ) → j < r.count → adaptors (tree_at r j) ≤ adaptors_of r
  unfolding adaptors_of
  few j l =
      let less = Leaves.tree_size_most r lower j (once_below j l) in
      let more = Counting.total_more (λ p. one (is_adaptor (part_at r p))) (suc j) r.count l in
      omega arith

  held : (j : ℕ) → T (is_leaf (part_at r j)) → T (holds (tree_of r) j)
  held j leaf = by (dec_lt j r.count)
    where
      by : Dec (j < r.count) → T (holds (tree_of r) j)
      by (yes l) =
          Leaves.holds_top r lower (Formed.rows_used r s formed lower h.used_once) r.count j j l (omega arith) (Leaves.holds_self r lower j leaf)
      by (no l) = absurd (subst (λ p. T (is_leaf p)) (Formed.rows_blank r formed s j (omega arith)) leaf)

  pub passed_accepted : Accepted r
  passed_accepted = record {
    some = formed.some;
    short = formed.short;
    narrow = formed.narrow;
    wide = formed.wide;
    present = Formed.rows_present r formed;
    blank = Formed.rows_blank r formed s;
    lower = lower;
    once = Formed.rows_once r s formed lower h.used_once;
    apart = Formed.rows_apart r s formed lower h.used_once;
    used = Formed.rows_used r s formed lower h.used_once;
    one_input = eqb-true _ 1 tests.0;
    tapped = tapped (eqb r.tap top) refl tests.1;
    sound = sound;
    resistance = resistances;
    ratio = λ j. ratio_of j (part_at r j) refl (no_fault j);
    above = λ j. above j (part_at r j) (no_fault j);
    odd = odd;
    whole = all_adaptors;
    partly = few;
    held = held;
    drawn = columns_drawn r formed h.column_rule;
  }

pub accepting : (r : Record) → Sized r → set_up_report r ≡ done → Accepted r
accepting r s e = passed_accepted r s (done_passed r e)
