-- The rows that set-up fills. An adaptor's row follows from its children's, so rows filled from the lowest up are those of the record; rule 9
-- reads the same of a proper ratio as of the ratio itself; and where every ratio is proper the filled rows are the prepared rows.
use Prim.Native.Nat.{ℕ, ◌-◌, ◌≤◌, ◌<◌}
use native.Mathlib.Omega.{arith}
use mathlib.Core.Path.{◌≡◌, refl, sym, ap, ap₂, ◌∙◌}
use mathlib.Core.Bool.{Bool, true, false, cond, not, and-false}
use mathlib.Core.List.{List}
use borrow.Author.Tests.{ltb-false, lt-leb}
use lib.Dec.{leb, ltb, eqb}
use lib.ListN.{length, replicate, length-replicate}
use lib.Ieee.{nan}
use Rattle.circuit.specs.Counting.{between}
use Rattle.circuit.specs.Numbers.{lowest}
use Rattle.circuit.specs.Record.{row_limit, part_at}
use Rattle.circuit.specs.SetUp.{nothing, parts, port_of, resistance_at, ratio_at, prepared_part, prepared_rows, set_up_report, set_up_rows}
use Rattle.circuit.specs.SetUp.{in_range, port_resistance_rule, ratio_fault, ratio_rule}
use Rattle.circuit.specs.declared.Part.{Part}
use Rattle.circuit.specs.declared.Part.TheVariants.{Blank, Leaf, Adaptor}
use Rattle.circuit.specs.declared.Prepared.{Prepared}
use Rattle.circuit.specs.declared.Record.{Record}
use Rattle.laws.specs.Accepted.{Lower}
use Rattle.laws.proofs.Counting.{get_or-table, length_table, table_same, lowest_same}
use Rattle.laws.proofs.Trees.{tree_blank, tree_leaf, resistance_leaf, ratio_leaf, resistance_adaptor, ratio_adaptor}
use Rattle.measure.specs.Ratio.{proper}
use Rattle.setup.specs.Rows.{entry, prepared_from, Rooted, filled_row, Filled}
use Rattle.measure.specs.Ratio.{row, joined_row}
use Rattle.measure.proofs.Width.{proper_below}

-- a row with a proper ratio: another one only where rule 9 refuses it
abbrev proper_row : Prepared → Prepared
proper_row q = row q.resistance (proper parts q.ratio)

-- rule 9 reads the same of it
same_fault : (p : Part) (g : ℕ) → ratio_fault p (proper parts g) ≡ ratio_fault p g
same_fault Blank g = refl
same_fault (Leaf x) g = refl
same_fault (Adaptor a) g = ap not (choose (ltb g parts) refl)
  where
    choose : (b : Bool) → ltb g parts ≡ b → between 1 (parts - 1) (proper parts g) ≡ between 1 (parts - 1) g
    choose true e = rw e refl
    choose false e = let l : parts - 1 < g = omega (arith, ltb-false g parts e) in rw (e, lt-leb g (parts - 1) l) (sym (and-false (leb 1 g)))

module _ (r : Record) (rooted : Rooted r) where
  lower : (j : ℕ) → Lower j (part_at r j)
  lower = rooted.lower

  -- a prepared row has its port's resistance and ratio, whatever its part is
  port_row : (j : ℕ) (p : Part) → part_at r j ≡ p → prepared_part r j p ≡ row (resistance_at r j) (ratio_at r j)
  port_row j Blank e =
      let t = tree_blank r lower j e in
      sym (ap₂ row (resistance_leaf r lower j t ∙ ap (port_of r.rate) e) (ratio_leaf r lower j t))
  port_row j (Leaf x) e = ap (row (resistance_at r j)) (sym (ratio_leaf r lower j (tree_leaf r lower j x e)))
  port_row j (Adaptor a) e = refl

  -- ---- filled from the lowest up

  -- past the count there is nothing
  pub filled_blank : (j : ℕ) → r.count ≤ j → filled_row r j ≡ nothing
  filled_blank j l = let e = rooted.blank j l in ap proper_row (sym (port_row j Blank e))

  pub fills : (rows : List Prepared) (j : ℕ) → ((k : ℕ) → k < j → entry rows k ≡ filled_row r k)
      → prepared_from r.rate (part_at r j) rows ≡ filled_row r j
  unfolding prepared_from Lower
  fills rows j below = by (part_at r j) refl
    where
      by : (p : Part) → part_at r j ≡ p → prepared_from r.rate p rows ≡ filled_row r j
      by Blank e = ap proper_row (port_row j Blank e)
      by (Leaf x) e =
          ap (λ R. row R 0) (sym (resistance_leaf r lower j (tree_leaf r lower j x e) ∙ ap (port_of r.rate) e))
          ∙ ap proper_row (port_row j (Leaf x) e)
      by (Adaptor a) e =
          let l = rw e at (lower j) in
          ap₂ (λ q1 q2. joined_row a.join q1.resistance q2.resistance) (below a.first l.0) (below a.second l.1)
          ∙ sym (ap₂ (λ R g. row R (proper parts g)) (resistance_adaptor r lower j a e) (ratio_adaptor r lower j a e))

  -- ---- what the rules read

  module _ (rows : List Prepared) (filled : Filled r rows) where
    entry_filled : (j : ℕ) → j < row_limit → entry rows j ≡ filled_row r j
    entry_filled j l = ap (λ (x : List Prepared). entry x j) filled ∙ get_or-table (filled_row r) row_limit j (row nan 0) l

    pub resistance_at_lem : (j : ℕ) → j < row_limit → (entry rows j).resistance ≡ resistance_at r j
    resistance_at_lem j l = ap (λ q. q.resistance) (entry_filled j l)

    pub resistance_rule : lowest (λ j. not (in_range (entry rows j).resistance)) r.count ≡ port_resistance_rule r
    unfolding port_resistance_rule
    resistance_rule = lowest_same _ _ r.count (λ j l. ap (λ R. not (in_range R)) (resistance_at_lem j (omega (arith, rooted.formed.short))))

    pub ratio_rule_lem : lowest (λ j. ratio_fault (part_at r j) (entry rows j).ratio) r.count ≡ ratio_rule r
    unfolding ratio_rule
    ratio_rule_lem =
        lowest_same _ _ r.count
        (λ j l. ap (λ q. ratio_fault (part_at r j) q.ratio) (entry_filled j (omega (arith, rooted.formed.short)))
        ∙ same_fault (part_at r j) (ratio_at r j))

    -- where every ratio is proper
    pub rows_prepared : ((j : ℕ) → ratio_at r j < parts) → rows ≡ prepared_rows r
    unfolding prepared_rows
    rows_prepared small =
        filled
        ∙ table_same (filled_row r) (λ j. prepared_part r j (part_at r j)) row_limit
        (λ j l. ap (row (resistance_at r j)) (sym (proper_below parts _ (small j))) ∙ sym (port_row j (part_at r j) refl))

-- ---- how many there are

rows_long : (r : Record) → length (set_up_rows r) ≡ row_limit
unfolding set_up_rows prepared_rows
rows_long r = by (eqb (set_up_report r).number 0)
  where
    by : (b : Bool) → length (cond b (prepared_rows r) (replicate row_limit nothing)) ≡ row_limit
    by true = length_table _ row_limit
    by false = length-replicate row_limit nothing
