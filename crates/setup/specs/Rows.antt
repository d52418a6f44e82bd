-- The rows as set-up fills them, before rules 8 and 9 have looked at them.
use Rattle.std.specs.Prelude.{ℕ, ◌≤◌, ◌≡◌, List, get_or}
use Rattle.std.specs.Float.{nan}
use Rattle.circuit.specs.Counting.{table}
use Rattle.circuit.specs.Record.{row_limit, part_at}
use Rattle.circuit.specs.SetUp.{nothing, leaf_resistance, parts, resistance_at, ratio_at}
use Rattle.circuit.specs.declared.Part.{Part}
use Rattle.circuit.specs.declared.Part.TheVariants.{Blank, Leaf, Adaptor}
use Rattle.circuit.specs.declared.Prepared.{Prepared}
use Rattle.circuit.specs.declared.Record.{Record}
use Rattle.laws.specs.Accepted.{Lower}
use Rattle.laws.proofs.Formed.{Formed}
use Rattle.measure.specs.Ratio.{proper, row, joined_row}

-- row j of prepared rows
abbrev pub entry : List Prepared → ℕ → Prepared
entry rows j = get_or rows j (row nan 0)

-- a row from its part and the rows below it
unfoldable pub prepared_from : ℕ → Part → List Prepared → Prepared
prepared_from rate Blank rows = nothing
prepared_from rate (Leaf e) rows = row (leaf_resistance rate e) 0
prepared_from rate (Adaptor a) rows = joined_row a.join (entry rows a.first).resistance (entry rows a.second).resistance

-- what filling the rows rests on: what rules 4 and 6 have shown
pub record Rooted (r : Record) : Type 0 where
  pub formed : Formed r
  pub lower : (j : ℕ) → Lower j (part_at r j)
  pub blank : (j : ℕ) → r.count ≤ j → part_at r j ≡ Blank

-- the record's row j, as set-up fills it; a ratio that is not proper is refused by rule 9
abbrev pub filled_row : Record → ℕ → Prepared
filled_row r j = row (resistance_at r j) (proper parts (ratio_at r j))

-- all rows filled
abbrev pub Filled : Record → List Prepared → Type 0
Filled r rows = rows ≡ table (filled_row r) row_limit
