-- The uses of each row as they are counted, up to two: one list for all rows, looked at row by row.
use Rattle.std.specs.Prelude.{ℕ, zero, suc, ◌+◌, min, cond, List, ltb, get_or, set, replicate}
use Rattle.circuit.specs.Record.{row_limit, row_in}
use Rattle.circuit.specs.declared.Part.{Part}
use Rattle.circuit.specs.declared.Part.TheVariants.{Blank, Leaf, Adaptor}
use Rattle.circuit.specs.declared.Row.{Row}

-- one use more of row k; a number past the rows is nobody's
abbrev pub use_more : ℕ → List ℕ → List ℕ
use_more k us = cond (ltb k row_limit) (set us k (min 2 (get_or us k 0 + 1))) us

-- by one part
abbrev pub uses_by : Part → List ℕ → List ℕ
uses_by Blank us = us
uses_by (Leaf e) us = us
uses_by (Adaptor a) us = use_more a.second (use_more a.first us)

-- by the first n rows
unfoldable pub uses_in : List Row → ℕ → List ℕ
uses_in rows zero = replicate row_limit 0
uses_in rows (suc n) = uses_by (row_in rows n).part (uses_in rows n)
