-- The curve's acceptance in the paper's other form: x rises and keeps its limit, (0, 0) stands where it must, and no two columns, neighbours
-- or not, lie further apart in y than in x.
use Rattle.std.specs.Prelude.{ℕ, suc, ◌<◌, ◌≤◌, ◌-ℤ◌, nat_abs, ◌<ℤ◌}
use Rattle.circuit.specs.Record.{column_at}
use Rattle.circuit.specs.Curve.{wave_limit}
use Rattle.circuit.specs.declared.Record.{Record}
use Rattle.laws.specs.Accepted.{Crosses}

pub record Acceptable (r : Record) : Type 0 where
  pub two : 2 ≤ r.width
  pub rises : (i : ℕ) → suc i < r.width → (column_at r i).x <ℤ (column_at r (suc i)).x
  pub apart : (i j : ℕ) → i < r.width → j < r.width
      → nat_abs ((column_at r j).y -ℤ (column_at r i).y) ≤ nat_abs ((column_at r j).x -ℤ (column_at r i).x)
  pub crosses : Crosses r.kind r
  pub small : (i : ℕ) → i < r.width → nat_abs (column_at r i).x ≤ wave_limit
