-- The rows below j are filled as the record has them, and a row that was looked at has told how many there are.
use Rattle.std.proofs.Common.{◌<◌, ◌++◌}
use lib.ListN.{drop}
use Rattle.circuit.specs.Counting.{table}
use Rattle.laws.specs.Accepted.{Sized}
use Rattle.laws.proofs.Looping.{Upto}
use Rattle.setup.specs.Rows.{filled_row}
use Rattle.setup.proofs.port.filled_rows.Given as goal

abbrev pub invariant-loop-j : goal.invariant-loop-j
invariant-loop-j l = Upto (λ n. table (filled_row l.r) n ++ drop n l.initial.rows) l.r.count l.j l.rows × (0 < l.j → Sized l.r)
