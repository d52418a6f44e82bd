-- The lines of the rows passed are written.
use Rattle.std.proofs.Common.{◌≡◌, ◌+◌, ◌*◌, ◌≤◌, ◌++◌, length}
use Rattle.listing.specs.Lines.{line_room, row_lines}
use Rattle.listing.proofs.text.Text.push_rows.Given as goal

abbrev pub invariant-loop-j : goal.invariant-loop-j
invariant-loop-j l = record {
  inside : l.j ≤ l.r.count;
  bytes : l.self ≡ l.fn.self ++ row_lines l.r l.j;
  size : length l.self ≤ length l.fn.self + line_room * l.j;
}
