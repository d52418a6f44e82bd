-- The loop has summed the first i words, each below 2^32, so the sum stays far below 2^64.
use Rattle.std.proofs.Common.{◌≡◌, ◌*◌, ◌≤◌}
use Rattle.circuit.specs.Counting.{total}
use Rattle.circuit.specs.File.{number_at}
use Rattle.blocks.proofs.block.check_of.Given as goal

abbrev pub invariant-loop-i : goal.invariant-loop-i
invariant-loop-i l = (l.i ≤ 127) × (l.sum ≡ total (λ j. number_at 4 (4 * j) l.s) l.i) × (l.sum ≤ l.i * 4294967296)
