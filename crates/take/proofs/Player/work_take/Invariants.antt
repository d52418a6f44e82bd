-- At every turn no more bytes are carried than can be left over.
use Rattle.std.proofs.Common.{◌≤◌}
use Rattle.circuit.specs.Take.{left_limit}
use Rattle.take.proofs.Player.work_take.Given as goal

abbrev pub invariant-loop : goal.invariant-loop
invariant-loop g l = l.carried.count ≤ left_limit
