-- A take begins with no bytes left over.
use Rattle.std.proofs.Common.{arith}
use Rattle.circuit.specs.Take.{fresh_take}
use Rattle.take.proofs.Player.work_take.Goals as goal

pub loop-init : goal.loop-init
unfolding fresh_take
loop-init g c = rw c.start-carried.ensures (omega arith)
