-- What reading refuses, and else what writing hands back of what was read.
use Rattle.blocks.proofs.Digits.{bytes_held}
use Rattle.uses.proofs.Trips.{read_refused, read_accepted}
use Rattle.uses.proofs.rewrite.Goals as goal

pub returns-in-Ok : goal.returns-in-Ok
returns-in-Ok c = read_accepted c.in-Ok.ensures (bytes_held c.args.bytes.now c.type_inv.bytes) c.write.ensures

pub returns-in-Err : goal.returns-in-Err
returns-in-Err c = read_refused c.in-Err.ensures
