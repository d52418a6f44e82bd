-- What writing refuses, and else a record that is written on a blank page and read back.
use Rattle.uses.proofs.Trips.{unwritten, rereads, of_own}
use Rattle.uses.proofs.reread.Goals as goal

pub returns-in-Ok : goal.returns-in-Ok
returns-in-Ok c = of_own c.own-circuit.ensures.same (rereads c.blank_page-page.ensures c.own-circuit.ensures.held c.in-Ok.ensures c.read.ensures)

pub returns-in-Err : goal.returns-in-Err
returns-in-Err c = of_own c.own-circuit.ensures.same (unwritten c.blank_page-page.ensures c.in-Err.ensures)
