-- The uses by the rows below j are counted.
use Rattle.laws.proofs.Looping.{Upto}
use Rattle.wiring.specs.Uses.{uses_in}
use Rattle.wiring.proofs.tree.uses.Given as goal

abbrev pub invariant-loop-j : goal.invariant-loop-j
invariant-loop-j l = Upto (uses_in l.r.rows) l.r.count l.j l.uses
