-- What is found is the lowest row at fault.
use Rattle.std.proofs.Common.{rules}
use Rattle.circuit.specs.Record.{value_rule}
use Rattle.circuit.specs.Numbers.{told}
use Rattle.laws.proofs.Ranges.{found, none}
use Rattle.wiring.proofs.value.value_rule.Goals as goal

pub returns-in-Some : goal.returns-in-Some
unfolding told value_rule
returns-in-Some c = found _ 7 _ c.find.ensures.ran (λ j b q k. search rules) c.in-Some.is

pub returns-in-None : goal.returns-in-None
unfolding value_rule
returns-in-None c = none _ 7 _ c.find.ensures.ran (λ j b q k. search rules) c.in-None.is
