-- What is found is the lowest column at fault.
use Rattle.std.proofs.Common.{not, rules}
use Rattle.circuit.specs.Curve.{sound_column}
use Rattle.circuit.specs.Numbers.{told}
use Rattle.laws.proofs.Ranges.{found, none}
use Rattle.setup.proofs.columns.lowest_column.Goals as goal

pub returns-in-Some : goal.returns-in-Some
unfolding told
returns-in-Some c = found (λ i. not (sound_column c.args.r.now i)) 10 _ c.find.ensures.ran (λ i b q k. search rules) c.in-Some.is

pub returns-in-None : goal.returns-in-None
returns-in-None c = none (λ i. not (sound_column c.args.r.now i)) 10 _ c.find.ensures.ran (λ i b q k. search rules) c.in-None.is
