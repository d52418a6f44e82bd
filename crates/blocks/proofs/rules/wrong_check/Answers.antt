-- What is found is the lowest block whose check is wrong.
use Rattle.std.proofs.Common.{◌≡◌, length, rules}
use Rattle.circuit.specs.Numbers.{told}
use Rattle.circuit.specs.File.{file_length, check_rule}
use Rattle.laws.proofs.Ranges.{found, none}
use Rattle.blocks.proofs.rules.wrong_check.Goals as goal

pub returns-in-Some : goal.returns-in-Some
unfolding told check_rule
returns-in-Some c =
    let long : length c.args.s.now ≡ file_length = search rules in
    rw long (found _ 2 _ c.find.ensures.ran (λ k b q h. search rules) c.in-Some.is)

pub returns-in-None : goal.returns-in-None
unfolding check_rule
returns-in-None c =
    let long : length c.args.s.now ≡ file_length = search rules in
    rw long (none _ 2 _ c.find.ensures.ran (λ k b q h. search rules) c.in-None.is)
