-- Bytes that are not of a file's length are refused, and of others the array says what the slice does.
use Rattle.std.proofs.Common.{◌≡◌, ne_eqb, rules}
use Rattle.circuit.specs.Numbers.{told}
use Rattle.circuit.specs.File.{file_rules, file_length_rule}
use Rattle.circuit.specs.declared.Refusal.TheVariants.{Length}
use Rattle.laws.proofs.Trying.{refused_first}
use Rattle.blocks.proofs.Judged.{test_fails}
use Rattle.blocks.proofs.read.Goals as goal

pub returns-in_default : goal.returns-in_default
unfolding told file_rules file_length_rule
returns-in_default c = record { number = refused_first 1 file_length_rule _ _ Length (test_fails 1 (ne_eqb _ _ c.in_default.ensures.1)); circuit = tt }

pub returns-in_err-judged : goal.returns-in_err-judged
returns-in_err-judged c = let same : c.in-Ok.s.now ≡ c.args.s.now = c.in-Ok.ensures.1.same in rw (← same) (search rules)

pub returns : goal.returns
returns c = let same : c.in-Ok.s.now ≡ c.args.s.now = c.in-Ok.ensures.1.same in rw (← same) (search rules)
