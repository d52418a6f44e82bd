-- What is found is the lowest row whose resistance is out of range.
use Rattle.std.proofs.Common.{not, ap, ◌∙◌, rules}
use Rattle.std.proofs.iter.Serving.{serving}
use Rattle.circuit.specs.SetUp.{in_range}
use Rattle.circuit.specs.Numbers.{told}
use Rattle.laws.specs.Numbered.{numbered}
use Rattle.laws.proofs.Ranges.{found, none}
use Rattle.setup.specs.Rows.{entry}
use Rattle.setup.proofs.Judged.{counted, record_shows}
use Rattle.setup.proofs.Rows.{resistance_rule}
use Rattle.setup.proofs.port.Ports.resistance_rule.Goals as goal

pub find-requires-clause-callable : goal.find-requires-clause-callable
find-requires-clause-callable c = let short = counted c.args.self.r.now c.args.self.passed in grind serving

pub returns-in-Some : goal.returns-in-Some
unfolding told
returns-in-Some c =
    found (λ j. not (in_range (entry c.args.self.rows.now j).resistance)) 8 _ c.find.ensures.ran (λ j b q k. search rules) c.in-Some.is
    ∙ ap (numbered 8) (resistance_rule _ (record_shows _ c.args.self.sized c.args.self.passed) _ c.args.self.filled)

pub returns-in-None : goal.returns-in-None
returns-in-None c =
    none (λ j. not (in_range (entry c.args.self.rows.now j).resistance)) 8 _ c.find.ensures.ran (λ j b q k. search rules) c.in-None.is
    ∙ ap (numbered 8) (resistance_rule _ (record_shows _ c.args.self.sized c.args.self.passed) _ c.args.self.filled)
