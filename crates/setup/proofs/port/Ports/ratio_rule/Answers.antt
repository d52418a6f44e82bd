-- What is found is the lowest row whose ratio is at fault.
use Rattle.std.proofs.Common.{ap, ◌∙◌, rules}
use Rattle.circuit.specs.Record.{part_at}
use Rattle.circuit.specs.SetUp.{ratio_fault}
use Rattle.std.proofs.iter.Serving.{serving}
use Rattle.circuit.specs.Numbers.{told}
use Rattle.laws.specs.Numbered.{numbered}
use Rattle.laws.proofs.Ranges.{found, none}
use Rattle.setup.specs.Rows.{entry}
use Rattle.setup.proofs.Judged.{counted, record_shows}
use Rattle.setup.proofs.Rows.{ratio_rule_lem}
use Rattle.setup.proofs.port.Ports.ratio_rule.Goals as goal

pub find-requires-clause-callable : goal.find-requires-clause-callable
find-requires-clause-callable c = let short = counted c.args.self.r.now c.args.self.passed in grind serving

pub returns-in-Some : goal.returns-in-Some
unfolding told
returns-in-Some c =
    found (λ j. ratio_fault (part_at c.args.self.r.now j) (entry c.args.self.rows.now j).ratio) 9 _ c.find.ensures.ran (λ j b q k. search rules) c.in-Some.is
    ∙ ap (numbered 9) (ratio_rule_lem _ (record_shows _ c.args.self.sized c.args.self.passed) _ c.args.self.filled)

pub returns-in-None : goal.returns-in-None
returns-in-None c =
    none (λ j. ratio_fault (part_at c.args.self.r.now j) (entry c.args.self.rows.now j).ratio) 9 _ c.find.ensures.ran (λ j b q k. search rules) c.in-None.is
    ∙ ap (numbered 9) (ratio_rule_lem _ (record_shows _ c.args.self.sized c.args.self.passed) _ c.args.self.filled)
