-- Its test is the definition's.
use Rattle.std.proofs.Common.{sym, ap, ◌∙◌, Bool}
use Rattle.circuit.specs.Numbers.{unless, told}
use Rattle.laws.specs.Numbered.{numbered}
use Rattle.setup.proofs.columns.origin_rule.Goals as goal

pub returns-else-passes_origin : goal.returns-else-passes_origin
unfolding told
returns-else-passes_origin c = ap (λ (b : Bool). numbered 10 (unless b 0)) (sym c.if-passes_origin.false ∙ c.passes_origin.ensures)
