-- A turn counts the uses by row j's part, and at the end all are counted.
use Rattle.std.proofs.Common.{ap, ◌∙◌, arith}
use lib.ListN.{get_or}
use Rattle.circuit.specs.Record.{uses}
use Rattle.circuit.specs.declared.Row.{Row}
use Rattle.laws.proofs.Looping.{onward, whole}
use Rattle.wiring.specs.Uses.{uses_by}
use Rattle.wiring.proofs.Counts.{counted, uses_next}
use Rattle.wiring.proofs.tree.uses.Goals as goal

pub loop-j-preserved : goal.loop-j-preserved
loop-j-preserved c =
    let at = c.loop-j in
    onward at.invariant (omega arith) (c.use_children.ensures ∙ ap (λ (w : Row). uses_by w.part at.uses) c.row.ensures.value ∙ uses_next _ at.j at.invariant.value)

pub returns : goal.returns
unfolding uses
returns c k l = ap (λ us. get_or us k 0) (whole c.loop-j.invariant c.loop-j-test.false) ∙ (counted _ _).each k l
