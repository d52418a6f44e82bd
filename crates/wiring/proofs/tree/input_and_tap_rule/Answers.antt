-- Its test is the definition's.
use Rattle.std.proofs.Common.{◌≡◌, ℕ, sym, ap, ap₂, ◌∙◌, Bool, ◌&&◌, ◌||◌, eqb}
use Rattle.circuit.specs.Numbers.{unless, told}
use Rattle.circuit.specs.Record.{no_row, top, part_at, is_leaf, is_input, inputs, input_and_tap_rule}
use Rattle.circuit.specs.declared.Row.{Row}
use Rattle.laws.specs.Numbered.{numbered}
use Rattle.laws.proofs.Ranges.{total_in}
use Rattle.wiring.proofs.tree.input_and_tap_rule.Goals as goal
use Rattle.wiring.proofs.tree.input_and_tap_rule.Goals.{After-is_leaf}

told_by : (c : After-is_leaf) {b : Bool} → (eqb c.inputs.result 1 && (eqb c.args.r.now.tap top || c.is_leaf.result)) ≡ b
    → numbered 6 (unless b no_row) ≡ numbered 6 (input_and_tap_rule c.args.r.now)
unfolding input_and_tap_rule inputs
told_by c e =
    let r = c.args.r.now in
    let counted = c.inputs.ensures ∙ total_in (λ j. is_input (part_at r j)) r.count in
    let tapped = c.is_leaf.ensures ∙ ap (λ (w : Row). is_leaf w.part) c.row.ensures.value in
    ap (λ (b : Bool). numbered 6 (unless b no_row)) (sym e)
    ∙ ap₂ (λ (n : ℕ) (l : Bool). numbered 6 (unless (eqb n 1 && (eqb r.tap top || l)) no_row)) counted tapped

pub returns-then-inputs-r : goal.returns-then-inputs-r
returns-then-inputs-r c = told_by (goal.at.returns-then-inputs-r c).After-is_leaf c.if-inputs-r.true

pub returns-else-inputs-r : goal.returns-else-inputs-r
unfolding told
returns-else-inputs-r c = told_by (goal.at.returns-else-inputs-r c).After-is_leaf c.if-inputs-r.false
