-- Its tests are the definition's, in their order: where one fails the next are not asked.
use Rattle.std.proofs.Common.{◌≡◌, ◌-◌, sym, ap₂, ap, ◌∙◌, Bool, ◌&&◌}
use Rattle.std.specs.List.{list_all, range_with_len}
use Rattle.circuit.specs.Counting.{between}
use Rattle.circuit.specs.Numbers.{unless, told}
use Rattle.circuit.specs.Record.{row_limit, column_limit, row_at, column_at, is_set, at_origin, in_form, form_rule}
use Rattle.circuit.specs.declared.Record.{Record}
use Rattle.laws.specs.Numbered.{numbered}
use Rattle.laws.proofs.Ranges.{every_in, every_from}
use Rattle.wiring.proofs.form.form_rule.Goals as goal
use Rattle.wiring.proofs.form.form_rule.Goals.{else-has_counts-via-then-has_counts+then-rows_in_form+else-blank_columns, else-has_counts-via-then-has_counts+else-rows_in_form, else-has_counts-via-else-has_counts}

module _ (r : Record) where
  abbrev counts : Bool
  counts = between 1 row_limit r.count && between 2 column_limit r.width && is_set r.kind

  abbrev rows : Bool
  rows = list_all (λ j. in_form r.count j (row_at r j)) (range_with_len 0 row_limit)

  abbrev columns : Bool
  columns = list_all (λ i. at_origin (column_at r i)) (range_with_len r.width (column_limit - r.width))

  asked : numbered 4 (unless (counts && rows && columns) 0) ≡ numbered 4 (form_rule r)
  unfolding form_rule
  asked = ap (λ (b : Bool). numbered 4 (unless b 0)) (ap₂ (λ (p q : Bool). counts && p && q) (every_in _ row_limit) (every_from _ r.width column_limit))

pub returns-then-blank_columns : goal.returns-then-blank_columns
returns-then-blank_columns c =
    let r = c.args.r.now in
    rw (sym c.has_counts.ensures ∙ c.if-has_counts.true, sym c.rows_in_form.ensures ∙ c.if-rows_in_form.true, sym c.blank_columns.ensures ∙ c.if-blank_columns.true) at (asked r)

pub returns-else-has_counts : goal.returns-else-has_counts
unfolding told
returns-else-has_counts c =
    let r = c.args.r.now in
    elim c.else-has_counts.branch [
      | else-has_counts-via-then-has_counts+then-rows_in_form+else-blank_columns w ↦
          rw (sym c.has_counts.ensures ∙ w.if-has_counts.true, sym w.rows_in_form.ensures ∙ w.if-rows_in_form.true, sym w.blank_columns.ensures ∙ w.if-blank_columns.false) at (asked r)
      | else-has_counts-via-then-has_counts+else-rows_in_form w ↦
          rw (sym c.has_counts.ensures ∙ w.if-has_counts.true, sym w.rows_in_form.ensures ∙ w.if-rows_in_form.false) at (asked r)
      | else-has_counts-via-else-has_counts w ↦ rw (sym c.has_counts.ensures ∙ w.if-has_counts.false) at (asked r)
    ]
