-- Each of the rows is looked at.
use Rattle.std.proofs.Common.{refl, ◌∙◌, rules}
use borrow.Author.Tests.{tests}
use Rattle.std.proofs.lemmas.Iterator.{YieldsList-from_range}
use Rattle.std.proofs.lemmas.Iterator.Search.{all_from_yields_List}
use Rattle.circuit.specs.File.{rows_per_block, number_at, clear_row, row_place}
use Rattle.laws.proofs.Ranges.{every_in}
use Rattle.blocks.proofs.rules.are_clear_rows.Goals as goal

pub returns : goal.returns
returns c =
    let s = c.args.s.now in
    all_from_yields_List (λ j. clear_row (number_at 1 (row_place j) s) (row_place j) s) _ _ _ c.all.ensures.ran
    (YieldsList-from_range 0 rows_per_block rows_per_block refl refl) (λ x b q k. search (rules, tests))
    ∙ every_in (λ j. clear_row (number_at 1 (row_place j) s) (row_place j) s) rows_per_block
