-- A turn fills row j from the rows below it, and the rows past the count stay blank.
use Rattle.std.proofs.Common.{ℕ, ◌<◌, ◌++◌, sym, ap, subst, ◌∙◌, arith}
use lib.Ieee.{nan}
use lib.ListN.{drop, replicate}
use Rattle.measure.specs.Ratio.{row}
use Rattle.circuit.specs.Counting.{table}
use Rattle.circuit.specs.Record.{row_limit}
use Rattle.circuit.specs.SetUp.{nothing}
use Rattle.circuit.specs.declared.Part.{Part}
use Rattle.circuit.specs.declared.Part.TheVariants.{Blank, Leaf, Adaptor}
use Rattle.laws.specs.Accepted.{Sized, Lower}
use Rattle.laws.proofs.Counting.{table_next, table_at, table_rest}
use Rattle.laws.proofs.Looping.{onward, whole}
use Rattle.setup.specs.Rows.{prepared_from, Rooted, filled_row}
use Rattle.setup.proofs.Judged.{form_shows, record_shows}
use Rattle.setup.proofs.Rows.{filled_blank, fills}
use Rattle.setup.proofs.port.filled_rows.Goals as goal
use Rattle.setup.proofs.port.filled_rows.Goals.{After-row}

-- children lower than a row are among the rows
among : (j : ℕ) (p : Part) → j < row_limit → Lower j p → Lower row_limit p
unfolding Lower
among j Blank h l = tt
among j (Leaf e) h l = tt
among j (Adaptor a) h l = (omega arith, omega arith)

-- what a look at a row tells of the record
looked : (c : After-row) → Sized c.args.r.now
looked c = record { rows = c.row.ensures.rows; columns = c.row.ensures.columns }

rooted : (c : After-row) → Rooted c.args.r.now
rooted c = record_shows _ (looked c) c.requires

pub prepared_row-requires : goal.prepared_row-requires
prepared_row-requires c =
    let known = rooted (goal.at.prepared_row-requires c).After-row in
    subst (Lower row_limit) (ap (λ x. x.part) (sym c.row.ensures.value)) (among c.loop-j.j _ (omega (arith, known.formed.short)) (known.lower c.loop-j.j))

pub bounds-rows-j : goal.bounds-rows-j
bounds-rows-j c = omega (arith, (form_shows c.args.r.now c.requires).short)

pub loop-j-preserved : goal.loop-j-preserved
loop-j-preserved c =
    let at = c.loop-j in
    let r = c.args.r.now in
    let seen = (goal.at.loop-j-preserved c).After-row in
    let known = rooted seen in
    let filled = at.invariant.0 in
    let value = c.prepared_row.ensures
    ∙ ap (λ x. prepared_from r.rate x.part at.rows) c.row.ensures.value
    ∙ fills r known at.rows at.j (λ k l. table_at (filled_row r) _ at.j k (row nan 0) filled.value l) in (
      onward filled (omega arith) (table_next _ _ at.j filled.value (omega (arith, known.formed.short)) value),
      λ l. looked seen,
    )

pub returns : goal.returns
returns c =
    let r = c.args.r.now in
    let size = c.loop-j.invariant.1 (omega (arith, c.loop-j-test.false, (form_shows r c.requires).some)) in
    let known = record_shows r size c.requires in
    record {
      sized = size;
      rows = whole c.loop-j.invariant.0 c.loop-j-test.false
          ∙ ap (λ b. table (filled_row r) r.count ++ drop r.count (replicate row_limit b)) c.blank-rows.ensures
          ∙ table_rest (filled_row r) nothing r.count row_limit known.formed.short (filled_blank r known);
    }
