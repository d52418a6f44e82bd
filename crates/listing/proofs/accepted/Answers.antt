-- The first line, and the rows' lines after it. No record that set-up accepts has too many rows for the room.
use Rattle.std.proofs.Common.{◌++◌, length, ap, ◌∙◌, append_assoc, arith}
use Rattle.circuit.specs.Text.{text}
use Rattle.circuit.specs.Listing.{accepted_lines}
use Rattle.listing.specs.Lines.{numbers_line, row_lines}
use Rattle.listing.proofs.Rows.{few_rows}
use Rattle.listing.proofs.accepted.Goals as goal

pub push_rows-requires-clause-room : goal.push_rows-requires-clause-room
push_rows-requires-clause-room c = omega (arith, few_rows c.args.opened.now.circuit c.requires.accepted, c.push_numbers.ensures.size, ap length c.new-text.ensures)

pub returns : goal.returns
unfolding accepted_lines numbers_line row_lines text
returns c =
    let r = c.args.opened.now.circuit in
    let first = c.push_numbers.ensures.bytes ∙ ap (λ t. t ++ numbers_line (text "rows ") r.count (text " tap ") r.tap) c.new-text.ensures in
    c.push_rows.ensures.bytes ∙ ap (λ t. t ++ row_lines r r.count) first ∙ simp append_assoc
