-- Each field is placed where the one before it ends.
use Rattle.std.proofs.Common.{◌+◌, ap, ◌∙◌, w32, of_z, arith, rules}
use mir.ValLaws.{to_z-of_z}
use Rattle.blocks.specs.Placing.{placed}
use Rattle.blocks.proofs.Placed.{number_placed}
use Rattle.blocks.proofs.Fields.{row_placed}
use Rattle.blocks.proofs.row.Fields.put.Goals as goal

pub returns : goal.returns
returns c =
    let at = c.args.at in
    let f = c.args.self in
    row_placed c.args.b.now at (omega arith) f (ap (of_z w32) (to_z-of_z w32 f.microvolts (search rules)))
    c.put.ensures.held c.put.ensures.after
    (number_placed _ (at + 4) 4 _ c.put-2.ensures.after c.to_le_bytes.ensures)
    (c.put-3.ensures.after ∙ ap (placed _ (at + 8)) c.float_bytes.ensures)
