-- The check is placed over the last four bytes.
use Rattle.std.proofs.Common.{◌*◌, ap, ◌∙◌, rules}
use Rattle.circuit.specs.File.{block_length, check_place}
use Rattle.blocks.specs.Placing.{placed}
use Rattle.blocks.proofs.Placed.{number_placed}
use Rattle.blocks.proofs.Blocks.{check_placed}
use Rattle.blocks.proofs.block.write.Goals as goal

pub returns : goal.returns
returns c =
    let a = c.args in
    c.put-2.ensures.after
    ∙ ap (placed a.out.now (block_length * a.k))
    (number_placed _ check_place 4 _ c.put.ensures.after c.to_le_bytes.ensures ∙ check_placed a.k _ a.b (search rules) c.check_of-check.ensures)
