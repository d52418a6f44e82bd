-- Each field is placed in a new block, after those before it and the zeros between them.
use Rattle.std.proofs.Common.{ap, ◌∙◌}
use Rattle.blocks.specs.Placing.{placed}
use Rattle.blocks.proofs.Placed.{begun_bytes, number_placed}
use Rattle.blocks.proofs.Fields.{heading_placed}
use Rattle.blocks.proofs.heading.heading_block.Goals as goal

pub returns : goal.returns
returns c =
    begun_bytes
    (heading_placed c.args.r.now c.kind_number.ensures c.put-2.ensures.held
    (number_placed _ 0 2 _ c.put.ensures.after c.to_le_bytes.ensures)
    c.put-2.ensures.after
    (number_placed _ 8 4 _ c.put-3.ensures.after c.to_le_bytes-2.ensures)
    (c.put-4.ensures.after ∙ ap (placed _ 16) c.float_bytes.ensures))
