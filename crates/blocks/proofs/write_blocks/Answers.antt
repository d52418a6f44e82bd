-- Each block is written after those before it, and together they fill the file.
use Rattle.std.proofs.Common.{[], ◌∷◌, map, refl, arith}
use Rattle.circuit.specs.File.{heading, row_bytes, column_fields, concat, blocks_of, file_of}
use Rattle.blocks.proofs.Placed.{entered_whole}
use Rattle.blocks.proofs.Sealed.{file_none, file_more}
use Rattle.blocks.proofs.Sizes.{heading_size}
use Rattle.blocks.proofs.write_blocks.Goals as goal

pub returns : goal.returns
unfolding file_of blocks_of
returns c =
    let r = c.args.r.now in
    let h = heading r in
    let ws = concat (map row_bytes r.rows) in
    let cs = concat (map column_fields r.columns) in
    let one = file_more [] 0 h (file_none c.args.out.now) refl (omega (arith, heading_size r)) c.heading_block.ensures c.write.ensures in
    let two = file_more (h ∷ []) 1 ws one refl c.block.ensures.room c.block.ensures.fields c.write-2.ensures in
    let all = file_more (h ∷ ws ∷ []) 2 cs two refl c.block-2.ensures.room c.block-2.ensures.fields c.write-3.ensures in
    entered_whole all c.requires
