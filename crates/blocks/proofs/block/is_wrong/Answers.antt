-- The block is the part of a block's length that begins at as many times that length as its number says.
use Rattle.std.proofs.Common.{◌≡◌, ◌+◌, ◌-◌, ◌*◌, arith}
use Rattle.circuit.specs.File.{block_length}
use Rattle.blocks.proofs.block.is_wrong.Goals as goal

pub returns : goal.returns
returns c =
    let at = block_length * c.args.k in
    let e : at + block_length - at ≡ block_length = omega arith in
    rw (c.word.ensures, c.check_of.ensures, e)
