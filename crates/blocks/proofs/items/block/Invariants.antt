-- The loop has placed the first i items, one after another, in a new block.
use Rattle.blocks.proofs.Pieces.{Pieces}
use Rattle.blocks.proofs.items.block.Given as goal

abbrev pub invariant-loop-i : goal.invariant-loop-i
invariant-loop-i g l = Pieces g.T.Item.bytes_of g.T.Item.LENGTH l.items l.b l.i
