-- The outputs that are written lie within the room, and no more bytes are carried on than can be left over.
use Rattle.std.proofs.Common.{sym, arith}
use lib.Seq.{length-take-le}
use Rattle.take.proofs.Pieces.{outputs_inside, few_left}
use Rattle.take.proofs.work.Goals as goal

pub overflow_mul-fed : goal.overflow_mul-fed
overflow_mul-fed c = omega (arith, outputs_inside c.feed-fed.ensures)

pub slice_bounds-write_all-end : goal.slice_bounds-write_all-end
slice_bounds-write_all-end c = outputs_inside c.feed-fed.ensures

pub slice_bounds-write_all-end-2 : goal.slice_bounds-write_all-end-2
slice_bounds-write_all-end-2 c = sym (length-take-le _ _ (outputs_inside c.feed-fed.ensures))

pub returns : goal.returns
returns c = few_left c.feed-fed.ensures c.requires
