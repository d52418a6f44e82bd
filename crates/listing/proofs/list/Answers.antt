-- The lines of the record where the file is opened, and else the line of its refusal.
use Rattle.std.proofs.Common.{◌∙◌}
use Rattle.listing.proofs.Reading.{set_up_accepts, listing_accepted, listing_refused, lists}
use Rattle.listing.proofs.list.Goals as goal

pub accepted-requires-clause-accepted : goal.accepted-requires-clause-accepted
accepted-requires-clause-accepted c = set_up_accepts c.args.s.now (rw c.in-Ok.is at c.open.ensures)

pub returns-in-Ok : goal.returns-in-Ok
returns-in-Ok c =
    let h = rw c.in-Ok.is at c.open.ensures in
    lists h.number (c.accepted.ensures ∙ listing_accepted c.args.s.now h) c.put.ensures.size c.put.ensures.bytes

pub returns-in-Err : goal.returns-in-Err
returns-in-Err c =
    let h = rw c.in-Err.is at c.open.ensures in
    lists h.number (c.refused.ensures ∙ listing_refused c.args.s.now h) c.put-in-Err.ensures.size c.put-in-Err.ensures.bytes
