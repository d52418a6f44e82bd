-- Where there is a cut, what the two calls promise is what one does.
use Rattle.std.proofs.Common.{◌≡◌, length, sym, ◌∙◌, drop, arith}
use mathlib.Core.Path.{ap₂, subst}
use lib.Seq.{length-take-le}
use Rattle.circuit.specs.Take.{feeding}
use Rattle.circuit.specs.Promises.{Feeds}
use Rattle.takes.specs.Own.{room_for}
use Rattle.takes.proofs.Bytes.{left_sized}
use Rattle.uses.proofs.Cut.{rest, rest_after, put_after}
use Rattle.uses.proofs.CutTake.{Cuttable, cuttable, done_inside, both_done}
use Rattle.uses.proofs.feed_in_two.Goals as goal
use Rattle.uses.proofs.feed_in_two.Goals.{After-feed-first, After-feed-second}

-- ---- the first call

told : (c : After-feed-first) → let a = c.args in Cuttable a.carried a.bytes.now a.out.now a.at
told c = cuttable (left_sized c.args.carried _ c.well_formed.1.0) c.can_cut.ensures c.if-not-can_cut.false

filled : (c : After-feed-first) → length c.feed-first.new.out ≡ room_for c.args.at c.args.carried
filled c =
    let t = told c in
    c.feed-first.auto.out ∙ length-take-le _ c.args.out.now (omega (arith, t.room, t.inside))

-- ---- the second

second : (c : After-feed-second)
    → let a = c.args in
    let cut = room_for a.at a.carried in
    length c.feed-first.new.out ≡ cut
    → Feeds (feeding a.r.now c.feed-first.result.carried (drop a.at a.bytes.now) (drop cut a.out.now)) c.feed-second.result c.feed-second.new.out
second c size =
    let a = c.args in
    let cut = room_for a.at a.carried in
    subst (λ f. Feeds f c.feed-second.result c.feed-second.new.out)
    (ap₂ (feeding a.r.now c.feed-first.result.carried) (rest a.at a.bytes.now) (rest_after cut c.feed-first.new.out (drop cut a.out.now) size))
    c.feed-second.ensures

pub overflow_add-result : goal.overflow_add-result
overflow_add-result c =
    let at = goal.at.overflow_add-result c in
    let once = at.After-feed-first in
    omega (arith, done_inside _ (told once) c.feed-first.ensures (second at.After-feed-second (filled once)))

pub returns : goal.returns
returns c =
    let at = goal.at.returns c in
    let once = at.After-feed-first in
    let a = c.args in
    let cut = room_for a.at a.carried in
    subst (Feeds (feeding a.r.now a.carried a.bytes.now a.out.now) _)
    (sym (put_after cut c.feed-first.new.out (drop cut a.out.now) (filled once) c.feed-second.new.out))
    (both_done _ (told once) c.feed-first.ensures (second at.After-feed-second (filled once)) _ c.last_segment.ensures)
