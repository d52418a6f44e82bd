-- Each item is read at its place.
use Rattle.std.proofs.Common.{[], ◌+◌, ◌*◌, rules}
use Rattle.laws.proofs.Made.{made}
use Rattle.blocks.proofs.items.items.Goals as goal

pub returns : goal.returns
returns g c =
    let t = g.T.Item in
    made _ _ (λ i. t.read_at (t.START + t.LENGTH * i) c.args.s.now) _ (λ i y q l k. search rules) _ (t.read_at 0 []) c.from_fn.ensures.items
