-- A turn places item i, and at the end all are placed.
use Rattle.std.proofs.Common.{◌≡◌, ℕ, [], ◌*◌, ap, ◌∙◌, length, arith, rules}
use Rattle.blocks.proofs.Pieces.{pieces_none, pieces_more, pieces_all, pieces_length}
use Rattle.blocks.proofs.items.block.Goals as goal

pub loop-i-init : goal.loop-i-init
loop-i-init g c = pieces_none

pub loop-i-preserved : goal.loop-i-preserved
loop-i-preserved g c = pieces_more c.loop-i.invariant g.met.T.Item.long _ (omega arith) (rw c.LENGTH.ensures at c.put.ensures) c.put.auto.b

pub returns-clause-fields : goal.returns-clause-fields
returns-clause-fields g c = pieces_all c.loop-i.invariant (omega arith)

pub returns-clause-room : goal.returns-clause-room
returns-clause-room g c =
    let t = g.T.Item in
    let n : length c.args.items.now ≡ g.row.N = search rules in
    omega (arith, c.requires, pieces_length t.bytes_of t.LENGTH (t.read_at 0 []) c.args.items.now (λ i l. g.met.T.Item.long _) ∙ ap (λ (k : ℕ). t.LENGTH * k) n)
