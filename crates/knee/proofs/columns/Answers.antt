-- The columns of a table.
use Rattle.std.proofs.Common.{rules}
use lib.IntN.{pos}
use Rattle.laws.proofs.Made.{made}
use Rattle.knee.proofs.columns.Goals as goal

pub returns : goal.returns
returns c = made _ _ _ _ (λ i y q l k. search rules) _ (record { x = pos 0; y = pos 0 }) c.from_fn.ensures.items
