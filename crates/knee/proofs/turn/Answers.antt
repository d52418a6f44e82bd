-- What the buffer refuses, then what reading does, then what building does, and else what writing leaves.
use Rattle.std.proofs.Common.{◌≡◌, Err, rules}
use Rattle.circuit.specs.Knee.{turning}
use Rattle.knee.proofs.Turning.{roomless, unread, unbuilt, turned}
use Rattle.knee.proofs.turn.Goals as goal

pub returns-then-out-ne-FILE_LENGTH : goal.returns-then-out-ne-FILE_LENGTH
returns-then-out-ne-FILE_LENGTH c = roomless (turning _ _ _) c.if-out-ne-FILE_LENGTH.true

pub returns-in_err-circuit : goal.returns-in_err-circuit
returns-in_err-circuit c =
    let told : c.from_residual.result ≡ Err c.in_err-circuit.field-0.0 = search rules in
    rw told (unread (turning _ _ _) c.if-out-ne-FILE_LENGTH.false c.in_err-circuit.ensures)

pub returns-in_err-built : goal.returns-in_err-built
returns-in_err-built c =
    let told : c.from_residual-in_err-built.result ≡ Err c.in_err-built.field-0.0 = search rules in
    rw told (unbuilt (turning _ _ _) c.if-out-ne-FILE_LENGTH.false c.in_ok-circuit.ensures c.in_err-built.ensures)

pub returns : goal.returns
returns c =
    turned (turning _ _ _) c.if-out-ne-FILE_LENGTH.false c.in_ok-circuit.ensures c.in_ok-built.ensures (rw c.put-turned.ensures at c.write.ensures)
