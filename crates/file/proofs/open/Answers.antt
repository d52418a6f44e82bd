-- The rules of the bytes first, then what set-up says of their record.
use Rattle.std.proofs.Common.{ap, ◌∙◌}
use Rattle.std.proofs.lemmas.Result.{err_from_is_err_and}
use Rattle.circuit.specs.SetUp.{set_up_rows}
use Rattle.file.proofs.Reported.{bytes_refused, bytes_passed, record_kept}
use Rattle.file.proofs.open.Goals as goal

pub returns-in_err-circuit : goal.returns-in_err-circuit
returns-in_err-circuit c =
    let p = err_from_is_err_and c.from_residual.result c.from_residual.ensures.1 in
    rw (p.1, p.2) (record { number = bytes_refused c.args.s.now _ c.in_err-circuit.ensures.number; circuit = tt; rows = tt })

pub returns-in_err-rows : goal.returns-in_err-rows
returns-in_err-rows c =
    let p = err_from_is_err_and c.from_residual-in_err-rows.result c.from_residual-in_err-rows.ensures.1 in
    rw (p.1, p.2) (record {
      number = bytes_passed c.args.s.now c.in_ok-circuit.ensures.number c.in_ok-circuit.ensures.circuit c.in_err-rows.ensures.number;
      circuit = tt;
      rows = tt;
    })

pub returns : goal.returns
returns c =
    let s = c.args.s.now in
    let read = c.in_ok-circuit.ensures in
    let set_up = c.in_ok-rows.ensures in
    let number = bytes_passed s read.number read.circuit set_up.number in
    let same = record_kept s number read.circuit in
    record { number = number; circuit = same; rows = set_up.rows ∙ ap set_up_rows same }
