-- Length first, then what set-up says; the blocks are written only where nothing is refused.
use Rattle.std.proofs.Common.{sym, ap, ◌∙◌, eq-eqb}
use Rattle.std.proofs.lemmas.Result.{err_from_is_err_and}
use Rattle.circuit.specs.Numbers.{Report, told}
use Rattle.circuit.specs.File.{WriteCall}
use Rattle.circuit.specs.declared.Refusal.TheVariants.{Length}
use Rattle.file.proofs.Reported.{write_stop, write_on, buffer_written, refused_left}
use Rattle.file.proofs.write.Goals as goal

pub returns-then-out-ne-FILE_LENGTH : goal.returns-then-out-ne-FILE_LENGTH
unfolding told
returns-then-out-ne-FILE_LENGTH c =
    let w : WriteCall = record { circuit = c.args.r.now; buffer = c.args.out.now } in
    let number = sym (write_stop w c.if-out-ne-FILE_LENGTH.true) in
    record { number = number; buffer = refused_left w Length number }

pub returns-in_err-set_up : goal.returns-in_err-set_up
returns-in_err-set_up c =
    let w : WriteCall = record { circuit = c.args.r.now; buffer = c.args.out.now } in
    let p = err_from_is_err_and c.from_residual.result c.from_residual.ensures.1 in
    let number = c.in_err-set_up.ensures.number ∙ sym (write_on w c.if-out-ne-FILE_LENGTH.false) in
    rw (p.1, p.2) (record { number = number; buffer = refused_left w _ number })

pub returns : goal.returns
returns c =
    let w : WriteCall = record { circuit = c.args.r.now; buffer = c.args.out.now } in
    let long = c.if-out-ne-FILE_LENGTH.false in
    let number = c.in_ok-set_up.ensures.number ∙ sym (write_on w long) in
    record {
      number = number;
      buffer = c.write.ensures ∙ rw (eq-eqb _ _ long) (sym (buffer_written w (ap (λ (m : Report). m.number) (sym number))));
    }
