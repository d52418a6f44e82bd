-- What each group of rules answers is set-up's answer, and where all pass the filled rows are the prepared ones.
use Rattle.std.proofs.Common.{sym, ◌∙◌}
use Rattle.std.proofs.lemmas.Result.{IfOk-from_err}
use Rattle.circuit.specs.Numbers.{told}
use Rattle.laws.proofs.Accepting.{accepting}
use Rattle.laws.proofs.Trying.{handed_on}
use Rattle.setup.proofs.Judged.{version_refused, version_accepted, record_refused, record_passed, record_shows, accepted_rows}
use Rattle.setup.proofs.Rows.{rows_prepared}
use Rattle.setup.proofs.set_up.Goals as goal

pub returns-then-not-is_version : goal.returns-then-not-is_version
unfolding told
returns-then-not-is_version c = record { number = sym (version_refused _ (sym c.is_version.ensures ∙ c.if-not-is_version.true)); rows = tt }

pub returns-in_err-judge_record : goal.returns-in_err-judge_record
returns-in_err-judge_record c =
    let version = version_accepted c.args.r.now (sym c.is_version.ensures ∙ c.if-not-is_version.false) in
    record {
      number = handed_on _ _ c.from_residual.ensures.1 ∙ record_refused _ version _ c.in_err-judge_record.ensures;
      rows = IfOk-from_err _ _ c.from_residual.ensures.0;
    }

pub returns-in_err-judge : goal.returns-in_err-judge
returns-in_err-judge c =
    let version = version_accepted c.args.r.now (sym c.is_version.ensures ∙ c.if-not-is_version.false) in
    let handed = c.from_residual-in_err-judge.ensures in
    record {
      number = handed_on _ _ handed.1 ∙ record_passed _ version c.in_ok-judge_record.ensures c.in_err-judge.ensures;
      rows = IfOk-from_err _ _ handed.0;
    }

pub returns : goal.returns
returns c =
    let r = c.args.r.now in
    let version = version_accepted r (sym c.is_version.ensures ∙ c.if-not-is_version.false) in
    let same = record_passed r version c.in_ok-judge_record.ensures c.in_ok-judge.ensures in
    let filled = c.filled_rows-rows.ensures in
    let accepted = accepting r filled.sized (sym same) in
    let rooted = record_shows r filled.sized (sym c.in_ok-judge_record.ensures) in
    record { number = same; rows = rows_prepared r rooted _ filled.rows accepted.ratio ∙ accepted_rows r (sym same) }
