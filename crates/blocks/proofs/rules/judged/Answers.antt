-- Each rule is told where those before it pass.
use Rattle.std.proofs.Common.{[], ap, sym, ◌∙◌, rules}
use Rattle.circuit.specs.Counting.{between}
use Rattle.circuit.specs.Numbers.{told}
use Rattle.circuit.specs.Record.{last_version, version_rule}
use Rattle.circuit.specs.File.{check_rule, unused_bytes_rule}
use Rattle.circuit.specs.declared.Refusal.TheVariants.{Version, Form}
use Rattle.laws.proofs.Judging.{pass_done}
use Rattle.laws.proofs.Trying.{handed_on, refused_first, passed_first}
use Rattle.blocks.proofs.Judged.{test_passes, test_fails, past_length, past_checks, past_version}
use Rattle.blocks.proofs.rules.judged.Goals as goal

pub returns-in_err-wrong_check : goal.returns-in_err-wrong_check
returns-in_err-wrong_check c =
    handed_on _ _ c.from_residual.ensures.1
    ∙ past_length c.args.s.now (search rules) (refused_first 2 check_rule _ _ _ c.in_err-wrong_check.ensures)

pub returns-then-not-is_version : goal.returns-then-not-is_version
unfolding told version_rule
returns-then-not-is_version c =
    past_checks c.args.s.now (search rules) c.in_ok-wrong_check.ensures
    (refused_first 3 _ _ _ Version (test_fails 3 (ap (between 1 last_version) (sym c.pair.ensures) ∙ sym c.if-not-is_version.ensures)))

pub returns-then-not-is_clear_file : goal.returns-then-not-is_clear_file
unfolding told unused_bytes_rule
returns-then-not-is_clear_file c =
    past_version c.args.s.now (search rules) c.in_ok-wrong_check.ensures
    (ap (between 1 last_version) (sym c.pair.ensures) ∙ sym c.if-not-is_version.ensures)
    (refused_first 4 unused_bytes_rule _ _ Form (test_fails 4 (sym c.if-not-is_clear_file.ensures)))

pub returns : goal.returns
unfolding unused_bytes_rule
returns c =
    past_version c.args.s.now (search rules) c.in_ok-wrong_check.ensures
    (ap (between 1 last_version) (sym c.pair.ensures) ∙ sym c.if-not-is_version.ensures)
    (passed_first 3 unused_bytes_rule _ _ (test_passes 4 (sym c.if-not-is_clear_file.ensures)) (sym (pass_done [] _ tt)))
