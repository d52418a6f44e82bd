-- Set-up's refusal where it has one, and rule 12's else.
use Rattle.std.proofs.Common.{◌≡◌, replicate, sym, ap, ◌∙◌}
use Rattle.std.specs.Float.Ieee.{of_int, of_bits}
use Rattle.circuit.specs.Numbers.{Report, done, judge, told}
use Rattle.circuit.specs.Record.{row_limit}
use Rattle.circuit.specs.Run.{stored_waves_rule, Charged, charged_rules}
use Rattle.circuit.specs.SetUp.{set_up_report, set_up_rows}
use Rattle.circuit.specs.declared.Refusal.{Refusal}
use Rattle.laws.specs.Numbered.{numbered}
use Rattle.laws.proofs.Charging.{waves_rules, charged_judged}
use Rattle.laws.proofs.Judging.{else_next, else_first}
use Rattle.laws.proofs.Trying.{told_above, refused_else, last_judged}
use Rattle.charge.proofs.check.Goals as goal

module _ (k : Charged) where
  set_up_refused : (e : Refusal) → told e ≡ set_up_report k.circuit → told e ≡ judge charged_rules k
  set_up_refused e same = same ∙ sym (charged_judged k ∙ else_first _ _ (rw same at (told_above e)))

  set_up_passed : done ≡ set_up_report k.circuit → {m : Report} → m ≡ judge waves_rules k → m ≡ judge charged_rules k
  set_up_passed none same = same ∙ sym (charged_judged k ∙ else_next _ _ (ap (λ m. m.number) (sym none)))

pub returns-in-Err-clause-charges : goal.returns-in-Err-clause-charges
unfolding set_up_rows of_int of_bits
returns-in-Err-clause-charges c = record {
  number = set_up_refused _ _ c.in-Err.ensures.number;
  rows = refused_else _ c.in-Err.ensures.number _ _;
}

-- set-up passes, and rule 12 has the last word
waves_told : (k : Charged) {m : Report} → done ≡ set_up_report k.circuit → m ≡ numbered 12 (stored_waves_rule k.circuit k.waves) → m ≡ judge charged_rules k
waves_told k none same = set_up_passed k none (same ∙ last_judged 12 (λ (k : Charged). stored_waves_rule k.circuit k.waves) k)

pub returns-in-Err-stored_waves-clause-charges : goal.returns-in-Err-stored_waves-clause-charges
returns-in-Err-stored_waves-clause-charges c = record {
  number = waves_told _ c.in-Ok.ensures.number c.in-Err-stored_waves.ensures.told;
  rows = c.in-Ok.ensures.rows;
}

pub returns-in-Ok-stored_waves-clause-charges : goal.returns-in-Ok-stored_waves-clause-charges
returns-in-Ok-stored_waves-clause-charges c = record {
  number = waves_told _ c.in-Ok.ensures.number c.in-Ok-stored_waves.ensures.told;
  rows = c.in-Ok.ensures.rows;
}
