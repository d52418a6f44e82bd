-- The columns of a knob that rule 18 passes, and the refusal of any other.
use Rattle.std.proofs.Common.{◌≡◌, true, false, sym, ◌∙◌, rules}
use Rattle.circuit.specs.Numbers.{told}
use Rattle.circuit.specs.Knee.{built_kind, built_width, built_columns, sound_knob}
use Rattle.laws.proofs.Knee.{report_built, report_refused, if_built_lem}
use Rattle.knee.proofs.build.Goals as goal

pub returns-in_default : goal.returns-in_default
unfolding told
returns-in_default c =
    let e : sound_knob c.args.knob ≡ false = search rules in
    record { number = sym (report_refused c.args.knob e); kind = tt; width = tt; columns = tt }

pub returns : goal.returns
unfolding built_kind built_width built_columns
returns c =
    let k = c.args.knob in
    let same : c.in-Some.sound.knob ≡ k = search rules in
    let e : sound_knob k ≡ true = rw same at c.in-Some.sound.passed in
    record {
      number = sym (report_built k e);
      kind = sym (if_built_lem k _ _ e);
      width = sym (if_built_lem k _ _ e);
      columns = rw same at c.columns.ensures ∙ sym (if_built_lem k _ _ e);
    }
