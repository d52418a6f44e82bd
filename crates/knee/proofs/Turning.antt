-- What turning the knob of a file hands back and leaves: 1 of the buffer, then what reading hands back, then 18. An accepted circuit is still
-- accepted with the curve that is built, so that writing it hands back nothing else.
use Prim.Native.Nat.{ℕ}
use native.Mathlib.Omega.{arith}
use borrow.Author.Tests.{eq-eqb, ne_eqb}
use mathlib.Core.Path.{◌≡◌, sym, ap, ◌∙◌}
use mathlib.Core.Bool.{cond}
use mathlib.Core.List.{List, [], ◌∷◌}
use lib.Dec.{eqb}
use lib.ListN.{length}
use Rattle.std.specs.Prelude.{Result, Ok, Err, ⊤}
use Rattle.circuit.specs.Numbers.{report, done, rule, judge, of, unless, told}
use Rattle.circuit.specs.SetUp.{set_up_report}
use Rattle.circuit.specs.File.{file_length, file_length_rule, file_of, record_of, read_rules, read_report, write_report}
use Rattle.circuit.specs.Knee.{voltage_rule, build_report, with_curve, with_knee, Turning, turn_rules, turn_report, buffer_turned}
use Rattle.circuit.specs.Promises.{Builds, Reads, Writes, Turns}
use Rattle.circuit.specs.declared.Refusal.{Refusal}
use Rattle.circuit.specs.declared.Refusal.TheVariants.{Length}
use Rattle.circuit.specs.declared.Built.{Built}
use Rattle.circuit.specs.declared.Record.{Record}
use Rattle.laws.proofs.Judging.{◌or_else◌, else_next, else_first, judge_pass, judge_fail, judge_of, judge_of_append, read_numbered}
use Rattle.laws.proofs.Knee.{report_built}
use Rattle.laws.proofs.Trying.{told_above}
use Rattle.file.proofs.Reported.{read_judged, read_on, record_read, write_on, buffer_written}
use Rattle.theorems.specs.Knee.{put_in}
use Rattle.theorems.proofs.Knee.{done_sound, still_accepted}

module _ (t : Turning) where
  abbrev room : Type 0
  room = length t.buffer ≡ file_length

  no_room : (room → ⊥) → turn_report t ≡ report 1 0
  unfolding turn_report turn_rules file_length_rule
  no_room e = judge_fail _ _ t 0 (ap (λ b. unless b 0) (ne_eqb _ _ e))

  with_room : room → turn_report t ≡ read_report t.file or_else build_report t.knob
  unfolding turn_report turn_rules file_length_rule read_report build_report of
  with_room e =
      judge_pass _ _ t (ap (λ b. unless b 0) (eq-eqb _ _ e))
      ∙ judge_of_append (λ v. v.file) read_rules _ t read_numbered
      ∙ ap (λ n. judge read_rules t.file or_else n) (judge_of (λ v. v.knob) (rule 18 voltage_rule ∷ []) t)

  refused : (e : Refusal) → told e ≡ turn_report t → Turns t (Err e) t.buffer
  unfolding buffer_turned
  refused e same =
      let above = told_above e in
      record { number = same; buffer = rw (← same, ne_eqb (told e).number 0 (λ z. omega arith)) }

  pub roomless : (room → ⊥) → Turns t (Err Length) t.buffer
  unfolding told
  roomless e = refused Length (sym (no_room e))

  module _ (e : room) where
    pub unread : {d : Refusal} → Reads t.file (Err d) → Turns t (Err d) t.buffer
    unread {d} read =
        let above = told_above d in
        refused d (read.number ∙ sym (with_room e ∙ else_first _ _ (rw (← read.number) above)))

    module _ {r : Record} (read : Reads t.file (Ok r)) where
      none : (read_report t.file).number ≡ 0
      none = ap (λ n. n.number) (sym read.number)

      on : turn_report t ≡ build_report t.knob
      on = with_room e ∙ else_next _ _ none

      pub unbuilt : {d : Refusal} → Builds t.knob (Err d) → Turns t (Err d) t.buffer
      unbuilt {d} built = refused d (built.number ∙ sym on)

      module _ {b : Built} (built : Builds t.knob (Ok b)) {a : Result ⊤ Refusal} {after : List ℕ}
          (written : Writes (record { circuit = put_in r b; buffer = t.buffer }) a after) where
        held : r ≡ record_of t.file
        held = read.circuit ∙ record_read t.file none

        accepted : (set_up_report r).number ≡ 0
        accepted = ap (λ r. (set_up_report r).number) held ∙ ap (λ n. n.number) (sym (read_on t.file (read_judged t.file none))) ∙ none

        write_done : write_report (record { circuit = put_in r b; buffer = t.buffer }) ≡ done
        write_done = write_on (record { circuit = put_in r b; buffer = t.buffer }) e ∙ still_accepted t.knob b built r accepted

        turn_done : turn_report t ≡ done
        turn_done = on ∙ report_built t.knob (done_sound t.knob built)

        same : put_in r b ≡ with_knee (record_of t.file) t.knob
        same = λ i. with_curve (held i) (built.kind i) (built.width i) (built.columns i)

        pub turned : Turns t a after
        unfolding buffer_turned
        turned = record {
          number = written.number ∙ write_done ∙ sym turn_done;
          buffer = written.buffer ∙ buffer_written _ (ap (λ n. n.number) write_done) ∙ ap file_of same
              ∙ sym (ap (λ n. cond (eqb n.number 0) (file_of (with_knee (record_of t.file) t.knob)) t.buffer) turn_done);
        }
