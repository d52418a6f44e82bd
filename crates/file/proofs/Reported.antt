-- What reading and writing hand back, step by step: the rules of the bytes first, then set-up's.
use mathlib.Core.Path.{◌≡◌, refl, sym, ap, ◌∙◌}
use Prim.Native.Nat.{ℕ, zero, suc}
use native.Mathlib.Decide.{ℕ_discrete}
use native.Mathlib.Omega.{arith}
use borrow.Author.Tests.{eq-eqb, ne_eqb}
use mathlib.Core.List.{List}
use lib.ListN.{length, replicate}
use Rattle.circuit.specs.Numbers.{Report, report, done, judge, unless, told}
use Rattle.circuit.specs.Record.{row_limit, version_rule}
use Rattle.circuit.specs.SetUp.{nothing, circuit_rules, set_up_rules, set_up_report, set_up_rows}
use Rattle.circuit.specs.File.{file_length, file_of, no_record, record_of, file_length_rule, file_rules, read_rules, read_report, read_record, WriteCall, write_rules, write_report, buffer_after}
use Rattle.circuit.specs.declared.Refusal.{Refusal}
use Rattle.circuit.specs.declared.Record.{Record}
use Rattle.laws.proofs.Judging.{judge_pass, judge_fail, judge_rest, judge_stop, judge_of, zero_pass, version_passed}
use Rattle.laws.proofs.Trying.{told_above}
use Rattle.blocks.proofs.Judged.{file_numbered}

-- ---- reading

-- the record of zeros is refused, for its version
none_prepared : set_up_rows no_record ≡ replicate row_limit nothing
unfolding set_up_rows set_up_report set_up_rules judge version_rule no_record
none_prepared = refl

module _ (s : List ℕ) where
  -- the bytes are refused
  pub read_stop : ((judge file_rules s).number ≡ 0 → ⊥) → read_report s ≡ judge file_rules s
  unfolding read_report read_rules file_rules
  read_stop e = judge_stop file_rules _ s (omega arith)

  -- the bytes are accepted
  pub read_on : (judge file_rules s).number ≡ 0 → read_report s ≡ set_up_report (record_of s)
  unfolding read_report read_rules file_rules record_of
  read_on e =
      let p = zero_pass file_rules s file_numbered e in
      judge_rest file_rules _ s p ∙ judge_of record_of circuit_rules s ∙ sym (version_passed (record_of s) p.1.1.0)

  pub record_read : (read_report s).number ≡ 0 → read_record s ≡ record_of s
  unfolding read_record
  record_read e = rw (eq-eqb _ _ e)

  -- a refusal of the bytes is one of the file
  pub bytes_refused : (e : Refusal) → told e ≡ judge file_rules s → told e ≡ read_report s
  bytes_refused e f = f ∙ sym (read_stop (λ z. let above = told_above e in let same = ap (λ (m : Report). m.number) f in omega arith))

  -- past the bytes, what set-up says of their record is what reading says
  pub bytes_passed : {r : Record} {m : Report} → done ≡ judge file_rules s → r ≡ record_of s → m ≡ set_up_report r → m ≡ read_report s
  bytes_passed e f g = g ∙ ap set_up_report f ∙ sym (read_on (ap (λ (m : Report). m.number) (sym e)))

  -- and where nothing is refused, the record is theirs
  pub record_kept : {r : Record} → done ≡ read_report s → r ≡ record_of s → r ≡ read_record s
  record_kept e f = f ∙ sym (record_read (ap (λ (m : Report). m.number) (sym e)))

  -- where reading hands back 0, the bytes are accepted
  pub read_judged : (read_report s).number ≡ 0 → (judge file_rules s).number ≡ 0
  read_judged e = by (judge file_rules s).number refl
    where
      by : (n : ℕ) → (judge file_rules s).number ≡ n → (judge file_rules s).number ≡ 0
      by zero q = q
      by (suc n) q = absurd (let r = ap (λ m. m.number) (read_stop (λ z. omega arith)) in omega arith)

-- ---- writing

module _ (w : WriteCall) where
  pub write_stop : (length w.buffer ≡ file_length → ⊥) → write_report w ≡ report 1 0
  unfolding write_report write_rules file_length_rule
  write_stop e = judge_fail _ _ w 0 (ap (λ b. unless b 0) (ne_eqb _ _ e))

  pub write_on : length w.buffer ≡ file_length → write_report w ≡ set_up_report w.circuit
  unfolding write_report write_rules file_length_rule set_up_report
  write_on e = judge_pass _ _ w (ap (λ b. unless b 0) (eq-eqb _ _ e)) ∙ judge_of (λ v. v.circuit) set_up_rules w

  -- where writing hands back 0, the buffer has a file's length
  pub written_length : write_report w ≡ done → length w.buffer ≡ file_length
  written_length e = by (ℕ_discrete (length w.buffer) file_length)
    where
      by : Dec (length w.buffer ≡ file_length) → length w.buffer ≡ file_length
      by (yes q) = q
      by (no q) = absurd (let z : ◌≡◌ {A = ℕ} 1 0 = ap (λ m. m.number) (sym (write_stop q) ∙ e) in omega arith)

  pub buffer_written : (write_report w).number ≡ 0 → buffer_after w ≡ file_of w.circuit
  unfolding buffer_after
  buffer_written e = rw (eq-eqb _ _ e)

  -- a refusal leaves the buffer as it was
  pub refused_left : (e : Refusal) → told e ≡ write_report w → w.buffer ≡ buffer_after w
  unfolding buffer_after
  refused_left e f =
      sym (rw (ne_eqb (write_report w).number 0 (λ z. let above = told_above e in let same = ap (λ (m : Report). m.number) f in omega arith)) refl)
