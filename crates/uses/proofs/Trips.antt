-- The round trips in full: a file read and its record written, and a record written and its file read, with what each refusal hands back
-- and leaves.
use Prim.Native.Nat.{ℕ, zero, suc}
use native.Mathlib.Decide.{ℕ_discrete}
use native.Mathlib.Omega.{arith}
use borrow.Author.Tests.{eq-eqb, ne_eqb}
use mathlib.Core.Path.{◌≡◌, refl, sym, ap, ◌∙◌, subst}
use mathlib.Core.Bool.{cond, true≢false}
use mathlib.Core.List.{List, [], ◌∷◌}
use lib.Dec.{eqb}
use lib.ListN.{length, length-replicate}
use Rattle.std.specs.Prelude.{Result, Ok, Err, ⊤}
use Rattle.circuit.specs.Numbers.{Report, Rule, report, done, rule, judge, of, unless, handed}
use Rattle.circuit.specs.SetUp.{set_up_report}
use Rattle.circuit.specs.Record.{version_rule}
use Rattle.circuit.specs.File.{number_of, zeros, file_length, file_length_rule, file_of, file_rules, read_rules, read_report, buffer_after}
use Rattle.circuit.specs.Promises.{Reads, Writes}
use Rattle.circuit.specs.declared.Refusal.{Refusal}
use Rattle.circuit.specs.declared.Record.{Record}
use Rattle.laws.proofs.Trying.{told_above}
use Rattle.laws.proofs.Judging.{judge_fail, pass_done, judge_rest, judge_stop, judge_of, of_numbered, zero_pass, read_numbered}
use Rattle.laws.proofs.Counting.{unless_passes}
use Rattle.blocks.specs.Placing.{Bytes}
use Rattle.blocks.proofs.Judged.{judged_sound}
use Rattle.file.specs.Held.{Held}
use Rattle.file.proofs.Reported.{read_stop, write_stop, write_on}
use Rattle.file.proofs.RoundTrips.{read_then_written, written_then_read}
use Rattle.uses.specs.Promises.{RewriteCall, rewrite_rules, Rewrites, Rereads}

-- ---- reading, then writing

abbrev own_length : Rule RewriteCall
own_length = rule 1 (λ w. file_length_rule w.buffer)

module _ (w : RewriteCall) where
  read_first : ((read_report w.file).number ≡ 0 → ⊥) → judge rewrite_rules w ≡ read_report w.file
  unfolding rewrite_rules read_report
  read_first n =
      let same = judge_of (λ (v : RewriteCall). v.file) read_rules w in
      judge_stop (of (λ v. v.file) read_rules) (own_length ∷ []) w (rw same (omega arith)) ∙ same

  read_passed : (read_report w.file).number ≡ 0 → judge rewrite_rules w ≡ judge (own_length ∷ []) w
  unfolding rewrite_rules read_report
  read_passed e =
      let same = judge_of (λ (v : RewriteCall). v.file) read_rules w in
      judge_rest (of (λ v. v.file) read_rules) (own_length ∷ []) w
      (zero_pass (of (λ v. v.file) read_rules) w (of_numbered (λ (v : RewriteCall). v.file) read_rules read_numbered) (ap (λ s. s.number) same ∙ e))

  -- by what is handed back
  rewrites : (n : Report) → judge rewrite_rules w ≡ n → {a : Result ⊤ Refusal} {after : List ℕ} → handed a ≡ n → after ≡ cond (eqb n.number 0) w.file w.buffer → Rewrites w a after
  rewrites n e f g = record { number = f ∙ sym e; buffer = g ∙ sym (ap (λ m. cond (eqb m.number 0) w.file w.buffer) e) }

module _ {w : RewriteCall} where
  pub read_refused : {e : Refusal} → Reads w.file (Err e) → Rewrites w (Err e) w.buffer
  read_refused {e} read =
      let above = told_above e in
      let stop : (read_report w.file).number ≡ 0 → ⊥ = λ z. let same = ap (λ (n : Report). n.number) read.number in absurd (omega arith) in
      rewrites w (read_report w.file) (read_first w stop) read.number (sym (ap (λ b. cond b w.file w.buffer) (ne_eqb _ 0 stop)))

  module _ {r : Record} (read : Reads w.file (Ok r)) (bytes : Bytes w.file)
      {a : Result ⊤ Refusal} {after : List ℕ} (written : Writes (record { circuit = r; buffer = w.buffer }) a after) where
    accepted : (read_report w.file).number ≡ 0
    accepted = ap (λ (n : Report). n.number) (sym read.number)

    pub read_accepted : Rewrites w a after
    unfolding file_length_rule buffer_after
    read_accepted = by (ℕ_discrete (length w.buffer) file_length)
      where
        by : Dec (length w.buffer ≡ file_length) → Rewrites w a after
        by (yes q) =
            let same = read_then_written bytes read q written in
            rewrites w done (read_passed w accepted ∙ pass_done (own_length ∷ []) w (ap (λ b. unless b 0) (eq-eqb _ _ q), tt)) same.0 same.1
        by (no q) =
            let stop = write_stop (record { circuit = r; buffer = w.buffer }) q in
            rewrites w (report 1 0) (read_passed w accepted ∙ judge_fail own_length [] w 0 (ap (λ b. unless b 0) (ne_eqb _ _ q)))
            (written.number ∙ stop) (written.buffer ∙ ap (λ n. cond (eqb n.number 0) (file_of r) w.buffer) stop)

-- ---- writing, then reading

-- bytes that reading accepts pass their own rules
judged_first : (s : List ℕ) → (read_report s).number ≡ 0 → (judge file_rules s).number ≡ 0
judged_first s e = by (judge file_rules s).number refl
  where
    by : (n : ℕ) → (judge file_rules s).number ≡ n → (judge file_rules s).number ≡ 0
    by zero q = q
    by (suc n) q = absurd (let same = ap (λ (m : Report). m.number) (read_stop s (λ z. omega arith)) in omega arith)

-- the version of a blank page is 0
blank_refused : (read_report (zeros file_length)).number ≡ 0 → ⊥
unfolding number_of version_rule
blank_refused e = true≢false (sym (unless_passes _ 0 (judged_sound (zeros file_length) (judged_first (zeros file_length) e)).version))

module _ {r : Record} {page : List ℕ} (blank : page ≡ zeros file_length) {after : List ℕ} where
  reported : {a : Result ⊤ Refusal} → Writes (record { circuit = r; buffer = page }) a after → handed a ≡ set_up_report r
  reported written = written.number ∙ write_on (record { circuit = r; buffer = page }) (ap length blank ∙ length-replicate {A = ℕ} file_length 0)

  pub unwritten : {e : Refusal} → Writes (record { circuit = r; buffer = page }) (Err e) after → Rereads r (Err e)
  unwritten written = record { number = reported written; circuit = tt }

  pub rereads : Held r → Writes (record { circuit = r; buffer = page }) (Ok tt) after → {got : Result Record Refusal} → Reads after got → Rereads r got
  rereads held written {got} read =
      subst (Rereads r) (sym (written_then_read held written refl read)) (record { number = reported written; circuit = refl })

-- of a record, by what it has by its type
pub of_own : {q r : Record} {s : Result Record Refusal} → q ≡ r → Rereads q s → Rereads r s
of_own {s = s} same = subst (λ r. Rereads r s) same
