-- What is said of a file's bytes, rule by rule.
use mathlib.Core.Path.{◌≡◌, refl, ap}
use Prim.Native.Nat.{ℕ, ◌/◌, ◌<◌}
use borrow.Author.Tests.{eqb-true, eq-eqb, not-false}
use mathlib.Core.Bool.{Bool, true, false, not}
use mathlib.Core.List.{List, [], ◌∷◌}
use lib.Dec.{lit<}
use lib.ListN.{length}
use Rattle.circuit.specs.Counting.{between}
use Rattle.circuit.specs.Numbers.{Report, report, done, Rule, rule, judge, unless, passes}
use Rattle.circuit.specs.Record.{last_version, version_rule}
use Rattle.circuit.specs.File.{file_length, block_length, check_place, number_at, check_of, file_length_rule, block_at, wrong_check, check_rule, clear_file, unused_bytes_rule, file_rules}
use Rattle.laws.proofs.Counting.{unless_passes, lowest_passes, passes_lowest}
use Rattle.laws.specs.Numbered.{numbered}
use Rattle.laws.proofs.Judging.{Numbered, pass_done, zero_pass}
use Rattle.laws.proofs.Trying.{passed_first}

pub file_numbered : Numbered file_rules
unfolding file_rules
file_numbered = (lit< tt, (lit< tt, (lit< tt, (lit< tt, tt))))

-- ---- a rule that is one test

pub test_passes : (n : ℕ) {b : Bool} → b ≡ true → done ≡ numbered n (unless b 0)
test_passes n e = rw e refl

pub test_fails : (n : ℕ) {b : Bool} → b ≡ false → report n 0 ≡ numbered n (unless b 0)
test_fails n e = rw e refl

-- ---- the rules that are left, past each that passes

abbrev from_unused : List (Rule (List ℕ))
from_unused = rule 4 unused_bytes_rule ∷ []

abbrev from_version : List (Rule (List ℕ))
from_version = rule 3 (λ s. version_rule (number_at 2 0 s)) ∷ from_unused

abbrev from_checks : List (Rule (List ℕ))
from_checks = rule 2 check_rule ∷ from_version

module _ (s : List ℕ) (long : length s ≡ file_length) where
  pub past_length : {m : Report} → m ≡ judge from_checks s → m ≡ judge file_rules s
  unfolding file_rules file_length_rule
  past_length later = passed_first 0 file_length_rule from_checks s (test_passes 1 (eq-eqb _ _ long)) later

  module _ (right : done ≡ numbered 2 (check_rule s)) where
    pub past_checks : {m : Report} → m ≡ judge from_version s → m ≡ judge file_rules s
    past_checks later = past_length (passed_first 1 check_rule from_version s right later)

    pub past_version : {m : Report} → between 1 last_version (number_at 2 0 s) ≡ true → m ≡ judge from_unused s → m ≡ judge file_rules s
    unfolding version_rule
    past_version listed later = past_checks (passed_first 2 (λ s. version_rule (number_at 2 0 s)) from_unused s (test_passes 3 listed) later)

-- ---- bytes that pass

pub judged_length : (s : List ℕ) → (judge file_rules s).number ≡ 0 → length s ≡ file_length
unfolding file_rules file_length_rule
judged_length s e = eqb-true (length s) file_length (unless_passes _ 0 (zero_pass file_rules s file_numbered e).0)

-- what accepted bytes are
pub record Sound (s : List ℕ) : Type 0 where
  pub long : length s ≡ file_length
  pub right : (k : ℕ) → k < length s / block_length → number_at 4 check_place (block_at k s) ≡ check_of k (block_at k s)
  pub version : version_rule (number_at 2 0 s) ≡ passes
  pub clear : clear_file s ≡ true

pub judged_sound : (s : List ℕ) → (judge file_rules s).number ≡ 0 → Sound s
unfolding file_rules file_length_rule check_rule unused_bytes_rule
judged_sound s e =
    let p = zero_pass file_rules s file_numbered e in
    record {
      long = judged_length s e;
      right = λ k h. eqb-true _ _ (not-false _ (lowest_passes (wrong_check s) _ p.1.0 k h));
      version = p.1.1.0;
      clear = unless_passes _ 0 p.1.1.1.0;
    }

pub sound_judged : (s : List ℕ) → Sound s → (judge file_rules s).number ≡ 0
unfolding file_rules file_length_rule check_rule unused_bytes_rule
sound_judged s h =
    ap (λ n. n.number)
    (pass_done file_rules s (
      ap (λ b. unless b 0) (eq-eqb _ _ h.long),
      (
        passes_lowest (wrong_check s) _ (λ k l. ap not (eq-eqb _ _ (h.right k l))),
        (h.version, (ap (λ b. unless b 0) h.clear, tt)),
      ),
    ))
