-- Laws of a circuit with its stored waves: which of 3 to 12 decides it, and what it is where none does.
use Prim.Native.Nat.{◌<◌}
use mathlib.Core.Path.{◌≡◌}
use mathlib.Core.List.{List, [], ◌∷◌}
use lib.Dec.{lit<}
use Rattle.circuit.specs.Numbers.{done, passes, Rule, rule, judge, of}
use Rattle.circuit.specs.Record.{record_rules}
use Rattle.circuit.specs.SetUp.{port_rules, circuit_rules, set_up_rules, set_up_report}
use Rattle.circuit.specs.Run.{stored_waves_rule, Charged, charged_rules}
use Rattle.laws.proofs.Judging.{Pass, Numbered, ◌or_else◌, judge_of_append, zero_pass, pass_both, both_pass, both_numbered, pass_of, of_pass, of_numbered, judge_below, set_up_numbered, pass_passed, passed_pass, passed_done, done_passed}

-- 12
abbrev pub waves_rules : List (Rule Charged)
waves_rules = rule 12 (λ k. stored_waves_rule k.circuit k.waves) ∷ []

pub charged_judged : (k : Charged) → judge charged_rules k ≡ set_up_report k.circuit or_else judge waves_rules k
unfolding charged_rules set_up_report
charged_judged k = judge_of_append (λ (b : Charged). b.circuit) set_up_rules waves_rules k set_up_numbered

pub charged_numbered : Numbered charged_rules
unfolding charged_rules
charged_numbered = both_numbered (of (λ k. k.circuit) set_up_rules) waves_rules (of_numbered (λ (k : Charged). k.circuit) set_up_rules set_up_numbered) (lit< tt, tt)

-- none of 3 to 12 applies
pub record Cleared (k : Charged) : Type 0 where
  pub set_up : set_up_report k.circuit ≡ done
  pub waves : stored_waves_rule k.circuit k.waves ≡ passes

pub pass_cleared : (k : Charged) → Pass charged_rules k → Cleared k
unfolding charged_rules
pass_cleared k h =
    let both = pass_both (of (λ k. k.circuit) set_up_rules) waves_rules k h in
    record {
      set_up = passed_done k.circuit (pass_passed k.circuit (of_pass (λ (k : Charged). k.circuit) set_up_rules k both.0));
      waves = both.1.0;
    }

pub cleared_pass : (k : Charged) → Cleared k → Pass charged_rules k
unfolding charged_rules
cleared_pass k h =
    both_pass (of (λ k. k.circuit) set_up_rules) waves_rules k
    (pass_of (λ (k : Charged). k.circuit) set_up_rules k (passed_pass k.circuit (done_passed k.circuit h.set_up))) (h.waves, tt)

pub zero_cleared : (k : Charged) → (judge charged_rules k).number ≡ 0 → Cleared k
zero_cleared k e = pass_cleared k (zero_pass charged_rules k charged_numbered e)

-- 3 to 12 are below 13
pub charged_below : (k : Charged) → (judge charged_rules k).number < 13
unfolding charged_rules set_up_rules circuit_rules record_rules port_rules of
charged_below k =
    judge_below 13 charged_rules k (lit< tt)
    (lit< tt, (lit< tt, (lit< tt, (lit< tt, (lit< tt, (lit< tt, (lit< tt, (lit< tt, (lit< tt, (lit< tt, (lit< tt, (lit< tt, tt))))))))))))
