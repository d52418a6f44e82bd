-- Laws of judging: a list of rules is tried in order, so it is decided by the first that fails. Where every number is above 0, number 0 says
-- that every rule passes. Each is by induction on the list; set-up's rules and those of reading are the instances at the end.
use Prim.Native.Nat.{ℕ, zero, suc, ◌<◌}
use native.Mathlib.Nat.{lt_irrefl}
use native.Mathlib.Omega.{arith}
use borrow.Author.Tests.{eq-eqb, ne_eqb}
use lib.Dec.{eqb, lit<}
use mathlib.Core.Path.{◌≡◌, refl, sym, ap, ◌∙◌, subst}
use mathlib.Core.Bool.{Bool, true, false, cond}
use mathlib.Core.List.{List, [], ◌∷◌, ◌++◌}
use Rattle.circuit.specs.Numbers.{Report, Verdict, passes, fails, Rule, rule, report, done, judge, of, unless}
use Rattle.circuit.specs.Record.{version_rule, form_rule, rate_rule, children_rule, used_once_rule, input_and_tap_rule, value_rule, record_rules}
use Rattle.circuit.specs.Curve.{column_rule}
use Rattle.circuit.specs.SetUp.{port_resistance_rule, ratio_rule, curve_resistance_rule, port_rules, circuit_rules, set_up_rules, set_up_report}
use Rattle.circuit.specs.File.{record_of, file_rules, read_rules}
use Rattle.circuit.specs.declared.Record.{Record}

-- every rule passes
abbrev pub Pass : {A : Type 0} → List (Rule A) → A → Type 0
Pass [] a = Unit {0}
Pass (r ∷ rs) a = (r.check a ≡ passes) × Pass rs a

-- every number is below m
abbrev pub Below : {A : Type 0} → ℕ → List (Rule A) → Type 0
Below m [] = Unit {0}
Below m (r ∷ rs) = (r.number < m) × Below m rs

-- every number is above 0
abbrev pub Numbered : {A : Type 0} → List (Rule A) → Type 0
Numbered [] = Unit {0}
Numbered (r ∷ rs) = (0 < r.number) × Numbered rs

module _ {A : Type 0} where
  -- ---- the first rule

  pub judge_pass : (r : Rule A) (rs : List (Rule A)) (a : A) → r.check a ≡ passes → judge (r ∷ rs) a ≡ judge rs a
  unfolding judge
  judge_pass r rs a e = rw e refl

  pub judge_fail : (r : Rule A) (rs : List (Rule A)) (a : A) (p : ℕ) → r.check a ≡ fails p → judge (r ∷ rs) a ≡ report r.number p
  unfolding judge
  judge_fail r rs a p e = rw e refl

  -- ---- some rules, then more

  pub judge_rest : (rs ss : List (Rule A)) (a : A) → Pass rs a → judge (rs ++ ss) a ≡ judge ss a
  judge_rest [] ss a h = refl
  judge_rest (r ∷ rs) ss a h = judge_pass r (rs ++ ss) a h.0 ∙ judge_rest rs ss a h.1

  pub pass_done : (rs : List (Rule A)) (a : A) → Pass rs a → judge rs a ≡ done
  unfolding judge
  pass_done [] a h = refl
  pass_done (r ∷ rs) a h = judge_pass r rs a h.0 ∙ pass_done rs a h.1

  -- some rules and more pass where both do
  pub pass_both : (rs ss : List (Rule A)) (a : A) → Pass (rs ++ ss) a → Pass rs a × Pass ss a
  pass_both [] ss a h = (tt, h)
  pass_both (r ∷ rs) ss a h = let later = pass_both rs ss a h.1 in ((h.0, later.0), later.1)

  pub both_pass : (rs ss : List (Rule A)) (a : A) → Pass rs a → Pass ss a → Pass (rs ++ ss) a
  both_pass [] ss a h k = k
  both_pass (r ∷ rs) ss a h k = (h.0, both_pass rs ss a h.1 k)

  pub both_numbered : (rs ss : List (Rule A)) → Numbered rs → Numbered ss → Numbered (rs ++ ss)
  both_numbered [] ss h k = k
  both_numbered (r ∷ rs) ss h k = (h.0, both_numbered rs ss h.1 k)

  -- a number above 0 is not changed by more rules
  pub judge_stop : (rs ss : List (Rule A)) (a : A) → 0 < (judge rs a).number → judge (rs ++ ss) a ≡ judge rs a
  unfolding judge
  judge_stop [] ss a h = absurd (lt_irrefl 0 h)
  judge_stop (r ∷ rs) ss a h = by (r.check a) refl (judge_stop rs ss a)
    where
      by : (v : Verdict) → r.check a ≡ v → (0 < (judge rs a).number → judge (rs ++ ss) a ≡ judge rs a) → judge (r ∷ rs ++ ss) a ≡ judge (r ∷ rs) a
      by passes e later = judge_pass r (rs ++ ss) a e ∙ later (rw (judge_pass r rs a e) at h) ∙ sym (judge_pass r rs a e)
      by (fails p) e later = judge_fail r (rs ++ ss) a p e ∙ sym (judge_fail r rs a p e)

  -- rules that pass change nothing where they stand last
  pub judge_before : (rs ss : List (Rule A)) (a : A) → Pass ss a → judge (rs ++ ss) a ≡ judge rs a
  unfolding judge
  judge_before [] ss a h = pass_done ss a h
  judge_before (r ∷ rs) ss a h = by (r.check a) refl (judge_before rs ss a h)
    where
      by : (v : Verdict) → r.check a ≡ v → judge (rs ++ ss) a ≡ judge rs a → judge (r ∷ rs ++ ss) a ≡ judge (r ∷ rs) a
      by passes e same = judge_pass r (rs ++ ss) a e ∙ same ∙ sym (judge_pass r rs a e)
      by (fails p) e same = judge_fail r (rs ++ ss) a p e ∙ sym (judge_fail r rs a p e)

  -- ---- number 0

  pub zero_pass : (rs : List (Rule A)) (a : A) → Numbered rs → (judge rs a).number ≡ 0 → Pass rs a
  zero_pass [] a n e = tt
  zero_pass (r ∷ rs) a n e = by (r.check a) refl (zero_pass rs a n.1)
    where
      by : (v : Verdict) → r.check a ≡ v → ((judge rs a).number ≡ 0 → Pass rs a) → Pass (r ∷ rs) a
      by passes q later = (q, later (ap (λ s. s.number) (sym (judge_pass r rs a q)) ∙ e))
      by (fails p) q later = absurd (lt_irrefl 0 (subst (λ (k : ℕ). 0 < k) (ap (λ s. s.number) (sym (judge_fail r rs a p q)) ∙ e) n.0))

  pub zero_done : (rs : List (Rule A)) (a : A) → Numbered rs → (judge rs a).number ≡ 0 → judge rs a ≡ done
  zero_done rs a n e = pass_done rs a (zero_pass rs a n e)

  -- ---- numbers below m

  pub judge_below : (m : ℕ) (rs : List (Rule A)) (a : A) → 0 < m → Below m rs → (judge rs a).number < m
  unfolding judge
  judge_below m [] a l h = l
  judge_below m (r ∷ rs) a l h = by (r.check a) refl (judge_below m rs a l h.1)
    where
      by : (v : Verdict) → r.check a ≡ v → (judge rs a).number < m → (judge (r ∷ rs) a).number < m
      by passes e later = rw (judge_pass r rs a e) later
      by (fails p) e later = rw (judge_fail r rs a p e) h.0

-- ---- one report, or another

-- a report, and where its number is 0 the next
infixr 5 ◌or_else◌
abbrev pub ◌or_else◌ : Report → Report → Report
m or_else n = cond (eqb m.number 0) n m

module _ (m n : Report) where
  pub else_next : m.number ≡ 0 → m or_else n ≡ n
  else_next e = rw (eq-eqb m.number 0 e)

  pub else_first : 0 < m.number → m or_else n ≡ m
  else_first l = rw (ne_eqb m.number 0 (λ e. omega arith))

  pub else_zero : (m or_else n).number ≡ 0 → (m.number ≡ 0) × (n.number ≡ 0)
  else_zero = by m.number refl
    where
      by : (k : ℕ) → m.number ≡ k → (m or_else n).number ≡ 0 → (m.number ≡ 0) × (n.number ≡ 0)
      by zero e z = (e, rw (else_next e) at z)
      by (suc k) e z = let y = rw (else_first (omega arith)) at z in absurd (omega arith)

pub else_assoc : (l m n : Report) → (l or_else m) or_else n ≡ l or_else (m or_else n)
else_assoc l m n = by l.number refl
  where
    by : (k : ℕ) → l.number ≡ k → (l or_else m) or_else n ≡ l or_else (m or_else n)
    by zero z = rw z refl
    by (suc k) z = let above : 0 < l.number = omega arith in rw (else_first l m above, else_first l n above, else_first l (m or_else n) above) refl

pub else_same : (m n o : Report) → (m.number ≡ 0 → n ≡ o) → m or_else n ≡ m or_else o
else_same m n o h = by m.number refl
  where
    by : (k : ℕ) → m.number ≡ k → m or_else n ≡ m or_else o
    by zero z = ap (λ x. m or_else x) (h z)
    by (suc k) z = let above : 0 < m.number = omega arith in else_first m n above ∙ sym (else_first m o above)

module _ {A : Type 0} where
  pub judge_append : (rs ss : List (Rule A)) (a : A) → Numbered rs → judge (rs ++ ss) a ≡ judge rs a or_else judge ss a
  judge_append rs ss a h = by (judge rs a).number refl
    where
      by : (n : ℕ) → (judge rs a).number ≡ n → judge (rs ++ ss) a ≡ judge rs a or_else judge ss a
      by zero e = judge_rest rs ss a (zero_pass rs a h e) ∙ sym (else_next (judge rs a) (judge ss a) e)
      by (suc k) e = let l : 0 < (judge rs a).number = omega arith in judge_stop rs ss a l ∙ sym (else_first (judge rs a) (judge ss a) l)

  -- one rule, which is a test
  pub judge_test : (r : Rule A) (a : A) (b : Bool) (p : ℕ) → r.check a ≡ unless b p → judge (r ∷ []) a ≡ cond b done (report r.number p)
  unfolding judge
  judge_test r a true p e = judge_pass r [] a e
  judge_test r a false p e = judge_fail r [] a p e

-- ---- the same rules, of what `f` makes

module _ {A B : Type 0} (f : B → A) where
  pub judge_of : (rs : List (Rule A)) (b : B) → judge (of f rs) b ≡ judge rs (f b)
  unfolding judge of
  judge_of [] b = refl
  judge_of (r ∷ rs) b =
      ap {A = Report} (λ s. elim (r.check (f b)) as (λ v. Report) [ passes ↦ s | fails p ↦ report r.number p ]) (judge_of rs b)

  pub pass_of : (rs : List (Rule A)) (b : B) → Pass rs (f b) → Pass (of f rs) b
  unfolding of
  pass_of [] b h = tt
  pass_of (r ∷ rs) b h = (h.0, pass_of rs b h.1)

  pub of_pass : (rs : List (Rule A)) (b : B) → Pass (of f rs) b → Pass rs (f b)
  unfolding of
  of_pass [] b h = tt
  of_pass (r ∷ rs) b h = (h.0, of_pass rs b h.1)

  pub of_numbered : (rs : List (Rule A)) → Numbered rs → Numbered (of f rs)
  unfolding of
  of_numbered [] h = tt
  of_numbered (r ∷ rs) h = (h.0, of_numbered rs h.1)

  pub judge_of_append : (rs : List (Rule A)) (ss : List (Rule B)) (b : B) → Numbered rs → judge (of f rs ++ ss) b ≡ judge rs (f b) or_else judge ss b
  judge_of_append rs ss b h = judge_append (of f rs) ss b (of_numbered rs h) ∙ ap (λ m. m or_else judge ss b) (judge_of rs b)

-- ---- set-up's rules

pub record Passed (r : Record) : Type 0 where
  pub version : version_rule r.version ≡ passes
  pub form : form_rule r ≡ passes
  pub rate : rate_rule r ≡ passes
  pub children_lower : children_rule r ≡ passes
  pub used_once : used_once_rule r ≡ passes
  pub input_and_tap : input_and_tap_rule r ≡ passes
  pub values : value_rule r ≡ passes
  pub port_resistances : port_resistance_rule r ≡ passes
  pub ratios : ratio_rule r ≡ passes
  pub column_rule : column_rule r ≡ passes
  pub curve_resistance : curve_resistance_rule r ≡ passes

circuit_numbered : Numbered circuit_rules
unfolding circuit_rules record_rules port_rules
circuit_numbered = (lit< tt, (lit< tt, (lit< tt, (lit< tt, (lit< tt, (lit< tt, (lit< tt, (lit< tt, (lit< tt, (lit< tt, tt))))))))))

pub set_up_numbered : Numbered set_up_rules
unfolding set_up_rules
set_up_numbered = (lit< tt, circuit_numbered)

-- the version looked at, 4 to 11 are left
pub version_passed : (r : Record) → version_rule r.version ≡ passes → set_up_report r ≡ judge circuit_rules r
unfolding set_up_report set_up_rules
version_passed r = judge_pass (rule 3 (λ s. version_rule s.version)) circuit_rules r

pub pass_passed : (r : Record) → Pass set_up_rules r → Passed r
unfolding set_up_rules circuit_rules record_rules port_rules
pass_passed r h =
    let k = h.1 in
    record {
      version = h.0;
      form = k.0;
      rate = k.1.0;
      children_lower = k.1.1.0;
      used_once = k.1.1.1.0;
      input_and_tap = k.1.1.1.1.0;
      values = k.1.1.1.1.1.0;
      port_resistances = k.1.1.1.1.1.1.0;
      ratios = k.1.1.1.1.1.1.1.0;
      column_rule = k.1.1.1.1.1.1.1.1.0;
      curve_resistance = k.1.1.1.1.1.1.1.1.1.0;
    }

pub passed_pass : (r : Record) → Passed r → Pass set_up_rules r
unfolding set_up_rules circuit_rules record_rules port_rules
passed_pass r h = (h.version, (h.form, (h.rate, (h.children_lower, (h.used_once, (h.input_and_tap, (h.values, (h.port_resistances, (h.ratios, (h.column_rule, (h.curve_resistance, tt)))))))))))

pub zero_passed : (r : Record) → (set_up_report r).number ≡ 0 → Passed r
unfolding set_up_report
zero_passed r e = pass_passed r (zero_pass set_up_rules r set_up_numbered e)

pub done_passed : (r : Record) → set_up_report r ≡ done → Passed r
done_passed r e = zero_passed r (ap (λ s. s.number) e)

pub passed_done : (r : Record) → Passed r → set_up_report r ≡ done
unfolding set_up_report
passed_done r h = pass_done set_up_rules r (passed_pass r h)

pub set_up_done : (r : Record) → (set_up_report r).number ≡ 0 → set_up_report r ≡ done
set_up_done r e = passed_done r (zero_passed r e)

-- ---- the rules of reading

pub read_numbered : Numbered read_rules
unfolding read_rules file_rules
read_numbered = both_numbered file_rules (of record_of circuit_rules) (lit< tt, (lit< tt, (lit< tt, (lit< tt, tt)))) (of_numbered record_of circuit_rules circuit_numbered)
