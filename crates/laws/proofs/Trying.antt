-- Rules that are tried in order, each handed on with `?`: a refusal is what judging them gives, and a rule that passes leaves the rules after it.
use Prim.Native.Nat.{ℕ, suc, ◌<◌}
use lib.Dec.{eqb, lit<}
use native.Mathlib.Omega.{arith}
use borrow.Author.Tests.{ne_eqb}
use mathlib.Core.Path.{◌≡◌, refl, sym, ap, ◌∙◌}
use mathlib.Core.Bool.{cond}
use mathlib.Core.List.{List, [], ◌∷◌}
use Rattle.circuit.specs.Numbers.{Report, done, Verdict, passes, fails, ◌then◌, Rule, rule, judge, told, handed}
use Rattle.std.specs.Prelude.{Result, Ok, Err}
use Rattle.std.specs.Result.{IsErrAnd}
use Rattle.circuit.specs.declared.Refusal.{Refusal}
use Rattle.circuit.specs.declared.Refusal.TheVariants.{Length, Check, Version, Form, Rate, Tree, Value, Resistance, Ratio, Curve, Fit, Waves, Lengths, Sample, Overload, Room, LeftOver, Voltage}
use Rattle.laws.specs.Numbered.{numbered}
use Rattle.laws.proofs.Judging.{judge_pass, judge_fail}

pub told_above : (e : Refusal) → 0 < (told e).number
unfolding told
told_above Length = lit< tt
told_above (Check block) = lit< tt
told_above Version = lit< tt
told_above Form = lit< tt
told_above Rate = lit< tt
told_above (Tree row) = lit< tt
told_above (Value row) = lit< tt
told_above (Resistance row) = lit< tt
told_above (Ratio row) = lit< tt
told_above (Curve column) = lit< tt
told_above Fit = lit< tt
told_above (Waves row) = lit< tt
told_above Lengths = lit< tt
told_above (Sample index) = lit< tt
told_above (Overload index) = lit< tt
told_above Room = lit< tt
told_above (LeftOver samples) = lit< tt
told_above Voltage = lit< tt

-- a refusal is not done
pub told_undone : (e : Refusal) → told e ≡ done → ⊥
told_undone e same = let above = told_above e in let none = ap (λ (r : Report). r.number) same in absurd (omega arith)

-- what a definition has in place of what is refused
pub refused_else : {A : Type 0} (e : Refusal) {n : Report} → told e ≡ n → (x other : A) → other ≡ cond (eqb n.number 0) x other
refused_else e {n} same x other =
    let above = told_above e in
    let number = ap (λ (m : Report). m.number) same in
    rw (ne_eqb n.number 0 (λ z. omega arith)) refl

-- what a rule that passes shows
pub done_passes : (n : ℕ) (v : Verdict) → done ≡ numbered (suc n) v → v ≡ passes
done_passes n passes e = refl
done_passes n (fails p) e = let none : 0 ≡ suc n = ap (λ (r : Report). r.number) e in absurd (omega arith)

-- one verdict, and then another under the same number
pub refused_then : (n : ℕ) (v w : Verdict) (e : Refusal) → told e ≡ numbered n v → told e ≡ numbered n (v then w)
refused_then n passes w e same = absurd (told_undone e same)
refused_then n (fails p) w e same = same

pub passed_then : (n : ℕ) (v w : Verdict) {m : Report} → done ≡ numbered (suc n) v → m ≡ numbered (suc n) w → m ≡ numbered (suc n) (v then w)
passed_then n v w same later = rw (done_passes n v same) later

module _ {A : Type 0} (n : ℕ) (check : A → Verdict) (rs : List (Rule A)) (a : A) where
  pub refused_first : (e : Refusal) → told e ≡ numbered n (check a) → told e ≡ judge (rule n check ∷ rs) a
  refused_first e = by (check a) refl
    where
      by : (v : Verdict) → check a ≡ v → told e ≡ numbered n v → told e ≡ judge (rule n check ∷ rs) a
      by passes q same = absurd (told_undone e same)
      by (fails p) q same = same ∙ sym (judge_fail (rule n check) rs a p q)

module _ {A : Type 0} (n : ℕ) (check : A → Verdict) (rs : List (Rule A)) (a : A) where
  pub passed_first : {m : Report} → done ≡ numbered (suc n) (check a) → m ≡ judge rs a → m ≡ judge (rule (suc n) check ∷ rs) a
  passed_first same later = later ∙ sym (judge_pass (rule (suc n) check) rs a (done_passes n (check a) same))

-- the last rule is judged by its verdict
pub last_judged : {A : Type 0} (n : ℕ) (check : A → Verdict) (a : A) → numbered n (check a) ≡ judge (rule n check ∷ []) a
unfolding judge
last_judged n check a = by (check a) refl
  where
    by : (v : Verdict) → check a ≡ v → numbered n v ≡ judge (rule n check ∷ []) a
    by passes q = sym (judge_pass (rule n check) [] a q)
    by (fails p) q = sym (judge_fail (rule n check) [] a p q)

-- what `?` hands on of a refusal
pub handed_on : {A : Type 0} (s : Result A Refusal) (e : Refusal) → IsErrAnd s (λ y. y ≡ e) → handed s ≡ told e
handed_on (Ok a) e h = absurd h
handed_on (Err y) e h = ap told h
