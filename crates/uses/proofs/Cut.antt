-- A run in two calls, cut at a sample: one of the samples before it, and one of the rest from the waves that the first handed back. What
-- the two promise is what one call of all the samples does.
use Prim.Native.Nat.{ℕ, zero, suc, ◌+◌, ◌-◌, ◌≤◌}
use native.Mathlib.Omega.{arith}
use borrow.Author.Tests.{eq-eqb, ne_eqb}
use borrow.Rule.Slice.PartMut.{mid_of, put_mid}
use mathlib.Core.Path.{◌≡◌, refl, sym, ap, ap₂, ◌∙◌}
use mathlib.Core.Bool.{Bool, true, false, true≢false, cond}
use mathlib.Core.List.{List, ◌++◌, append-nil}
use lib.Dec.{eqb}
use lib.ListN.{length, take, drop, length-drop, take-append-drop, drop_of_length-le}
use lib.Seq.{length-take-le, take_all, take_at, drop_at}
use lib.IntN.{ℤ}
use Rattle.std.specs.Prelude.{Result, Ok, Err, is_err, ⊤, Option}
use Rattle.circuit.specs.Numbers.{judge, handed}
use Rattle.circuit.specs.Run.{Call, call, play, run_rules, Ran, report_after, ran}
use Rattle.circuit.specs.Promises.{shown_segment, Runs}
use Rattle.circuit.specs.declared.Refusal.{Refusal}
use Rattle.circuit.specs.declared.Progress.{Progress}
use Rattle.circuit.specs.declared.Record.{Record}
use Rattle.laws.proofs.Playing.{play_short}
use Rattle.laws.proofs.Trying.{told_above}
use Rattle.laws.proofs.Running.{zero_allowed, allowed_done, ran_refused, ran_worked}
use Rattle.theorems.specs.Pieces.{later, both, alone, in_turn}
use Rattle.theorems.proofs.Cutting.{cut}

-- ---- parts of a list

module _ {A : Type 0} (at : ℕ) where
  -- a part that ends where the list does
  pub rest : (l : List A) → mid_of at (length l - at) l ≡ drop at l
  rest l = take_all (length l - at) (drop at l) (omega (arith, length-drop at l))

  -- of a list whose first `at` are known
  module _ (first others : List A) (size : length first ≡ at) where
    pub rest_after : mid_of at (length (first ++ others) - at) (first ++ others) ≡ others
    rest_after = rest (first ++ others) ∙ drop_at first others at size

    pub put_after : (ys : List A) → put_mid at (length (first ++ others) - at) (first ++ others) ys ≡ first ++ ys
    put_after ys =
        let l = first ++ others in
        ap₂ (λ (x y : List A). x ++ (ys ++ y)) (take_at first others at size) (drop_of_length-le (drop at l) {i = length l - at} (omega (arith, length-drop at l)))
        ∙ ap (λ (z : List A). first ++ z) (append-nil ys)

-- ---- a call that is done

pub refused_told : (s : Result ⊤ Refusal) → is_err s ≡ true → (handed s).number ≡ 0 → ⊥
refused_told (Ok a) e z = true≢false (sym e)
refused_told (Err d) e z = let above = told_above d in omega arith

pub done_told : (s : Result ⊤ Refusal) → is_err s ≡ false → (handed s).number ≡ 0
done_told (Ok a) e = refl
done_told (Err d) e = absurd (true≢false e)

after_place : (n k : ℕ) → (report_after n k).place ≤ n
after_place n zero = omega arith
after_place n (suc k) = omega arith

module _ (c : Call) where
  -- a call that hands back 0 is judged done
  ran_judged : (ran c).handed_back.number ≡ 0 → (judge run_rules c).number ≡ 0
  ran_judged z = by (judge run_rules c).number refl
    where
      by : (n : ℕ) → (judge run_rules c).number ≡ n → (judge run_rules c).number ≡ 0
      by zero e = e
      by (suc k) e = ap (λ s. s.handed_back.number) (sym (ran_refused c (omega arith))) ∙ z

  -- the samples done, and the place of 14 and 15, are not past the input
  ran_short : (judge run_rules c).number ≡ 0 → (ran c).samples ≤ length c.input
  ran_short j = rw (ran_worked c j) (play_short c.circuit c.waves c.input)

  ran_place : (judge run_rules c).number ≡ 0 → (ran c).handed_back.place ≤ length c.input
  ran_place j =
      let p = play c.circuit c.waves c.input in
      rw (ran_worked c j) (omega (arith, after_place (length p.outputs) p.number, play_short c.circuit c.waves c.input))

-- ---- the two calls

pub shown_later : (t : Bool) (m n : ℕ) → shown_segment (cond t m n) ≡ cond t (shown_segment m) (shown_segment n)
shown_later true m n = refl
shown_later false m n = refl

-- the first call of a run that is cut, which may be refused
pub record First (r : Record) (ws xs os : List ℤ) (at : ℕ) (p : Progress) (o : List ℤ) : Type 0 where
  pub inside : at ≤ length xs
  pub equal : length xs ≡ length os
  pub runs : Runs (call r ws (take at xs) (take at os)) p o

module _ {r : Record} {ws xs os : List ℤ} {at : ℕ} {p : Progress} {o : List ℤ} (first : First r ws xs os at p o) where
  abbrev whole : Call
  whole = call r ws xs os

  abbrev front : Call
  front = call r ws (take at xs) (take at os)

  abbrev back : List ℤ → Call
  back w = call r w (drop at xs) (drop at os)

  in_turn_lem : ran whole ≡ in_turn (ran front) (λ w. ran (back w)) (drop at os)
  in_turn_lem =
      let l = first.inside in
      let n = first.equal in
      let e : length (take at xs) ≡ length (take at os) = length-take-le at xs l ∙ sym (length-take-le at os (omega arith)) in
      let f : length (drop at xs) ≡ length (drop at os) = length-drop at xs ∙ ap (λ (k : ℕ). k - at) n ∙ sym (length-drop at os) in
      ap₂ {C = Ran} (λ ins outs. ran (call r ws ins outs)) (sym (take-append-drop at xs)) (sym (take-append-drop at os))
      ∙ cut r ws (take at xs) (take at os) (drop at xs) (drop at os) e f

  -- it is refused
  module _ (n : (handed p.answer).number ≡ 0 → ⊥) where
    left_off : ran whole ≡ alone (ran front) (drop at os)
    unfolding in_turn
    left_off = in_turn_lem ∙ rw (ne_eqb (ran front).handed_back.number 0 (λ z. n (ap (λ s. s.number) first.runs.number ∙ z))) refl

    pub one_refused : Runs whole p (o ++ drop at os)
    one_refused = record {
      number = first.runs.number ∙ sym (ap (λ (s : Ran). s.handed_back) left_off);
      samples = first.runs.samples ∙ sym (ap (λ (s : Ran). s.samples) left_off);
      segment = first.runs.segment ∙ sym (ap (λ (s : Ran). shown_segment s.segment) left_off);
      waves = first.runs.waves ∙ sym (ap (λ (s : Ran). s.waves) left_off);
      output = ap (λ (l : List ℤ). l ++ drop at os) first.runs.output ∙ sym (ap (λ (s : Ran). s.output) left_off);
    }

  -- it is done, and the second begins with its waves
  module _ (z : (handed p.answer).number ≡ 0) {q : Progress} {o₂ : List ℤ} (second : Runs (back p.state.waves) q o₂) where
    front_done : (ran front).handed_back.number ≡ 0
    front_done = ap (λ s. s.number) (sym first.runs.number) ∙ z

    went_on : ran whole ≡ both (ran front) (ran (back p.state.waves))
    unfolding in_turn
    went_on = in_turn_lem ∙ rw (eq-eqb (ran front).handed_back.number 0 front_done, ← first.runs.waves) refl

    told : (ran whole).handed_back ≡ later p.done (handed q.answer)
    told = ap (λ (s : Ran). s.handed_back) went_on ∙ rw (first.runs.samples, second.number) refl

    counted : (ran whole).samples ≡ p.done + q.done
    counted = ap (λ (s : Ran). s.samples) went_on ∙ rw (first.runs.samples, second.samples) refl

    lit : shown_segment (ran whole).segment ≡ cond (eqb q.done 0) p.segment q.segment
    lit =
        ap (λ (s : Ran). shown_segment s.segment) went_on
        ∙ shown_later (eqb (ran (back p.state.waves)).samples 0) (ran front).segment (ran (back p.state.waves)).segment
        ∙ rw (second.samples, first.runs.segment, second.segment) refl

    judged : (judge run_rules whole).number ≡ 0
    judged =
        let h = zero_allowed front (ran_judged front front_done) in
        ap (λ s. s.number) (allowed_done whole (record { cleared = h.cleared; equal = first.equal }))

    pub place_inside : (later p.done (handed q.answer)).place ≤ length xs
    place_inside = rw (← told) (ran_place whole judged)

    pub done_inside : p.done + q.done ≤ length xs
    done_inside = rw (← counted) (ran_short whole judged)

    pub both_done : (a : Result ⊤ Refusal) → handed a ≡ later p.done (handed q.answer) → (s : Option ℕ) → s ≡ cond (eqb q.done 0) p.segment q.segment
        → Runs whole (record { answer = a; done = p.done + q.done; segment = s; state = q.state }) (o ++ o₂)
    both_done a e s f = record {
      number = e ∙ sym told;
      samples = sym counted;
      segment = f ∙ sym lit;
      waves = second.waves ∙ sym (ap (λ (s : Ran). s.waves) went_on);
      output = ap₂ (λ (x y : List ℤ). x ++ y) first.runs.output second.output ∙ sym (ap (λ (s : Ran). s.output) went_on);
    }
