-- THE LIGHT. The segment is the one whose line answers the wave. Segments are counted from the left, so that no column passed is lost as a wave
-- rises; a pair's first column is passed by every magnitude. The segment that a run hands back is the one that its last finished sample's wave used,
-- and 255 is never one.
use Rattle.std.specs.Prelude.{Bool, true, false, cond, eqb, None, Some}
use Rattle.std.proofs.Common.{ne_eqb}
use Rattle.std.proofs.lemmas.Bool.{eqb-true}
use Prim.Native.Nat.{ℕ, zero, suc, ◌<◌, ◌≤◌}
use native.Mathlib.Omega.{arith}
use mathlib.Core.Path.{◌≡◌, refl, sym, ap, ◌∙◌}
use mathlib.Core.List.{List}
use lib.ListN.{length, get_or}
use lib.IntN.{ℤ, pos, neg_ℤ, nat_abs}
use lib.Signed.{◌<ℤ◌, ◌≤ℤ◌}
use Rattle.whole.specs.Order.{zarith}
use Rattle.whole.specs.Fraction.{whole}
use Rattle.circuit.specs.Numbers.{passes, judge}
use Rattle.circuit.specs.Record.{column_limit, column_at, form_rule}
use Rattle.circuit.specs.Curve.{column_rule, piece, drawn, line_of, line, toward_zero, reflected, taken_on, segment}
use Rattle.circuit.specs.Run.{Played, play, Call, run_rules, no_segment, ran}
use Rattle.circuit.specs.Promises.{Runs, shown_segment, segment_number}
use Rattle.circuit.specs.declared.CurveKind.{CurveKind}
use Rattle.circuit.specs.declared.CurveKind.TheVariants.{Unset, Single, Pair}
use Rattle.circuit.specs.declared.Progress.{Progress}
use Rattle.circuit.specs.declared.Record.{Record}
use Rattle.laws.specs.Accepted.{Sized, Crosses, Drawn}
use Rattle.laws.proofs.Formed.{formed}
use Rattle.laws.proofs.Columns.{columns_drawn}
use Rattle.laws.proofs.Drawn.{passed_is}
use Rattle.laws.proofs.Accepting.{accepting}
use Rattle.laws.proofs.Line.{pair_left, pair_right}
use Rattle.laws.proofs.Segments.{passed_rises, passed_most, passed_none, segment_of, segment_left, segment_right, last_none, last_at}
use Rattle.laws.proofs.Playing.{finished_means, play_at, play_segments}
use Rattle.laws.proofs.Running.{zero_allowed, ran_refused, ran_worked}
use Rattle.theorems.specs.Limit.{waves_after}
use Rattle.theorems.specs.Light.{Used, Graded, hit, Shows, Lit}
use Rattle.theorems.proofs.RunBound.{judged}

-- ---- the segment that is used

-- of every record
pub used : (r : Record) → Used r
unfolding reflected line drawn
used r = record {
  single = λ e a. ap (λ k. toward_zero (line_of k (drawn r) (whole a))) e ∙ ap (λ n. toward_zero (piece r n (whole a))) (sym (segment_of r e a));
  pair = λ e a l. pair_right r e a l ∙ ap (λ n. toward_zero (piece r n (whole a))) (sym (segment_right r e a l));
  mirrored = λ e a l. pair_left r e a l ∙ ap (λ n. neg_ℤ (toward_zero (piece r n (whole (neg_ℤ a))))) (sym (segment_left r e a l));
}

-- ---- the segments of a curve

module _ {r : Record} (d : Drawn r) (wide : r.width ≤ column_limit) where
  there : 0 < r.width
  there = omega (arith, d.two)

  only : (k : CurveKind) → r.kind ≡ k → Crosses k r → (a : ℤ) → segment r a ≡ 0 → (r.kind ≡ Single) × (a <ℤ (column_at r 0).x)
  unfolding Crosses
  only Unset e c a z = absurd c
  only Single e c a z = (e, passed_none r there (sym (segment_of r e a) ∙ z))
  only Pair e c a z =
      let left : pos (nat_abs a) <ℤ pos 0 = rw c at (passed_none r there (sym (segment_of r e a) ∙ z)) in
      absurd (omega zarith)

  drawn_graded : Graded r
  drawn_graded = record {
    first = λ e a l. segment_of r e a ∙ passed_is d a 0 (omega arith) (λ k z. absurd (omega arith)) (λ h. l);
    only = only r.kind refl d.crosses;
    single = λ e a b l. rw (segment_of r e a, segment_of r e b) (passed_rises r l);
    pair = λ e a b l.
        let rises : pos (nat_abs a) ≤ℤ pos (nat_abs b) = omega zarith in
        rw (segment_of r e a, segment_of r e b) (passed_rises r rises);
    most = λ a. omega (arith, segment_of r refl a, passed_most r (whole (taken_on r.kind a)));
  }

-- of the rules only 4 and 10 are asked
pub graded : (r : Record) → form_rule r ≡ passes → column_rule r ≡ passes → Graded r
graded r form columns = let f = formed r form in drawn_graded (columns_drawn r f columns) f.wide

-- ---- the segment of a run

module _ (c : Call) where
  abbrev p : Played
  p = play c.circuit c.waves c.input

  -- of a call that is judged done
  module _ (z : (judge run_rules c).number ≡ 0) where
    last : (i : ℕ) → (ran c).samples ≡ suc i → (ran c).segment ≡ segment c.circuit (hit c i)
    last i e =
        let many : length p.outputs ≡ suc i = rw (ran_worked c z) at e in
        let f = finished_means c.circuit (waves_after c i) (get_or c.input i (pos 0)) _ _ _
        (play_at c.circuit i (pos 0) c.waves c.input (omega arith)) in
        rw (ran_worked c z) (last_at no_segment 0 p.segments i (play_segments c.circuit c.waves c.input ∙ many) ∙ sym f.used)

  ran_none : (ran c).samples ≡ 0 → (ran c).segment ≡ no_segment
  ran_none e = by (judge run_rules c).number refl
    where
      by : (n : ℕ) → (judge run_rules c).number ≡ n → (ran c).segment ≡ no_segment
      by zero z =
          let many : length p.outputs ≡ 0 = rw (ran_worked c z) at e in
          rw (ran_worked c z) (last_none no_segment p.segments (play_segments c.circuit c.waves c.input ∙ many))
      by (suc n) z = rw (ran_refused c (omega arith)) refl

  ran_shows : Sized c.circuit → Shows c (ran c).samples (ran c).segment
  ran_shows sized = record {
    none = ran_none;
    last = λ i e. last (judged c i (omega arith)) i e;
    apart = λ l. by (ran c).samples refl l;
  }
    where
      by : (n : ℕ) → (ran c).samples ≡ n → 0 < n → (ran c).segment ≤ column_limit
      by zero e l = absurd (omega arith)
      by (suc i) e l =
          let z = judged c i (omega arith) in
          let a = accepting c.circuit sized (zero_allowed c z).cleared.set_up in
          rw (last z i e) ((drawn_graded a.drawn a.wide).most (hit c i))

-- by what a run promises, in the paper's number, and as a segment or none
number_shown : (n : ℕ) → segment_number (shown_segment n) ≡ n
number_shown n = by (eqb n no_segment) refl
  where
    by : (none : Bool) → eqb n no_segment ≡ none → segment_number (cond none None (Some n)) ≡ n
    by true e = sym (eqb-true n no_segment e)
    by false e = refl

module _ (c : Call) (p : Progress) (after : List ℤ) (runs : Runs c p after) (sized : Sized c.circuit) where
  pub run_shows : Shows c p.done (segment_number p.segment)
  run_shows = rw (runs.samples, runs.segment, number_shown (ran c).segment) (ran_shows c sized)

  pub run_lit : Lit c p.done p.segment
  run_lit = let shows : Shows c p.done (ran c).segment = rw runs.samples (ran_shows c sized) in record {
    none = λ e. runs.segment ∙ rw (shows.none e) refl;
    last = λ i e.
        let told = shows.last i e in
        let few = shows.apart (omega arith) in
        let other : eqb (ran c).segment no_segment ≡ false = ne_eqb (ran c).segment no_segment (λ s. omega arith) in
        runs.segment ∙ rw (other, told) refl;
  }
