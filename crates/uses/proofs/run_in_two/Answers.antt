-- Where there is a cut, what the two calls promise is what one does.
use Rattle.std.proofs.Common.{◌≡◌, ℕ, ◌<◌, ◌≤◌, ◌^◌, false, not, eqb, length, sym, ◌∙◌, nat_lt, drop, arith, rules}
use borrow.Author.Tests.{ltb-false, eqb-true, not-false}
use mathlib.Core.Path.{ap, ap₂, subst}
use Rattle.std.specs.Prelude.{Result, Ok, Err, MatchResult, IsErrAnd, ⊤}
use Rattle.circuit.specs.declared.Refusal.{Refusal}
use mathlib.Core.Bool.{◌||◌}
use mathlib.Mathlib.Data.Bool.Basic.{or-eq-false-eq-eq-false-and-eq-false}
use lib.Seq.{length-take-le}
use Rattle.circuit.specs.Numbers.{handed, told}
use Rattle.theorems.specs.Pieces.{later}
use Rattle.circuit.specs.Run.{call}
use Rattle.circuit.specs.Promises.{Runs}
use Rattle.uses.proofs.Cut.{rest, rest_after, put_after, refused_told, done_told, First, one_refused, place_inside, done_inside, both_done}
use Rattle.uses.proofs.run_in_two.Goals as goal
use Rattle.uses.proofs.run_in_two.Goals.{After-run-first, After-run-second}

-- ---- the first call

-- the cut is inside, and the lengths are one
cuts : (n m at : ℕ) → (not (eqb n m) || nat_lt n at) ≡ false → (at ≤ n) × (n ≡ m)
cuts n m at e =
    let neither = (or-eq-false-eq-eq-false-and-eq-false (not (eqb n m)) (nat_lt n at)).0 e in
    (ltb-false n at neither.1, eqb-true n m (not-false (eqb n m) neither.0))

first : (c : After-run-first)
    → let a = c.args in First a.r.now a.state.waves a.input.now a.output.now a.at c.run-first.result c.run-first.new.output
first c =
    let told = cuts _ _ c.args.at c.if-input-output.false in
    record { inside = told.0; equal = told.1; runs = c.run-first.ensures }

filled : (c : After-run-first) → length c.run-first.new.output ≡ c.args.at
filled c =
    let f = first c in
    c.run-first.auto.output ∙ length-take-le c.args.at c.args.output.now (omega (arith, f.inside, f.equal))

pub returns-then-is_err : goal.returns-then-is_err
returns-then-is_err c =
    one_refused (first (goal.at.returns-then-is_err c).After-run-first) (refused_told _ (sym c.is_err.ensures.value ∙ c.if-is_err.true))

-- ---- the second, where the first is done

finished : (c : After-run-second) → (handed c.run-first.result.answer).number ≡ 0
finished c = done_told _ (sym c.is_err.ensures.value ∙ c.if-is_err.false)

second : (c : After-run-second)
    → let a = c.args in
    length c.run-first.new.output ≡ a.at
    → Runs (call a.r.now c.run-first.result.state.waves (drop a.at a.input.now) (drop a.at a.output.now)) c.run-second.result c.run-second.new.output
second c size =
    let a = c.args in
    subst (λ b. Runs b c.run-second.result c.run-second.new.output)
    (ap₂ (call a.r.now c.run-first.result.state.waves) (rest a.at a.input.now) (rest_after a.at c.run-first.new.output (drop a.at a.output.now) size))
    c.run-second.ensures

-- neither sum is past the input
pub map_err-requires : goal.map_err-requires
map_err-requires c = λ e is.
    let at = goal.at.map_err-requires c in
    let once = at.After-run-first in
    let both = at.After-run-second in
    let size : length c.args.input.now < 18446744073709551616 = search rules in
    let inside : (later c.run-first.result.done (handed c.run-second.result.answer)).place < 2 ^ 64 =
    omega (arith, place_inside (first once) (finished both) (second both (filled once)), size) in
    let bound : (later c.run-first.result.done (told e)).place < 2 ^ 64 = rw is at inside in
    search rules

pub overflow_add-result : goal.overflow_add-result
overflow_add-result c =
    let at = goal.at.overflow_add-result c in
    let once = at.After-run-first in
    let both = at.After-run-second in
    let size : length c.args.input.now < 18446744073709551616 = search rules in
    omega (arith, done_inside (first once) (finished both) (second both (filled once)), size)

-- what the closure makes of a refusal
told_later : (m : ℕ) (s t : Result ⊤ Refusal) {Q : Refusal → Refusal → Type 0} → MatchResult s (λ x. t ≡ Ok x) (λ e. IsErrAnd t (Q e))
    → ((e d : Refusal) → Q e d → told d ≡ later m (told e)) → handed t ≡ later m (handed s)
told_later m (Ok a) t e h = ap handed e
told_later m (Err e) (Ok b) q h = absurd q
told_later m (Err e) (Err d) q h = h e d q

pub returns : goal.returns
returns c =
    let at = goal.at.returns c in
    let once = at.After-run-first in
    let both = at.After-run-second in
    let a = c.args in
    let answer = told_later c.run-first.result.done c.run-second.result.answer c.map_err.result c.map_err.ensures.cases (λ e d k. search rules) in
    subst (Runs (call a.r.now a.state.waves a.input.now a.output.now) _)
    (sym (put_after a.at c.run-first.new.output (drop a.at a.output.now) (filled once) c.run-second.new.output))
    (both_done (first once) (finished both) (second both (filled once)) _ answer _ c.last_segment.ensures)
