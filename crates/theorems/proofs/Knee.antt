-- THE KNEE. A curve is built whole or not at all. Every curve that is built is accepted by the column rule, in whatever record holds it, so that
-- it never moves further than its input and never exceeds it. Put into an accepted circuit it makes an accepted circuit; the resistance that
-- the curve is for is still the record's to state.
use Prim.Native.Nat.{ℕ, zero, suc, ◌<◌, ◌≤◌}
use native.Mathlib.Omega.{arith}
use mathlib.Core.Path.{◌≡◌, refl, sym, ap, ◌∙◌, subst}
use mathlib.Core.Logic.{◌⊎◌, inl, inr}
use mathlib.Core.Bool.{Bool, true, false}
use lib.Dec.{lit≤}
use lib.ListN.{get_or}
use lib.IntN.{nat_abs}
use Rattle.std.specs.Prelude.{Result, Ok, Err}
use Rattle.whole.specs.Order.{zarith, Abs}
use Rattle.circuit.specs.Counting.{table}
use Rattle.circuit.specs.Numbers.{done, passes, told}
use Rattle.circuit.specs.Record.{column_limit, column_at, is_set}
use Rattle.circuit.specs.SetUp.{set_up_report, curve_resistance_rule}
use Rattle.circuit.specs.Curve.{wave_limit, column_rule}
use Rattle.circuit.specs.Knee.{x_at, knee_column, sound_knob, built_kind, built_width, built_columns}
use Rattle.circuit.specs.declared.Knob.{Knob}
use Rattle.circuit.specs.Promises.{Builds}
use Rattle.circuit.specs.declared.Refusal.{Refusal}
use Rattle.circuit.specs.declared.Refusal.TheVariants.{Voltage}
use Rattle.circuit.specs.declared.Built.{Built}
use Rattle.circuit.specs.declared.CurveKind.TheVariants.{Pair}
use Rattle.circuit.specs.declared.Record.{Record}
use Rattle.laws.specs.Accepted.{origin, Crosses, Drawn}
use Rattle.laws.proofs.Counting.{get_or-table}
use Rattle.laws.proofs.Judging.{zero_passed, passed_done}
use Rattle.laws.proofs.Columns.{drawn_passes}
use Rattle.laws.proofs.Refusals.{one_refusal}
use Rattle.laws.proofs.Trying.{told_undone}
use Rattle.laws.proofs.Knee.{report_built, report_refused, if_built_lem, turned, placed, neighbours}
use Rattle.laws.proofs.OtherCurve.{fit_same, still_passed}
use Rattle.theorems.specs.Curve.{Tame}
use Rattle.theorems.specs.Knee.{Whole, Nothing, Holds, put_in}
use Rattle.theorems.proofs.Curve.{drawn_tame}

-- ---- whole or not at all

module _ (k : Knob) where
  is_whole : (s : Result Built Refusal) → Builds k s → sound_knob k ≡ true → Whole k s
  unfolding built_kind built_width built_columns
  is_whole (Ok b) h e = record {
    curve = b;
    answer = refl;
    kind = h.kind ∙ if_built_lem k _ _ e;
    width = h.width ∙ if_built_lem k _ _ e;
    columns = h.columns ∙ if_built_lem k _ _ e;
  }
  is_whole (Err d) h e = absurd (told_undone d (h.number ∙ report_built k e))

  is_nothing : (s : Result Built Refusal) → Builds k s → sound_knob k ≡ false → Nothing s
  unfolding told
  is_nothing (Ok b) h e = absurd (let same = ap (λ n. n.number) (h.number ∙ report_refused k e) in let none : ⊥ = omega arith in none)
  is_nothing (Err d) h e = record { answer = ap Err (one_refusal d Voltage (h.number ∙ report_refused k e) refl) }

  pub whole_or_nothing : (s : Result Built Refusal) → Builds k s → Whole k s ⊎ Nothing s
  whole_or_nothing s h = by (sound_knob k) refl
    where
      by : (t : Bool) → sound_knob k ≡ t → Whole k s ⊎ Nothing s
      by true e = inl (is_whole s h e)
      by false e = inr (is_nothing s h e)

  pub done_sound : {b : Built} → Builds k (Ok b) → sound_knob k ≡ true
  done_sound {b} h = by (sound_knob k) refl
    where
      by : (t : Bool) → sound_knob k ≡ t → sound_knob k ≡ true
      by true e = e
      by false e = absurd (let same = ap (λ n. n.number) (h.number ∙ report_refused k e) in let none : ⊥ = omega arith in none)

-- ---- accepted, in whatever record holds it

module _ (k : Knob) (e : sound_knob k ≡ true) (r : Record) (kind : r.kind ≡ Pair) (width : r.width ≡ column_limit) (columns : r.columns ≡ table (knee_column k) column_limit) where
  column_is : (i : ℕ) → i < column_limit → column_at r i ≡ knee_column k i
  column_is i l = ap (λ cs. get_or cs i origin) columns ∙ get_or-table (knee_column k) column_limit i origin l

  small : (i : ℕ) → i < column_limit → nat_abs (knee_column k i).x ≤ wave_limit
  unfolding knee_column
  small zero l = lit≤ tt
  small (suc i) l =
      let p = placed k (turned k e) i (omega arith) in
      let right = p.right in
      let most = p.small in
      let b : Abs (x_at k i) wave_limit = omega zarith in
      b.bound

  crosses : Crosses r.kind r
  unfolding Crosses knee_column
  crosses = subst (λ c. Crosses c r) (sym kind) (column_is 0 (omega arith))

  curve_drawn : Drawn r
  curve_drawn = record {
    two = rw width (omega arith);
    beside = λ i l. let m = rw width at l in rw (column_is i (omega arith), column_is (suc i) m) (neighbours k (turned k e) i (omega arith));
    crosses = crosses;
    small = λ i l. let m = rw width at l in rw (column_is i m) (small i m);
  }

module _ (k : Knob) (b : Built) (h : Builds k (Ok b)) where
  built_drawn : (r : Record) → Holds r b → Drawn r
  unfolding built_kind built_width built_columns
  built_drawn r c =
      let sound = done_sound k h in
      curve_drawn k sound r (c.kind ∙ h.kind ∙ if_built_lem k _ _ sound) (c.width ∙ h.width ∙ if_built_lem k _ _ sound)
      (c.columns ∙ h.columns ∙ if_built_lem k _ _ sound)

  pub built_accepted : (r : Record) → Holds r b → column_rule r ≡ passes
  built_accepted r c = drawn_passes r (built_drawn r c)

  pub built_tame : (r : Record) → Holds r b → Tame r
  built_tame r c = drawn_tame (built_drawn r c)

  -- ---- in an accepted circuit

  pub still_accepted : (r : Record) → (set_up_report r).number ≡ 0 → set_up_report (put_in r b) ≡ done
  unfolding built_kind built_width
  still_accepted r ok =
      let sound = done_sound k h in
      passed_done (put_in r b)
      (still_passed r b.kind b.width b.columns (zero_passed r ok) (ap is_set (h.kind ∙ if_built_lem k _ _ sound)) (h.width ∙ if_built_lem k _ _ sound)
      (built_accepted (put_in r b) (record { kind = refl; width = refl; columns = refl })))

-- whatever the curve, rule 11 says of the circuit what it said
pub resistance_stays : (r : Record) (b : Built) → curve_resistance_rule (put_in r b) ≡ curve_resistance_rule r
resistance_stays r b = fit_same r b.kind b.width b.columns
