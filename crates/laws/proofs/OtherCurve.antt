-- A record with another curve is the record but for that: what every rule but 4 and 10 says of it is the same. Rule 11 is among them: the
-- resistance that a curve is for stays the record's own.
use Prim.Native.Nat.{ℕ}
use borrow.Author.Tests.{lt-ltb}
use mathlib.Core.Path.{◌≡◌, refl, ap, ◌∙◌}
use mathlib.Core.Bool.{true, ◌||◌, and-eq-true_iff}
use mathlib.Core.List.{List}
use lib.Dec.{ltb}
use Rattle.circuit.specs.Counting.{between, every}
use Rattle.circuit.specs.Numbers.{passes, unless}
use Rattle.circuit.specs.Record.{row_limit, column_limit, row_at, column_at, at_origin, is_set, in_form, form_rule}
use Rattle.circuit.specs.SetUp.{curve_resistance_rule}
use Rattle.circuit.specs.Curve.{column_rule}
use Rattle.circuit.specs.Knee.{with_curve}
use Rattle.circuit.specs.declared.Column.{Column}
use Rattle.circuit.specs.declared.CurveKind.{CurveKind}
use Rattle.circuit.specs.declared.Record.{Record}
use Rattle.laws.proofs.Counting.{true_every, unless_passes}
use Rattle.laws.proofs.Judging.{Passed}
use Rattle.laws.proofs.Alike as Alike
use Rattle.laws.proofs.Alike.{Alike, rate_same, children_same, used_same, input_same, value_same, port_same, ratios_same}

module _ (r : Record) (kind : CurveKind) (width : ℕ) (columns : List Column) where
  abbrev changed : Record
  changed = with_curve r kind width columns

  same : Alike r changed
  same = record { count = refl; rate = refl; tap = refl; resistance = refl; part = λ j. refl }

  pub fit_same : curve_resistance_rule changed ≡ curve_resistance_rule r
  fit_same = Alike.fit_same same

  -- ---- 4, with a curve that fills its columns

  form_full : form_rule r ≡ passes → is_set kind ≡ true → width ≡ column_limit → form_rule changed ≡ passes
  unfolding form_rule
  form_full e set full =
      let all = unless_passes _ 0 e in
      let rows = ((and-eq-true_iff _ (every (λ i. ltb i r.width || at_origin (column_at r i)) column_limit)).0 all).0 in
      let formed = (and-eq-true_iff _ (every (λ j. in_form r.count j (row_at r j)) row_limit)).0 rows in
      let kinds = (and-eq-true_iff _ (is_set r.kind)).0 formed.0 in
      let counts = (and-eq-true_iff (between 1 row_limit r.count) (between 2 column_limit r.width)).0 kinds.0 in
      rw (full, set, counts.0, formed.1) (ap (λ b. unless b 0) (true_every _ column_limit (λ i l. rw (lt-ltb i column_limit l) refl)))

  -- ---- all rules: what passes them still does, with a curve that fills its columns and passes rule 10

  pub still_passed : Passed r → is_set kind ≡ true → width ≡ column_limit → column_rule changed ≡ passes → Passed changed
  still_passed p set full drawn = record {
    version = p.version;
    form = form_full p.form set full;
    rate = rate_same same ∙ p.rate;
    children_lower = children_same same ∙ p.children_lower;
    used_once = used_same same ∙ p.used_once;
    input_and_tap = input_same same ∙ p.input_and_tap;
    values = value_same same ∙ p.values;
    port_resistances = port_same same ∙ p.port_resistances;
    ratios = ratios_same same ∙ p.ratios;
    column_rule = drawn;
    curve_resistance = fit_same ∙ p.curve_resistance;
  }
