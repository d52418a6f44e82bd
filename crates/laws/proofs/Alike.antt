-- Two records with the same parts, row by row, and the same count, rate, tap and resistance: they have the same tree, port resistances and
-- ratios, and every rule says the same of both but 3, 4 and 10, which look at the version, at marks and at the curve.
use Prim.Native.Nat.{ℕ, zero, suc, ◌-◌}
use mathlib.Core.Path.{◌≡◌, refl, ap, ap₂, ◌∙◌, fun_ext}
use mathlib.Core.Bool.{not, ◌&&◌, ◌||◌}
use mathlib.Core.List.{List, [], ◌∷◌}
use lib.Dec.{eqb}
use lib.IntN.{ℤ}
use Rattle.circuit.specs.Counting.{between, total, one}
use Rattle.circuit.specs.Numbers.{Report, passes, fails, Rule, report, judge, unless, lowest}
use Rattle.circuit.specs.Record.{row_limit, lowest_rate, highest_rate, top, no_row, part_at, is_leaf, is_input, version_rule, form_rule, rate_rule, not_lower, children_rule, names, uses, used_once_rule, inputs, input_and_tap_rule, sound_part, value_rule, record_rules, Tree, leaf, adaptor, grow, grown, tree_at, tree_of, last_row}
use Rattle.circuit.specs.SetUp.{port_of, resistance, resistance_at, in_range, ratio, ratio_at, joined_resistance, quotient, scaled_down, parts, ratio_fault, fits, port_resistance_rule, ratio_rule, curve_resistance_rule, port_rules, circuit_rules, set_up_rules, set_up_report}
use Rattle.circuit.specs.Curve.{column_rule}
use Rattle.circuit.specs.Sample.{stored_at}
use Rattle.circuit.specs.Run.{sound_wave, stored_waves_rule}
use Rattle.circuit.specs.declared.Record.{Record}

-- ---- two things that every rule says the same of

abbrev pub SameVerdicts : {A : Type 0} → List (Rule A) → A → A → Type 0
SameVerdicts [] a b = Unit {0}
SameVerdicts (r ∷ rs) a b = (r.check a ≡ r.check b) × SameVerdicts rs a b

pub judge_alike : {A : Type 0} (rs : List (Rule A)) (a b : A) → SameVerdicts rs a b → judge rs a ≡ judge rs b
unfolding judge
judge_alike [] a b h = refl
judge_alike (r ∷ rs) a b h =
    ap₂ (λ v s. elim v as (λ w. Report) [ passes ↦ s | fails p ↦ report r.number p ]) h.0 (judge_alike rs a b h.1)

-- ---- two records

pub record Alike (r s : Record) : Type 0 where
  pub count : s.count ≡ r.count
  pub rate : s.rate ≡ r.rate
  pub tap : s.tap ≡ r.tap
  pub resistance : s.resistance ≡ r.resistance
  pub part : (j : ℕ) → part_at s j ≡ part_at r j

module _ {r s : Record} (alike : Alike r s) where
  -- ---- the tree and what is worked out over it

  grown_same : (d j : ℕ) → grown d s j ≡ grown d r j
  unfolding grown
  grown_same zero j = refl
  grown_same (suc d) j = ap₂ (λ child p. grow child j p) (fun_ext (grown_same d)) (alike.part j)

  tree_same : (j : ℕ) → tree_at s j ≡ tree_at r j
  unfolding tree_at
  tree_same j = grown_same (suc j) j

  last_same : last_row s ≡ last_row r
  unfolding last_row
  last_same = ap (λ n. n - 1) alike.count

  pub top_same : tree_of s ≡ tree_of r
  unfolding tree_of
  top_same = tree_same (last_row s) ∙ ap (tree_at r) last_same

  over_tree : (t : Tree) → resistance s t ≡ resistance r t
  unfolding resistance
  over_tree (leaf j) = ap₂ port_of alike.rate (alike.part j)
  over_tree (adaptor k j t1 t2) = ap₂ (joined_resistance k) (over_tree t1) (over_tree t2)

  resistance_same : (j : ℕ) → resistance_at s j ≡ resistance_at r j
  unfolding resistance_at
  resistance_same j = over_tree (tree_at s j) ∙ ap (resistance r) (tree_same j)

  ratio_over : (t : Tree) → ratio s t ≡ ratio r t
  unfolding ratio
  ratio_over (leaf j) = refl
  ratio_over (adaptor k j t1 t2) = ap₂ (λ x y. scaled_down parts (quotient k x y)) (over_tree t1) (over_tree t2)

  pub ratio_same : (j : ℕ) → ratio_at s j ≡ ratio_at r j
  unfolding ratio_at
  ratio_same j = ratio_over (tree_at s j) ∙ ap (ratio r) (tree_same j)

  -- ---- 5 to 9, 11 and 12

  pub rate_same : rate_rule s ≡ rate_rule r
  unfolding rate_rule
  rate_same = ap (λ n. unless (between lowest_rate highest_rate n) 0) alike.rate

  pub children_same : children_rule s ≡ children_rule r
  unfolding children_rule
  children_same = ap₂ lowest (fun_ext (λ j. ap (not_lower j) (alike.part j))) alike.count

  uses_same : (k : ℕ) → uses s k ≡ uses r k
  unfolding uses
  uses_same k = ap₂ total (fun_ext (λ j. ap (λ p. names p k) (alike.part j))) alike.count

  pub used_same : used_once_rule s ≡ used_once_rule r
  unfolding used_once_rule
  used_same = ap₂ lowest (fun_ext (λ k. ap (λ n. not (eqb n 1)) (uses_same k))) (ap (λ n. n - 1) alike.count)

  inputs_same : inputs s ≡ inputs r
  unfolding inputs
  inputs_same = ap₂ total (fun_ext (λ j. ap (λ p. one (is_input p)) (alike.part j))) alike.count

  pub input_same : input_and_tap_rule s ≡ input_and_tap_rule r
  unfolding input_and_tap_rule
  input_same =
      ap₂ (λ a b. unless (a && b) no_row) (ap (λ n. eqb n 1) inputs_same)
      (ap₂ (λ a p. a || is_leaf p) (ap (λ n. eqb n top) alike.tap) (alike.part s.tap ∙ ap (part_at r) alike.tap))

  pub value_same : value_rule s ≡ value_rule r
  unfolding value_rule
  value_same = ap₂ lowest (fun_ext (λ j. ap (λ p. not (sound_part p)) (alike.part j))) alike.count

  pub port_same : port_resistance_rule s ≡ port_resistance_rule r
  unfolding port_resistance_rule
  port_same = ap₂ lowest (fun_ext (λ j. ap (λ x. not (in_range x)) (resistance_same j))) alike.count

  pub ratios_same : ratio_rule s ≡ ratio_rule r
  unfolding ratio_rule
  ratios_same = ap₂ lowest (fun_ext (λ j. ap₂ ratio_fault (alike.part j) (ratio_same j))) alike.count

  pub fit_same : curve_resistance_rule s ≡ curve_resistance_rule r
  unfolding curve_resistance_rule
  fit_same = ap₂ (λ q x. unless (fits q x) 0) alike.resistance (resistance_same (last_row s) ∙ ap (resistance_at r) last_same)

  pub waves_same : (ws : List ℤ) → stored_waves_rule s ws ≡ stored_waves_rule r ws
  unfolding stored_waves_rule
  waves_same ws = ap (λ fault. lowest fault row_limit) (fun_ext (λ j. ap (λ p. not (sound_wave p (stored_at ws j))) (alike.part j)))

  -- ---- set-up, where 3, 4 and 10 say the same too

  pub set_up_same : version_rule s.version ≡ version_rule r.version → form_rule s ≡ form_rule r → column_rule s ≡ column_rule r → set_up_report s ≡ set_up_report r
  unfolding set_up_report set_up_rules circuit_rules record_rules port_rules
  set_up_same version form columns =
      judge_alike set_up_rules s r
      (version, (form, (rate_same, (children_same, (used_same, (input_same, (value_same, (port_same, (ratios_same, (columns, (fit_same, tt)))))))))))
