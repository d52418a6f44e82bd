-- WHICH WAY ROUND A LEAF IS. A resistor sends and stores nothing, so reversing those that the tap does not read changes no output and no stored
-- wave. Reversing every leaf turns all waves in the tree over, where rounding and diode do, in version 2 with a pair; each leaf turns its own
-- back, so it stores and reads what it did, and the tap at the top reads the opposite.
use Prim.Native.Nat.{ℕ}
use borrow.Author.Tests.{eq-eqb}
use mathlib.Core.Path.{◌≡◌, refl, sym, ap, ap₂, ◌∙◌, fun_ext}
use mathlib.Core.Logic.{◌⊎◌, inl, inr}
use mathlib.Core.Bool.{Bool, true, false, not, ◌&&◌, cond, true≢false}
use mathlib.Core.List.{List, map-id}
use lib.Dec.{T, eqb}
use lib.ListN.{length}
use lib.IntN.{ℤ, pos, ◌+ℤ◌, neg_ℤ, nat_abs, neg_ℤ-neg_ℤ}
use Rattle.circuit.specs.Numbers.{done}
use Rattle.circuit.specs.Record.{row_limit, top, part_at, reversed_at, is_leaf}
use Rattle.circuit.specs.SetUp.{set_up_report}
use Rattle.circuit.specs.Curve.{reflected, segment}
use Rattle.circuit.specs.Sample.{Arithmetic, Rounding, whole_waves, rounding_of, rounded, up, reach, sends, stores, part_sends, part_stores, turned, sent, raised, risen, reached, arriving, kept, output, Sampled, refused, finished, stored_at, sampled}
use Rattle.circuit.specs.Run.{call, ran}
use Rattle.circuit.specs.Promises.{Runs}
use Rattle.circuit.specs.declared.Part.{Part}
use Rattle.circuit.specs.declared.Part.TheVariants.{Blank, Leaf, Adaptor}
use Rattle.circuit.specs.declared.Record.{Record}
use Rattle.circuit.specs.declared.Progress.{Progress}
use Rattle.laws.specs.Accepted.{Sized, Accepted}
use Rattle.laws.proofs.Accepting.{accepting}
use Rattle.laws.proofs.Alike.{top_same, ratio_same, waves_same}
use Rattle.laws.proofs.Counting.{table_same}
use Rattle.laws.proofs.Segments.{pair_segment}
use Rattle.theorems.specs.Changed.{changed, Changed, Answers}
use Rattle.theorems.specs.Opposite.{Even}
use Rattle.theorems.specs.Reversed.{reverse, reverse_all, Resistors, at_tap}
use Rattle.theorems.proofs.Changed.{either, sample_changed, ran_changed, runs_changed}
use Rattle.theorems.proofs.Odd.{version_2_odd, pair_odd, Opposites, opposites}
use Rattle.theorems.proofs.Flipped.{row_at_lem, alike, reflected_same, segment_same, set_up_flipped}

-- ---- the sample x from the waves ws, with any leaves reversed: a leaf sends what it did

module _ (pick : ℕ → Bool) (r : Record) (ws : List ℤ) (x : ℤ) where
  sent_same : (j : ℕ) → sent (rounded r) (reverse pick r) (stored_at ws) x j ≡ sent (rounded r) r (stored_at ws) x j
  unfolding sent
  sent_same j = ap (part_sends (rounded r) x (stored_at ws j)) ((alike pick r).part j)

-- ---- resistors that the tap does not read

-- nothing, either way round
none_turned : (ρ : Rounding) (m m' : Bool) (a : ℤ) → a ≡ pos 0 → turned (whole_waves ρ) m' a ≡ turned (whole_waves ρ) m a
none_turned ρ m m' a e = ap (turned (whole_waves ρ) m') e ∙ none m' ∙ sym (ap (turned (whole_waves ρ) m) e ∙ none m)
  where
    none : (b : Bool) → turned (whole_waves ρ) b (pos 0) ≡ pos 0
    none true = refl
    none false = refl

unchanged : (o : Sampled) → changed (λ v. v) (λ l. l) o ≡ o
unchanged (refused n) = refl
unchanged (finished v s next) = refl

module _ {pick : ℕ → Bool} {r : Record} (only : Resistors pick r) (ws : List ℤ) (x : ℤ) where
  abbrev 𝓐 : Arithmetic
  𝓐 = rounded r

  abbrev s : Record
  s = reverse pick r

  abbrev stored : ℕ → ℤ
  stored = stored_at ws

  mark_same : (j : ℕ) → pick j ≡ false → reversed_at s j ≡ reversed_at r j
  mark_same j q = ap (λ w. w.reversed) (row_at_lem pick r j) ∙ ap (λ b. cond (b && is_leaf (part_at r j)) (not (reversed_at r j)) (reversed_at r j)) q

  nothing_sent : (j : ℕ) → pick j ≡ true → sent 𝓐 r stored x j ≡ pos 0
  unfolding sent sends
  nothing_sent j q = ap (part_sends 𝓐 x (stored j)) (only.resistor j q).1

  nothing_stored : (j : ℕ) → pick j ≡ true → (a b : ℤ) → part_stores 𝓐 (part_at r j) a ≡ part_stores 𝓐 (part_at r j) b
  unfolding stores
  nothing_stored j q a b = let e = (only.resistor j q).1 in ap (λ p. part_stores 𝓐 p a) e ∙ sym (ap (λ p. part_stores 𝓐 p b) e)

  raised_same : (j : ℕ) → raised 𝓐 s stored x j ≡ raised 𝓐 r stored x j
  unfolding raised
  raised_same j = ap (turned 𝓐 (reversed_at s j)) (sent_same pick r ws x j) ∙ by (pick j) refl
    where
      by : (b : Bool) → pick j ≡ b → turned 𝓐 (reversed_at s j) (sent 𝓐 r stored x j) ≡ turned 𝓐 (reversed_at r j) (sent 𝓐 r stored x j)
      by false q = ap (λ m. turned 𝓐 m (sent 𝓐 r stored x j)) (mark_same j q)
      by true q = none_turned (rounding_of r.version) (reversed_at r j) (reversed_at s j) (sent 𝓐 r stored x j) (nothing_sent j q)

  risen_same : risen 𝓐 s stored x ≡ risen 𝓐 r stored x
  unfolding risen
  risen_same = λ i. up 𝓐 (fun_ext (ratio_same (alike pick r)) i) (fun_ext raised_same i) (top_same (alike pick r) i)

  answer_same : reflected s (risen 𝓐 s stored x) ≡ reflected r (risen 𝓐 r stored x)
  answer_same = reflected_same pick r (risen 𝓐 s stored x) ∙ ap (reflected r) risen_same

  reached_same : (j : ℕ) → reached 𝓐 (reflected s) s stored x j ≡ reached 𝓐 (reflected r) r stored x j
  unfolding reached
  reached_same j = λ i. reach 𝓐 (fun_ext (ratio_same (alike pick r)) i) (fun_ext raised_same i) (top_same (alike pick r) i) (answer_same i) j

  -- of a leaf that is not picked
  arriving_same : (j : ℕ) → pick j ≡ false → arriving 𝓐 (reflected s) s stored x j ≡ arriving 𝓐 (reflected r) r stored x j
  unfolding arriving
  arriving_same j q = ap₂ (turned 𝓐) (mark_same j q) (reached_same j)

  kept_same : (j : ℕ) → kept 𝓐 (reflected s) s stored x j ≡ kept 𝓐 (reflected r) r stored x j
  unfolding kept
  kept_same j = ap (λ p. part_stores 𝓐 p (arriving 𝓐 (reflected s) s stored x j)) ((alike pick r).part j) ∙ by (pick j) refl
    where
      by : (b : Bool) → pick j ≡ b
          → part_stores 𝓐 (part_at r j) (arriving 𝓐 (reflected s) s stored x j) ≡ part_stores 𝓐 (part_at r j) (arriving 𝓐 (reflected r) r stored x j)
      by false q = ap (part_stores 𝓐 (part_at r j)) (arriving_same j q)
      by true q = nothing_stored j q _ _

  output_same : output 𝓐 (reflected s) s stored x ≡ output 𝓐 (reflected r) r stored x
  unfolding output
  output_same =
      either (eqb r.tap top) (λ v. v) _ _ _ _ (λ q. ap₂ ◌+ℤ◌ risen_same answer_same)
      (λ q. ap₂ ◌+ℤ◌ (sent_same pick r ws x r.tap) (arriving_same r.tap (only.unread q)))

  sample_same : sampled s ws x ≡ changed (λ v. v) (λ l. l) (sampled r ws x)
  sample_same =
      sample_changed r s (alike pick r).part ws ws x x refl (ap nat_abs risen_same) (λ j. ap nat_abs (reached_same j)) (λ v. v) (λ l. l)
      (segment_same pick r _ ∙ ap (segment r) risen_same) output_same
      (table_same _ _ row_limit (λ j l. kept_same j))

  pub resistors_reversed : sampled (reverse pick r) ws x ≡ sampled r ws x
  resistors_reversed = sample_same ∙ unchanged (sampled r ws x)

-- a run, with any output buffer of the same length
module _ {pick : ℕ → Bool} {r : Record} (only : Resistors pick r) (ws xs os os' : List ℤ) (long : length os' ≡ length os) where
  pub ran_resistors_reversed : Changed (λ v. v) (λ l. l) (ran (call r ws xs os)) (ran (call (reverse pick r) ws xs os'))
  ran_resistors_reversed =
      ran_changed r (reverse pick r) (λ v. v) (λ x. x) (λ l. l) ws xs xs os os' (sym (map-id xs)) long (set_up_flipped pick r) (waves_same (alike pick r) ws)
      (λ e. sample_same only)

  pub run_resistors_reversed : (p q : Progress) (out out' : List ℤ) → Runs (call r ws xs os) p out → Runs (call (reverse pick r) ws xs os') q out'
      → Answers (λ v. v) (λ l. l) p q out out'
  run_resistors_reversed p q out out' = runs_changed (λ v. v) (λ l. l) refl _ _ p q out out' ran_resistors_reversed

-- ---- every leaf

module _ (ρ : Rounding) where
  abbrev 𝓡 : Arithmetic
  𝓡 = whole_waves ρ

  turned_over : (m : Bool) (a : ℤ) → turned 𝓡 (not m) a ≡ neg_ℤ (turned 𝓡 m a)
  turned_over true a = sym (neg_ℤ-neg_ℤ a)
  turned_over false a = refl

  turned_back : (m : Bool) (a : ℤ) → turned 𝓡 (not m) (neg_ℤ a) ≡ turned 𝓡 m a
  turned_back true a = refl
  turned_back false a = neg_ℤ-neg_ℤ a

  raised_over : (p : Part) (m : Bool) (x z : ℤ) → turned 𝓡 (cond (is_leaf p) (not m) m) (part_sends 𝓡 x z p) ≡ neg_ℤ (turned 𝓡 m (part_sends 𝓡 x z p))
  raised_over Blank true x z = refl
  raised_over Blank false x z = refl
  raised_over (Leaf e) m x z = turned_over m (sends 𝓡 x z e)
  raised_over (Adaptor d) true x z = refl
  raised_over (Adaptor d) false x z = refl

  leaf_back : (p : Part) (m : Bool) (a : ℤ) → T (is_leaf p) → turned 𝓡 (cond (is_leaf p) (not m) m) (neg_ℤ a) ≡ turned 𝓡 m a
  leaf_back Blank m a l = absurd l
  leaf_back (Leaf e) m a l = turned_back m a
  leaf_back (Adaptor d) m a l = absurd l

  kept_back : (p : Part) (m : Bool) (a : ℤ) → part_stores 𝓡 p (turned 𝓡 (cond (is_leaf p) (not m) m) (neg_ℤ a)) ≡ part_stores 𝓡 p (turned 𝓡 m a)
  kept_back Blank m a = refl
  kept_back (Leaf e) m a = ap (stores 𝓡 e) (turned_back m a)
  kept_back (Adaptor d) m a = refl

not_top : {P : Type 0} (tap : ℕ) → (tap ≡ top) ⊎ P → eqb tap top ≡ false → P
not_top tap (inl q) e = absurd (true≢false (sym (eq-eqb tap top q) ∙ e))
not_top tap (inr p) e = p

module _ {r : Record} (even : Even r) (sized : Sized r) (accepted : set_up_report r ≡ done) (ws : List ℤ) (x : ℤ) where
  abbrev 𝓑 : Arithmetic
  𝓑 = rounded r

  abbrev ρ : Rounding
  ρ = rounding_of r.version

  abbrev t : Record
  t = reverse_all r

  abbrev all : ℕ → Bool
  all j = true

  abbrev held : ℕ → ℤ
  held = stored_at ws

  facts : Accepted r
  facts = accepting r sized accepted

  mark_over : (j : ℕ) → reversed_at t j ≡ cond (is_leaf (part_at r j)) (not (reversed_at r j)) (reversed_at r j)
  mark_over j = ap (λ w. w.reversed) (row_at_lem all r j)

  raised_opposite : (j : ℕ) → raised 𝓑 t held x j ≡ neg_ℤ (raised 𝓑 r held x j)
  unfolding raised sent
  raised_opposite j =
      ap₂ (turned 𝓑) (mark_over j) (sent_same all r ws x j) ∙ raised_over ρ (part_at r j) (reversed_at r j) x (held j)

  over : Opposites ρ (reflected r) (reflected t) r t held held x x
  over =
      opposites (version_2_odd even.version) (reflected r) (reflected t) (λ a. reflected_same all r (neg_ℤ a) ∙ pair_odd facts.drawn even.kind a) r t
      (top_same (alike all r)) (fun_ext (ratio_same (alike all r))) held held x x raised_opposite

  arriving_back : (j : ℕ) → T (is_leaf (part_at r j)) → arriving 𝓑 (reflected t) t held x j ≡ arriving 𝓑 (reflected r) r held x j
  unfolding arriving
  arriving_back j l =
      ap₂ (turned 𝓑) (mark_over j) (over.below j) ∙ leaf_back ρ (part_at r j) (reversed_at r j) (reached 𝓑 (reflected r) r held x j) l

  kept_as_before : (j : ℕ) → kept 𝓑 (reflected t) t held x j ≡ kept 𝓑 (reflected r) r held x j
  unfolding kept arriving
  kept_as_before j =
      ap₂ (part_stores 𝓑) ((alike all r).part j) (ap₂ (turned 𝓑) (mark_over j) (over.below j))
      ∙ kept_back ρ (part_at r j) (reversed_at r j) (reached 𝓑 (reflected r) r held x j)

  output_at_tap : output 𝓑 (reflected t) t held x ≡ at_tap r.tap (output 𝓑 (reflected r) r held x)
  unfolding output
  output_at_tap =
      let both = risen 𝓑 r held x +ℤ reflected r (risen 𝓑 r held x) in
      let own = sent 𝓑 r held x r.tap +ℤ arriving 𝓑 (reflected r) r held x r.tap in
      either (eqb r.tap top) (at_tap r.tap) both own _ _ (λ q. over.top ∙ sym (ap (λ b. cond b (neg_ℤ both) both) q))
      (λ q. ap₂ ◌+ℤ◌ (sent_same all r ws x r.tap) (arriving_back r.tap (not_top r.tap facts.tapped q)) ∙ sym (ap (λ b. cond b (neg_ℤ own) own) q))

  pub leaves_reversed : sampled (reverse_all r) ws x ≡ changed (at_tap r.tap) (λ l. l) (sampled r ws x)
  leaves_reversed =
      sample_changed r t (alike all r).part ws ws x x refl over.top_size over.size (at_tap r.tap) (λ l. l)
      (segment_same all r _ ∙ pair_segment r even.kind _ _ over.top_size) output_at_tap
      (table_same _ _ row_limit (λ j l. kept_as_before j))

-- a run, with any output buffer of the same length; a record that set-up refuses is refused alike
module _ {r : Record} (even : Even r) (sized : Sized r) (ws xs os os' : List ℤ) (long : length os' ≡ length os) where
  pub ran_leaves_reversed : Changed (at_tap r.tap) (λ l. l) (ran (call r ws xs os)) (ran (call (reverse_all r) ws xs os'))
  ran_leaves_reversed =
      ran_changed r (reverse_all r) (at_tap r.tap) (λ x. x) (λ l. l) ws xs xs os os' (sym (map-id xs)) long (set_up_flipped (λ j. true) r)
      (waves_same (alike (λ j. true) r) ws) (λ e. leaves_reversed even sized e)

  silent : (b : Bool) → cond b (neg_ℤ (pos 0)) (pos 0) ≡ pos 0
  silent true = refl
  silent false = refl

  pub run_leaves_reversed : (p q : Progress) (out out' : List ℤ) → Runs (call r ws xs os) p out → Runs (call (reverse_all r) ws xs os') q out'
      → Answers (at_tap r.tap) (λ l. l) p q out out'
  run_leaves_reversed p q out out' = runs_changed (at_tap r.tap) (λ l. l) (silent (eqb r.tap top)) _ _ p q out out' ran_leaves_reversed
