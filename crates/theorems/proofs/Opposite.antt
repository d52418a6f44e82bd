-- THE NULL TEST. Version 2 with a pair and no steady source but at 0: opposite samples from opposite waves put out and store the opposite, and
-- are refused alike. So a take and its inverse, added up, are silence.
use Prim.Native.Nat.{ℕ, zero, suc}
use mathlib.Core.Path.{◌≡◌, refl, sym, ap, ap₂, ◌∙◌}
use mathlib.Core.Bool.{Bool, true, false, not}
use mathlib.Core.List.{List, [], ◌∷◌, ◌++◌, map-append}
use lib.Dec.{eqb}
use lib.ListN.{length, get_or, get_or-map}
use lib.IntN.{ℤ, pos, ◌+ℤ◌, neg_ℤ}
use Rattle.whole.specs.Order.{nat_abs-neg}
use Rattle.whole.specs.Ring.{var, ◌⊕◌, ⊖, con, ring}
use Rattle.circuit.specs.Counting.{table}
use Rattle.circuit.specs.Record.{row_limit, top, part_at, reversed_at}
use Rattle.circuit.specs.Curve.{reflected}
use Rattle.circuit.specs.Sample.{Arithmetic, Rounding, whole_waves, rounding_of, rounded, sends, stores, part_sends, part_stores, turned, sent, raised, reached, arriving, kept, output, stored_at, sampled}
use Rattle.circuit.specs.Run.{sound_wave, stored_waves_rule, call, ran}
use Rattle.circuit.specs.Promises.{Runs}
use Rattle.circuit.specs.declared.Element.TheVariants.{Resistor, Capacitor, Inductor, Input, Steady}
use Rattle.circuit.specs.declared.Part.{Part}
use Rattle.circuit.specs.declared.Part.TheVariants.{Blank, Leaf, Adaptor}
use Rattle.circuit.specs.declared.Record.{Record}
use Rattle.circuit.specs.declared.Progress.{Progress}
use Rattle.laws.specs.Accepted.{Sized, Drawn}
use Rattle.laws.proofs.Accepting.{accepting}
use Rattle.laws.proofs.Counting.{table_same, lowest_same}
use Rattle.laws.proofs.Segments.{pair_segment}
use Rattle.theorems.specs.Changed.{changed}
use Rattle.theorems.specs.Opposite.{Silent, Balanced, opposite, Opposed, Nulls}
use Rattle.theorems.proofs.Changed.{either, sample_changed, ran_changed, runs_changed}
use Rattle.theorems.proofs.Odd.{version_2_odd, pair_odd, sum_opposite, Opposites, opposites}

table_opposite : (f : ℕ → ℤ) (n : ℕ) → table (λ j. neg_ℤ (f j)) n ≡ opposite (table f n)
unfolding table
table_opposite f zero = refl
table_opposite f (suc n) = ap (λ l. l ++ (neg_ℤ (f n) ∷ [])) (table_opposite f n) ∙ sym (map-append neg_ℤ (table f n) (f n ∷ []))

-- ---- one part

sound_opposite : (p : Part) (w : ℤ) → sound_wave p (neg_ℤ w) ≡ sound_wave p w
sound_opposite Blank w = rw (nat_abs-neg w)
sound_opposite (Leaf (Resistor o)) w = rw (nat_abs-neg w)
sound_opposite (Leaf (Capacitor c)) w = rw (nat_abs-neg w)
sound_opposite (Leaf (Inductor l)) w = rw (nat_abs-neg w)
sound_opposite (Leaf (Input o)) w = rw (nat_abs-neg w)
sound_opposite (Leaf (Steady o v)) w = rw (nat_abs-neg w)
sound_opposite (Adaptor a) w = rw (nat_abs-neg w)

module _ (ρ : Rounding) where
  part_sends_lem : (x s : ℤ) (p : Part) → Silent p → part_sends (whole_waves ρ) (neg_ℤ x) (neg_ℤ s) p ≡ neg_ℤ (part_sends (whole_waves ρ) x s p)
  unfolding sends Silent
  part_sends_lem x s Blank q = refl
  part_sends_lem x s (Leaf (Resistor o)) q = refl
  part_sends_lem x s (Leaf (Capacitor c)) q = refl
  part_sends_lem x s (Leaf (Inductor l)) q = refl
  part_sends_lem x s (Leaf (Input o)) q = refl
  part_sends_lem x s (Leaf (Steady o v)) q = q ∙ sym (ap neg_ℤ q)
  part_sends_lem x s (Adaptor a) q = refl

  part_stores_lem : (p : Part) (a : ℤ) → part_stores (whole_waves ρ) p (neg_ℤ a) ≡ neg_ℤ (part_stores (whole_waves ρ) p a)
  unfolding stores
  part_stores_lem Blank a = refl
  part_stores_lem (Leaf (Resistor o)) a = refl
  part_stores_lem (Leaf (Capacitor c)) a = refl
  part_stores_lem (Leaf (Inductor l)) a = refl
  part_stores_lem (Leaf (Input o)) a = refl
  part_stores_lem (Leaf (Steady o v)) a = refl
  part_stores_lem (Adaptor b) a = refl

  turned_opposite : (b : Bool) (a : ℤ) → turned (whole_waves ρ) b (neg_ℤ a) ≡ neg_ℤ (turned (whole_waves ρ) b a)
  turned_opposite true a = refl
  turned_opposite false a = refl

-- ---- a sample

module _ {r : Record} (balanced : Balanced r) where
  abbrev 𝓐 : Arithmetic
  𝓐 = rounded r

  module _ (d : Drawn r) (ws : List ℤ) (x : ℤ) where
    abbrev stored : ℕ → ℤ
    stored = stored_at ws

    abbrev stored' : ℕ → ℤ
    stored' = stored_at (opposite ws)

    sent_opposite : (j : ℕ) → sent 𝓐 r stored' (neg_ℤ x) j ≡ neg_ℤ (sent 𝓐 r stored x j)
    unfolding sent
    sent_opposite j = rw (get_or-map neg_ℤ ws j (pos 0)) (part_sends_lem (rounding_of r.version) x (stored j) (part_at r j) (balanced.silent j))

    raised_opposite : (j : ℕ) → raised 𝓐 r stored' (neg_ℤ x) j ≡ neg_ℤ (raised 𝓐 r stored x j)
    unfolding raised
    raised_opposite j =
        ap (turned 𝓐 (reversed_at r j)) (sent_opposite j) ∙ turned_opposite (rounding_of r.version) (reversed_at r j) (sent 𝓐 r stored x j)

    over : Opposites (rounding_of r.version) (reflected r) (reflected r) r r stored stored' x (neg_ℤ x)
    over =
        opposites (version_2_odd balanced.even.version) (reflected r) (reflected r) (pair_odd d balanced.even.kind) r r refl refl stored stored' x (neg_ℤ x)
        raised_opposite

    arriving_opposite : (j : ℕ) → arriving 𝓐 (reflected r) r stored' (neg_ℤ x) j ≡ neg_ℤ (arriving 𝓐 (reflected r) r stored x j)
    unfolding arriving
    arriving_opposite j =
        ap (turned 𝓐 (reversed_at r j)) (over.below j)
        ∙ turned_opposite (rounding_of r.version) (reversed_at r j) (reached 𝓐 (reflected r) r stored x j)

    kept_opposite : (j : ℕ) → kept 𝓐 (reflected r) r stored' (neg_ℤ x) j ≡ neg_ℤ (kept 𝓐 (reflected r) r stored x j)
    unfolding kept
    kept_opposite j =
        ap (part_stores 𝓐 (part_at r j)) (arriving_opposite j)
        ∙ part_stores_lem (rounding_of r.version) (part_at r j) (arriving 𝓐 (reflected r) r stored x j)

    output_opposite : output 𝓐 (reflected r) r stored' (neg_ℤ x) ≡ neg_ℤ (output 𝓐 (reflected r) r stored x)
    unfolding output
    output_opposite =
        let own = sent 𝓐 r stored x r.tap in
        let comes = arriving 𝓐 (reflected r) r stored x r.tap in
        either (eqb r.tap top) neg_ℤ _ (own +ℤ comes) _ _ (λ q. over.top)
        (λ q. ap₂ ◌+ℤ◌ (sent_opposite r.tap) (arriving_opposite r.tap) ∙ sum_opposite own comes)

    sample_opposite : sampled r (opposite ws) (neg_ℤ x) ≡ changed neg_ℤ opposite (sampled r ws x)
    sample_opposite =
        let keeps = kept 𝓐 (reflected r) r stored x in
        sample_changed r r (λ j. refl) ws (opposite ws) x (neg_ℤ x) (nat_abs-neg x) over.top_size over.size neg_ℤ opposite
        (pair_segment r balanced.even.kind _ _ over.top_size) output_opposite
        (table_same _ (λ j. neg_ℤ (keeps j)) row_limit (λ j l. kept_opposite j) ∙ table_opposite keeps row_limit)

  -- ---- a run, with any output buffer of the same length

  module _ (ws xs os os' : List ℤ) (long : length os' ≡ length os) where
    waves_judged : stored_waves_rule r (opposite ws) ≡ stored_waves_rule r ws
    unfolding stored_waves_rule
    waves_judged =
        lowest_same _ _ row_limit
        (λ j l. ap not (ap (sound_wave (part_at r j)) (get_or-map neg_ℤ ws j (pos 0)) ∙ sound_opposite (part_at r j) (stored_at ws j)))

    pub ran_opposite : Sized r → Opposed (ran (call r ws xs os)) (ran (call r (opposite ws) (opposite xs) os'))
    ran_opposite sized =
        ran_changed r r neg_ℤ neg_ℤ opposite ws xs (opposite xs) os os' refl long refl waves_judged (λ e. sample_opposite (accepting r sized e).drawn)

-- ---- by what runs promise

module _ {r : Record} (sized : Sized r) (balanced : Balanced r) (ws xs os os' : List ℤ) (long : length os' ≡ length os) (p q : Progress) (out inverse : List ℤ) where
  pub null_test : Runs (call r ws xs os) p out → Runs (call r (opposite ws) (opposite xs) os') q inverse → Nulls p q out inverse
  null_test runs runs' =
      let h = runs_changed neg_ℤ opposite refl _ _ p q out inverse (ran_opposite balanced ws xs os os' long sized) runs runs' in
      record {
        number = h.number;
        samples = h.samples;
        segment = h.segment;
        waves = h.waves;
        silence = λ i l. rw (h.outputs i l) (ring (get_or out i (pos 0) ∷ []) (var 0 ⊕ ⊖ (var 0)) (con (pos 0)) refl);
      }
