-- From samples to runs: where each sample of a circuit is that of another, changed, so is every run. A sample is so where its waves at the top
-- and at the leaves have the sizes of the other's, and what it puts out and stores is the other's, changed.
use Prim.Native.Nat.{ℕ, zero, suc}
use native.Mathlib.Omega.{arith}
use mathlib.Core.Path.{◌≡◌, refl, sym, ap, ap₂, ◌∙◌}
use mathlib.Core.Bool.{Bool, true, false, not, ◌&&◌, ◌||◌, cond}
use mathlib.Core.List.{List, [], ◌∷◌, map}
use lib.Dec.{leb}
use lib.ListN.{length, take, get_or, length-map, get_or-map}
use lib.Seq.{take-append_seam, get_or-take}
use lib.IntN.{ℤ, pos, nat_abs}
use Rattle.whole.specs.Order.{nat_abs-neg}
use Rattle.circuit.specs.Counting.{within, table}
use Rattle.circuit.specs.Numbers.{done, judge}
use Rattle.circuit.specs.Record.{row_limit, source_limit, part_at, reversed_at, is_leaf}
use Rattle.circuit.specs.SetUp.{set_up_report}
use Rattle.circuit.specs.Curve.{wave_limit, reflected, segment}
use Rattle.circuit.specs.Sample.{Rounding, whole_waves, rounding_of, rounded, turned, risen, reached, arriving, kept, output, Sampled, refused, finished, stored_at, in_limit, sampled}
use Rattle.circuit.specs.Run.{Played, play, leading, stored_waves_rule, lengths_rule, Call, call, charged, run_rules, ran}
use Rattle.circuit.specs.Promises.{Runs, shown_segment}
use Rattle.circuit.specs.declared.Record.{Record}
use Rattle.circuit.specs.declared.Progress.{Progress}
use Rattle.laws.proofs.Counting.{every_same}
use Rattle.laws.proofs.Judging.{◌or_else◌}
use Rattle.laws.proofs.Alike.{judge_alike}
use Rattle.laws.proofs.Charging.{charged_judged}
use Rattle.laws.proofs.Playing.{play_refused, play_finished}
use Rattle.laws.proofs.Running.{run_judged, zero_allowed, ran_refused, ran_worked}
use Rattle.theorems.specs.Changed.{changed, changed_play, Changed, Answers}

-- ---- a sample

-- by its two tests, its output, its segment and its waves
abbrev outcome : Bool → Bool → ℤ → ℕ → List ℤ → Sampled
outcome a b v s next = cond a (cond b (finished v s next) (refused 15)) (refused 14)

outcome_changed : (turn : ℤ → ℤ) (carry : List ℤ → List ℤ) (a b : Bool) (v : ℤ) (s : ℕ) (next : List ℤ)
    → outcome a b (turn v) s (carry next) ≡ changed turn carry (outcome a b v s next)
outcome_changed turn carry true true v s next = refl
outcome_changed turn carry true false v s next = refl
outcome_changed turn carry false b v s next = refl

-- what a test picks, where each of the two is changed
pub either : (b : Bool) (turn : ℤ → ℤ) (v w v' w' : ℤ) → (b ≡ true → v' ≡ turn v) → (b ≡ false → w' ≡ turn w) → cond b v' w' ≡ turn (cond b v w)
either true turn v w v' w' e f = e refl
either false turn v w v' w' e f = f refl

-- which way round a leaf is changes nothing of a wave's size
turned_size : (ρ : Rounding) (b : Bool) (a : ℤ) → nat_abs (turned (whole_waves ρ) b a) ≡ nat_abs a
turned_size ρ true a = nat_abs-neg a
turned_size ρ false a = refl

-- samples x of r from ws and x' of s from ws', with waves of the same sizes
module _ (r s : Record) (part : (j : ℕ) → part_at s j ≡ part_at r j) (ws ws' : List ℤ) (x x' : ℤ) (source : nat_abs x' ≡ nat_abs x)
    (top : nat_abs (risen (rounded s) s (stored_at ws') x') ≡ nat_abs (risen (rounded r) r (stored_at ws) x))
    (below : (j : ℕ) → nat_abs (reached (rounded s) (reflected s) s (stored_at ws') x' j) ≡ nat_abs (reached (rounded r) (reflected r) r (stored_at ws) x j)) where
  arriving_size : (j : ℕ) → nat_abs (arriving (rounded s) (reflected s) s (stored_at ws') x' j) ≡ nat_abs (arriving (rounded r) (reflected r) r (stored_at ws) x j)
  unfolding arriving
  arriving_size j =
      turned_size (rounding_of s.version) (reversed_at s j) (reached (rounded s) (reflected s) s (stored_at ws') x' j)
      ∙ below j ∙ sym (turned_size (rounding_of r.version) (reversed_at r j) (reached (rounded r) (reflected r) r (stored_at ws) x j))

  limit_same : in_limit s ws' x' ≡ in_limit r ws x
  unfolding in_limit
  limit_same =
      ap₂ ◌&&◌ (ap (λ n. leb n wave_limit) top)
      (every_same _ _ row_limit (λ j l. ap₂ (λ p b. not (is_leaf p) || b) (part j) (ap (λ n. leb n wave_limit) (arriving_size j))))

  pub sample_changed : (turn : ℤ → ℤ) (carry : List ℤ → List ℤ)
      → segment s (risen (rounded s) s (stored_at ws') x') ≡ segment r (risen (rounded r) r (stored_at ws) x)
      → output (rounded s) (reflected s) s (stored_at ws') x' ≡ turn (output (rounded r) (reflected r) r (stored_at ws) x)
      → table (kept (rounded s) (reflected s) s (stored_at ws') x') row_limit ≡ carry (table (kept (rounded r) (reflected r) r (stored_at ws) x) row_limit)
      → sampled s ws' x' ≡ changed turn carry (sampled r ws x)
  unfolding sampled
  sample_changed turn carry used out stores =
      (λ i. outcome (leb (source i) source_limit) (limit_same i) (out i) (used i) (stores i))
      ∙ outcome_changed turn carry (within source_limit x) (in_limit r ws x) (output (rounded r) (reflected r) r (stored_at ws) x) _ _

-- ---- samples in order, each sample changed by `feed`

module _ (r s : Record) (turn feed : ℤ → ℤ) (carry : List ℤ → List ℤ) where
  abbrev Each : Type 0
  Each = (ws : List ℤ) (x : ℤ) → sampled s (carry ws) (feed x) ≡ changed turn carry (sampled r ws x)

  play_changed : Each → (ws xs : List ℤ) → play s (carry ws) (map feed xs) ≡ changed_play turn carry (play r ws xs)
  unfolding play
  play_changed each ws [] = refl
  play_changed each ws (x ∷ xs) = by (sampled r ws x) refl (λ next. play_changed each next xs)
    where
      by : (o : Sampled) → sampled r ws x ≡ o → ((next : List ℤ) → play s (carry next) (map feed xs) ≡ changed_play turn carry (play r next xs))
          → play s (carry ws) (feed x ∷ map feed xs) ≡ changed_play turn carry (play r ws (x ∷ xs))
      by (refused n) e later =
          play_refused s (carry ws) (feed x) (map feed xs) n (each ws x ∙ ap (changed turn carry) e)
          ∙ sym (ap (changed_play turn carry) (play_refused r ws x xs n e))
      by (finished v n next) e later =
          play_finished s (carry ws) (feed x) (map feed xs) (turn v) n (carry next) (each ws x ∙ ap (changed turn carry) e)
          ∙ ap {B = Played} (leading (turn v) n) (later next)
          ∙ sym (ap (changed_play turn carry) (play_finished r ws x xs v n next e))

  -- ---- a run, with any output buffer of the same length, where set-up and rule 12 say the same

  module _ (ws xs xs' os os' : List ℤ) (fed : xs' ≡ map feed xs) (long : length os' ≡ length os) (set_up : set_up_report s ≡ set_up_report r)
      (sound : stored_waves_rule s (carry ws) ≡ stored_waves_rule r ws) where
    abbrev c : Call
    c = call r ws xs os

    abbrev c' : Call
    c' = call s (carry ws) xs' os'

    lengths_judged : lengths_rule c' ≡ lengths_rule c
    unfolding lengths_rule
    lengths_judged = rw (fed, length-map xs feed, long)

    judged : judge run_rules c' ≡ judge run_rules c
    judged =
        run_judged c'
        ∙ ap₂ ◌or_else◌
        (charged_judged (charged c') ∙ ap₂ ◌or_else◌ set_up (judge_alike _ (charged c') (charged c) (sound, tt)) ∙ sym (charged_judged (charged c)))
        (judge_alike _ c' c (lengths_judged, tt))
        ∙ sym (run_judged c)

    pub ran_changed : (set_up_report r ≡ done → Each) → Changed turn carry (ran c) (ran c')
    ran_changed each = by (judge run_rules c).number refl
      where
        by : (n : ℕ) → (judge run_rules c).number ≡ n → Changed turn carry (ran c) (ran c')
        by (suc n) e =
            rw (ran_refused c (omega arith), ran_refused c' (rw judged (omega arith)))
            (record { handed_back = judged; samples = refl; segment = refl; waves = refl; outputs = refl })
        by zero e =
            let p = play r ws xs in
            let played : play s (carry ws) xs' ≡ changed_play turn carry p =
            ap (play s (carry ws)) fed ∙ play_changed (each (zero_allowed c e).cleared.set_up) ws xs in
            rw (ran_worked c e, ran_worked c' (ap (λ n. n.number) judged ∙ e), played)
            (record {
              handed_back = rw (length-map p.outputs turn) refl;
              samples = length-map p.outputs turn;
              segment = refl;
              waves = refl;
              outputs = take-append_seam (map turn p.outputs) _ ∙ sym (ap (map turn) (take-append_seam p.outputs _));
            })

-- ---- by what runs promise

module _ (turn : ℤ → ℤ) (carry : List ℤ → List ℤ) (silence : turn (pos 0) ≡ pos 0) (c c' : Call) (p q : Progress) (out out' : List ℤ) where
  pub runs_changed : Changed turn carry (ran c) (ran c') → Runs c p out → Runs c' q out' → Answers turn carry p q out out'
  runs_changed h runs runs' =
      let done : q.done ≡ p.done = runs'.samples ∙ h.samples ∙ sym runs.samples in
      let outputs : take p.done out' ≡ map turn (take p.done out) =
      ap₂ take (sym done ∙ runs'.samples) runs'.output ∙ h.outputs ∙ ap (map turn) (ap₂ take (sym runs.samples) (sym runs.output)) in
      record {
        number = runs'.number ∙ h.handed_back ∙ sym runs.number;
        samples = done;
        segment = runs'.segment ∙ ap shown_segment h.segment ∙ sym runs.segment;
        waves = runs'.waves ∙ h.waves ∙ ap carry (sym runs.waves);
        outputs = λ i l.
            sym (get_or-take p.done out' i (pos 0) l) ∙ ap₂ (λ s d. get_or s i d) outputs (sym silence)
            ∙ get_or-map turn (take p.done out) i (pos 0) ∙ ap turn (get_or-take p.done out i (pos 0) l);
      }
