-- What a call hands back, carries on and leaves: where it is refused before its samples, and where they are worked from the raw bytes.
use Prim.Native.Nat.{ℕ, zero, suc, ◌+◌, ◌*◌, ◌/◌, ◌<◌, ◌≤◌}
use native.Mathlib.Omega.{arith}
use borrow.Author.Tests.{ne_eqb}
use mathlib.Core.Path.{◌≡◌, refl, sym, ap, ◌∙◌}
use mathlib.Core.Logic.{◌⊎◌, ⊎_elim}
use mathlib.Core.Bool.{cond}
use mathlib.Core.List.{List, [], ◌++◌}
use lib.Dec.{eqb}
use lib.ListN.{length, take}
use lib.Seq.{take_all}
use Rattle.std.specs.Prelude.{Err, None}
use Rattle.circuit.specs.Numbers.{Report, judge, handed, told}
use Rattle.circuit.specs.File.{zeros}
use Rattle.circuit.specs.Run.{Played, play, charged_rules, no_segment, report_after}
use Rattle.circuit.specs.Take.{sample_length, output_length, left_limit, samples_of, left_over, stored, Feeding, feeding, under_way, available, feed_rules, Fed, nothing_taken, fed}
use Rattle.circuit.specs.Promises.{shown_segment, Feeds}
use Rattle.circuit.specs.declared.Carried.{Carried}
use Rattle.circuit.specs.declared.Feed.{Feed}
use Rattle.circuit.specs.declared.Progress.{Progress}
use Rattle.circuit.specs.declared.Record.{Record}
use Rattle.circuit.specs.declared.Refusal.{Refusal}
use Rattle.circuit.specs.declared.Refusal.TheVariants.{Overload}
use Rattle.laws.proofs.Playing.{play_short}
use Rattle.laws.proofs.Bytes.{samples_number}
use Rattle.laws.proofs.Judging.{else_first}
use Rattle.laws.proofs.Charging.{charged_below}
use Rattle.laws.proofs.Refusals.{one_refusal}
use Rattle.laws.proofs.Trying.{told_above}
use Rattle.laws.proofs.Taking.{carried_rules, take_judged, fed_refused, fed_taken}
use Rattle.engine.specs.Raw.{RawCall, raw_call, RanRaw, raw_worked, raw_turned_away, ran_raw, RunsRaw}
use Rattle.engine.proofs.RawRuns.{ran_raw_refused, ran_raw_worked}
use Rattle.takes.specs.Own.{Ready}
use Rattle.takes.proofs.Deciding.{whole_samples, ready_open}

-- ---- what is promised, from what the call makes

pub feeds : (f : Feeding) (s : Feed) (after : List ℕ) (g : Fed) → fed f ≡ g
    → handed s.answer ≡ g.handed_back → s.done ≡ g.samples → s.segment ≡ shown_segment g.segment → s.carried ≡ g.carried → after ≡ g.room → Feeds f s after
feeds f s after g e n d l c r = record {
  number = n ∙ ap (λ (g : Fed). g.handed_back) (sym e);
  samples = d ∙ ap (λ (g : Fed). g.samples) (sym e);
  segment = l ∙ ap (λ (g : Fed). shown_segment g.segment) (sym e);
  carried = c ∙ ap (λ (g : Fed). g.carried) (sym e);
  room = r ∙ ap (λ (g : Fed). g.room) (sym e);
}

-- a refused call
pub feeds_refused : (f : Feeding) (s : Feed) (after : List ℕ) (d : Refusal)
    → s ≡ record { answer = Err d; done = 0; segment = None; carried = f.carried }
    → fed f ≡ record { handed_back = told d; samples = 0; segment = no_segment; carried = f.carried; room = after } → Feeds f s after
feeds_refused f s after d e h =
    feeds f s after _ h (ap (λ (x : Feed). handed x.answer) e) (ap (λ (x : Feed). x.done) e) (ap (λ (x : Feed). x.segment) e)
    (ap (λ (x : Feed). x.carried) e) refl

-- it takes nothing
pub fed_kept : (f : Feeding) (d : Refusal) → told d ≡ judge feed_rules f → fed f ≡ nothing_taken f (told d)
unfolding fed
fed_kept f d e = let above = told_above d in rw (← e, ne_eqb (told d).number 0 (λ z. omega arith))

-- what a run over raw bytes handed back and left, where it is known what it ran
record Did (p : Progress) (after : List ℕ) (x : RanRaw) : Type 0 where
  number : handed p.answer ≡ x.handed_back
  samples : p.done ≡ x.samples
  segment : p.segment ≡ shown_segment x.segment
  waves : p.state.waves ≡ x.waves
  room : after ≡ x.room

did : {c : RawCall} {p : Progress} {after : List ℕ} {x : RanRaw} → RunsRaw c p after → ran_raw c ≡ x → Did p after x
did h e = record {
  number = h.number ∙ ap (λ (y : RanRaw). y.handed_back) e;
  samples = h.samples ∙ ap (λ (y : RanRaw). y.samples) e;
  segment = h.segment ∙ ap (λ (y : RanRaw). shown_segment y.segment) e;
  waves = h.waves ∙ ap (λ (y : RanRaw). y.waves) e;
  room = h.room ∙ ap (λ (y : RanRaw). y.room) e;
}

after_number : (n k : ℕ) → (report_after n k).number ≡ k
after_number n zero = refl
after_number n (suc k) = refl

-- 15 is one case of a refusal
overloaded : (d : Refusal) → ((i : ℕ) → d ≡ Overload i → ⊥) → (told d).number ≡ 15 → ⊥
unfolding told
overloaded d none e = none (told d).place (one_refusal d (Overload (told d).place) refl (λ i. record { number = sym e i; place = (told d).place }))

-- ---- a call that its own rules pass, and a run over its bytes

pub record Run (r : Record) (c : Carried) (s o : List ℕ) (p : Progress) (after : List ℕ) : Type 0 where
  pub sized : length c.left ≡ left_limit
  pub ready : Ready (length s) (length o) c
  pub promised : RunsRaw (raw_call r c.state.waves (available (feeding r c s o)) o) p after

module _ {r : Record} {c : Carried} {s o : List ℕ} {p : Progress} {after : List ℕ} (run : Run r c s o p after) where
  abbrev call : Feeding
  call = feeding r c s o

  abbrev raw : RawCall
  raw = raw_call r c.state.waves (available call) o

  abbrev here : Played
  here = play r c.state.waves (samples_of (available call))

  -- 3 to 12
  abbrev first : Report
  first = judge charged_rules (stored (under_way call))

  how_many : length (samples_of (available call)) ≡ (c.count + length s) / sample_length
  how_many = whole_samples r c s o run.sized run.ready.count

  -- the circuit passes, and every sample is played
  passed : first.number ≡ 0 → Did p after (raw_worked raw here)
  passed z =
      let all = take_all (length o / output_length) (samples_of (available call)) (omega (arith, how_many, run.ready.room)) in
      did run.promised (ran_raw_worked raw z ∙ ap (λ xs. raw_worked raw (play r c.state.waves xs)) all)

  -- or it is refused
  refused : 0 < first.number → Did p after (raw_turned_away raw first)
  refused l = did run.promised (ran_raw_refused raw l)

  played_number : first.number ≡ 0 → here.number ≡ (handed p.answer).number
  played_number z = sym (ap (λ (n : Report). n.number) (passed z).number ∙ after_number (length here.outputs) here.number)

  pub few_done : p.done ≤ (c.count + length s) / sample_length
  few_done = by first.number refl
    where
      by : (n : ℕ) → first.number ≡ n → p.done ≤ (c.count + length s) / sample_length
      by zero z = omega (arith, (passed z).samples, play_short r c.state.waves (samples_of (available call)), how_many)
      by (suc n) z = omega (arith, (refused (omega arith)).samples)

  -- ---- what the call makes of it

  -- every sample is done, or one is refused: n is 0 or 15
  abbrev pub kept : ℕ → List ℕ
  kept n = cond (eqb n 0) (left_over (available call)) []

  abbrev pub next : ℕ → Carried
  next n = record {
    state = record { waves = p.state.waves };
    left = take left_limit (kept n ++ zeros left_limit);
    count = length (kept n);
    done = c.done + p.done;
    held = n;
  }

  pub feeds_played : (n : ℕ) → (handed p.answer).number ≡ n → (n ≡ 0) ⊎ (n ≡ 15) → (t : Feed)
      → handed t.answer ≡ report_after (c.done + p.done) n → t.done ≡ p.done → t.segment ≡ p.segment → t.carried ≡ next n → Feeds call t after
  feeds_played n q d t answer many segment carried = by first.number refl
    where
      by : (m : ℕ) → first.number ≡ m → Feeds call t after
      by zero z =
          let w = passed z in
          feeds call t after _ (fed_taken call (ready_open (under_way call) run.ready z) (run.ready.room ∙ ap (λ n. output_length * n) (sym how_many)))
          (answer ∙ rw (played_number z ∙ q, w.samples)) (many ∙ w.samples) (segment ∙ w.segment)
          (carried ∙ rw (played_number z ∙ q, w.samples, w.waves)) w.room
      by (suc m) z =
          let same = ap (λ (n : Report). n.number) (refused (omega arith)).number in
          absurd (⊎_elim (λ e. omega arith) (λ e. omega (arith, charged_below (stored (under_way call)))) d)

  -- the circuit is refused
  pub fed_unplayed : (d : Refusal) → p.answer ≡ Err d → ((i : ℕ) → d ≡ Overload i → ⊥)
      → fed call ≡ record { handed_back = told d; samples = 0; segment = no_segment; carried = c; room = after }
  fed_unplayed d e none = by first.number refl
    where
      by : (m : ℕ) → first.number ≡ m → fed call ≡ record { handed_back = told d; samples = 0; segment = no_segment; carried = c; room = after }
      by zero z =
          let same = played_number z ∙ ap (λ a. (handed a).number) e in
          let above = told_above d in
          absurd (overloaded d none (sym same ∙ samples_number r c.state.waves (available call) (omega arith)))
      by (suc m) z =
          let above : 0 < first.number = omega arith in
          let take = take_judged (under_way call) ∙ else_first first (judge carried_rules (under_way call)) above in
          let w = refused above in
          let same = ap handed (sym e) ∙ w.number in
          fed_refused call (rw take above) ∙ rw (take, same, w.room)
