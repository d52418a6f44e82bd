-- However the bytes of a take are cut, it comes to one run over all its whole samples. A call for each piece is one call over all the bytes: a
-- call without a refused sample is followed by the samples of the others, and after a refused one nothing more happens.
use Prim.Native.Nat.{ℕ, zero, suc, ◌+◌, ◌*◌, ◌<◌, ◌≤◌}
use native.Mathlib.Nat.{add-zero}
use native.Mathlib.Omega.{arith}
use borrow.Author.Tests.{ne_eqb}
use mathlib.Core.Path.{◌≡◌, refl, sym, ap, ◌∙◌}
use mathlib.Core.Logic.{inr}
use mathlib.Core.Bool.{cond}
use mathlib.Core.List.{List, [], ◌∷◌, ◌++◌, append_assoc, append-nil}
use lib.Dec.{eqb, lit<, eqb-suc-zero}
use lib.ListN.{length, take, drop, length-append}
use lib.Seq.{take-append_seam, drop-append-le, drop-append-add, drop-length}
use lib.IntN.{ℤ}
use Rattle.circuit.specs.Numbers.{report, done, judge}
use Rattle.circuit.specs.SetUp.{set_up_report}
use Rattle.circuit.specs.Run.{Played, Call, call, no_segment, report_after, worked, ran}
use Rattle.circuit.specs.Take.{output_length, take_limit, samples_of, left_over, output_bytes, take_of, fresh_take, take_rules, Feeding, feeding, available, left_after, taken, nothing_taken, fed, ended}
use Rattle.circuit.specs.declared.Carried.{Carried}
use Rattle.circuit.specs.declared.Record.{Record}
use Rattle.laws.proofs.Segments.{last_append}
use Rattle.laws.proofs.Playing.{◌followed_by◌, play_on, play_stop, play_short, play_length, play_segments}
use Rattle.laws.proofs.Running.{report_after_lem, ran_worked}
use Rattle.laws.proofs.Bytes.{samples_of-append, left_over-append, length-left_over, left_carried, output_bytes-append, samples_number}
use Rattle.laws.proofs.Judging.{◌or_else◌, else_next, else_first}
use Rattle.laws.proofs.Taking.{open_charged, open_held, ended_judged, right_room, played, fed_refused, fed_taken, taken_remembered, fed_remembered, fresh_judged}
use Rattle.theorems.specs.Pieces.{later}
use Rattle.theorems.specs.Takes.{TakePiece, all_bytes, all_room, Outcome, last_call, ◌ahead◌, piece_call, in_calls, Roomy, joined, in_one_run, Settled}
use Rattle.theorems.proofs.Cutting.{later_report, judge_fits}

-- ---- after a refusal

-- where what is carried is refused, calls in turn are refused as one is
refused_calls : (r : Record) (c : Carried) (p : TakePiece) (ps : List TakePiece) → 0 < (judge take_rules (take_of r c)).number
    → in_calls r c p ps ≡ last_call r (nothing_taken (feeding r c [] (all_room (p ∷ ps))) (judge take_rules (take_of r c)))
unfolding in_calls all_room
refused_calls r c p [] l = rw (fed_refused (piece_call r c p) l, append-nil p.room) refl
refused_calls r c p (q ∷ qs) l = rw (fed_refused (piece_call r c p) l, refused_calls r c q qs l) refl

-- ---- a call, and the samples of the pieces after it

module _ (r : Record) (c : Carried) (p : TakePiece) (ps : List TakePiece) where
  abbrev first : Feeding
  first = piece_call r c p

  abbrev all : Feeding
  all = feeding r c (all_bytes (p ∷ ps)) (all_room (p ∷ ps))

  -- the pieces after the first
  abbrev others : Carried → Feeding
  others d = feeding r d (all_bytes ps) (all_room ps)

  -- their samples, with the bytes that the first leaves over
  abbrev further : List ℤ
  further = samples_of (left_over (available first) ++ all_bytes ps)

  all_bytes_lem : available all ≡ available first ++ all_bytes ps
  unfolding all_bytes
  all_bytes_lem = sym (append_assoc (take c.count c.left) p.bytes (all_bytes ps))

  all_samples : samples_of (available all) ≡ samples_of (available first) ++ further
  all_samples = ap samples_of all_bytes_lem ∙ samples_of-append (available first) (all_bytes ps)

  -- the first call done, and then the samples of the others
  done_call : (x y : Played) → x.number ≡ 0 → length p.room ≡ output_length * length x.outputs → length y.segments ≡ length y.outputs
      → taken first x ahead last_call r (taken (others (taken first x).carried) y) ≡ last_call r (taken all (x followed_by y))
  unfolding all_room
  done_call x y z e s =
      let m = length x.outputs in
      let n = length y.outputs in
      let sum : c.done + (m + n) ≡ c.done + m + n = omega arith in
      let bytes : output_length * (m + n) ≡ length p.room + output_length * n = omega arith in
      let filled : drop (output_length * m) p.room ≡ [] = ap (λ k. drop k p.room) (sym e) ∙ drop-length p.room in
      rw (
        z,
        left_carried (left_over (available first)) (length-left_over (available first)),
        ap left_over all_bytes_lem ∙ left_over-append (available first) (all_bytes ps),
        length-append x.outputs y.outputs,
        last_append no_segment x.segments y.segments,
        s,
        sum,
        bytes,
        drop-append-add p.room (all_room ps) (output_length * n),
        filled,
        output_bytes-append x.outputs y.outputs,
        append-nil (output_bytes x.outputs),
        append_assoc (output_bytes x.outputs) (output_bytes y.outputs) (drop (output_length * n) (all_room ps)),
      )

  -- the first call stopped, and no sample of the others
  stopped_call : (x : Played) → 0 < x.number → output_length * length x.outputs ≤ length p.room
      → taken first x ahead last_call r (nothing_taken (others (taken first x).carried) (taken first x).handed_back) ≡ last_call r (taken all x)
  unfolding all_room
  stopped_call x l e =
      let m = output_length * length x.outputs in
      rw (
        ne_eqb x.number 0 (λ z. omega arith),
        add-zero (length x.outputs),
        drop-append-le m p.room (all_room ps) e,
        append_assoc (output_bytes x.outputs) (drop m p.room) (all_room ps),
      )

  -- ---- the first call, where no rule refuses it

  abbrev here : Played
  here = played first

  abbrev next : Carried
  next = (taken first here).carried

  module _ (z : (judge take_rules (take_of r c)).number ≡ 0)
      (e : length p.room ≡ right_room first)
      (l : c.done + length (samples_of (available all)) ≤ take_limit) where
    short : length here.outputs ≤ length (samples_of (available first))
    short = play_short r c.state.waves (samples_of (available first))

    sizes : length (samples_of (available all)) ≡ length (samples_of (available first)) + length further
    sizes = ap length all_samples ∙ length-append (samples_of (available first)) further

    remembered : judge take_rules (take_of r next) ≡ (taken first here).handed_back
    remembered = taken_remembered first z (omega (arith, short, sizes))

    -- what is carried on lets the others pass, or is refused
    module _ (h : here.number ≡ 0) where
      left_next : available (others next) ≡ left_over (available first) ++ all_bytes ps
      left_next = rw h (ap (λ s. s ++ all_bytes ps) (left_carried (left_over (available first)) (length-left_over (available first))))

      open_next : (judge take_rules (take_of r next)).number ≡ 0
      open_next = ap (λ n. n.number) remembered ∙ rw h refl

      limit_next : next.done + length (samples_of (available (others next))) ≤ take_limit
      limit_next = rw left_next (omega (arith, short, sizes))

      all_done : played all ≡ here followed_by played (others next)
      all_done = rw (all_samples, left_next) (play_on r further c.state.waves (samples_of (available first)) h)

      filled : length p.room ≡ output_length * length here.outputs
      filled = e ∙ ap (λ n. output_length * n) (sym (play_length r c.state.waves (samples_of (available first)) h))

    module _ (m : 0 < here.number) where
      refused_next : 0 < (judge take_rules (take_of r next)).number
      refused_next = rw (remembered, report_after_lem here.number (c.done + length here.outputs) m) m

      all_stopped : played all ≡ here
      all_stopped = rw all_samples (play_stop r further c.state.waves (samples_of (available first)) m)

    step : (rest : Outcome)
        → ((judge take_rules (take_of r next)).number ≡ 0 → next.done + length (samples_of (available (others next))) ≤ take_limit
        → rest ≡ last_call r (taken (others next) (played (others next))))
        → (0 < (judge take_rules (take_of r next)).number → rest ≡ last_call r (nothing_taken (others next) (judge take_rules (take_of r next))))
        → taken first here ahead rest ≡ last_call r (taken all (played all))
    step rest on off = by here.number refl
      where
        by : (n : ℕ) → here.number ≡ n → taken first here ahead rest ≡ last_call r (taken all (played all))
        by zero h = rw (on (open_next h) (limit_next h), all_done h) (done_call here (played (others next)) h (filled h) (play_segments r next.state.waves (samples_of (available (others next)))))
        by (suc k) h =
            let m : 0 < here.number = omega arith in
            rw (off (refused_next m), remembered, all_stopped m) (stopped_call here m (omega (arith, short)))

-- ---- any number of calls

pub one_call : (r : Record) (c : Carried) (p : TakePiece) (ps : List TakePiece)
    → (judge take_rules (take_of r c)).number ≡ 0
    → Roomy r c (p ∷ ps)
    → c.done + length (samples_of (joined c (all_bytes (p ∷ ps)))) ≤ take_limit
    → in_calls r c p ps ≡ last_call r (taken (all r c p ps) (played (all r c p ps)))
unfolding in_calls all_bytes all_room
one_call r c p [] z fits l =
    rw (fed_taken (piece_call r c p) z (fits.0 (open_held (take_of r c) z)), append-nil p.bytes, append-nil p.room) refl
one_call r c p (q ∷ qs) z fits l =
    let e = fits.0 (open_held (take_of r c) z) in
    let took = fed_taken (piece_call r c p) z e in
    let d : Carried = next r c p (q ∷ qs) in
    let later : Roomy r d (q ∷ qs) = rw took at fits.1 in
    rw took (step r c p (q ∷ qs) z e l (in_calls r d q qs) (λ y. one_call r d q qs y later) (refused_calls r d q qs))

-- ---- one call is one run

after_number : (d n : ℕ) → (report_after d n).number ≡ n
after_number d zero = refl
after_number d (suc n) = refl

-- bytes are left over only where no sample is refused
end_after : (d n : ℕ) (s : List ℕ)
    → report_after d n or_else cond (eqb (length (cond (eqb n 0) s [])) 0) done (report 17 d)
    ≡ cond (eqb (length (cond (eqb n 0) s [])) 0) (report_after d n) (report 17 d)
end_after d zero s = refl
end_after d (suc n) s = rw (eqb-suc-zero n)

module _ (r : Record) (c : Carried) (bytes room : List ℕ) (output : List ℤ)
    (z : (judge take_rules (take_of r c)).number ≡ 0)
    (e : length (samples_of (joined c bytes)) ≡ length output)
    (l : c.done + length (samples_of (joined c bytes)) ≤ take_limit) where
  abbrev once : Feeding
  once = feeding r c bytes room

  abbrev run : Call
  run = call r c.state.waves (samples_of (joined c bytes)) output

  abbrev p : Played
  p = played once

  abbrev reached : ℕ
  reached = c.done + length p.outputs

  run_worked : ran run ≡ worked run p
  run_worked = ran_worked run (ap (λ n. n.number) (judge_fits run e) ∙ open_charged (take_of r c) z)

  told : later c.done (report_after (length p.outputs) p.number) ≡ report_after reached p.number
  told = later_report c.done (length p.outputs) p.number (λ m. inr (samples_number r c.state.waves (joined c bytes) m))

  end_told : ended (take_of r (taken once p).carried) ≡ cond (eqb (length (left_after once p)) 0) (report_after reached p.number) (report 17 reached)
  end_told =
      let short = play_short r c.state.waves (samples_of (joined c bytes)) in
      ended_judged (take_of r (taken once p).carried)
      ∙ ap (λ n. n or_else cond (eqb (length (left_after once p)) 0) done (report 17 reached)) (taken_remembered once z (omega arith))
      ∙ end_after reached p.number (left_over (joined c bytes))

  one_run : last_call r (taken once p) ≡ in_one_run r c bytes room output
  unfolding in_one_run
  one_run = rw (end_told, run_worked, told, after_number reached p.number, take-append_seam p.outputs (drop (length p.outputs) output))

-- ---- the theorem

-- from a state that 3 to 12 let pass and in which no refusal is held, and for any output of the run
pub cut_anywhere : (r : Record) (c : Carried) (p : TakePiece) (ps : List TakePiece) (output : List ℤ)
    → (judge take_rules (take_of r c)).number ≡ 0
    → Roomy r c (p ∷ ps)
    → length (samples_of (joined c (all_bytes (p ∷ ps)))) ≡ length output
    → c.done + length (samples_of (joined c (all_bytes (p ∷ ps)))) ≤ take_limit
    → in_calls r c p ps ≡ in_one_run r c (all_bytes (p ∷ ps)) (all_room (p ∷ ps)) output
cut_anywhere r c p ps output z fits e l = one_call r c p ps z fits l ∙ one_run r c (all_bytes (p ∷ ps)) (all_room (p ∷ ps)) output z e l

-- ---- after a refused sample, and before any

module _ (r : Record) (c : Carried) where
  settled : 0 < (judge take_rules (take_of r c)).number → Settled r c (judge take_rules (take_of r c))
  settled l = record {
    calls = λ bytes room. fed_refused (feeding r c bytes room) l;
    ending = ended_judged (take_of r c) ∙ else_first (judge take_rules (take_of r c)) _ l;
  }

-- a call that hands back 15, in a take up to its limit
pub refused_for_good : (f : Feeding) → (fed f).handed_back.number ≡ 15 → (fed f).carried.done ≤ take_limit
    → Settled f.circuit (fed f).carried (fed f).handed_back
refused_for_good f e l =
    let same = fed_remembered f (λ n. let z : ◌≡◌ {A = ℕ} 15 16 = sym e ∙ n in absurd (omega arith)) l in
    rw same at (settled f.circuit (fed f).carried (rw (same, e) (lit< tt)))

-- a take without a byte
pub fresh_ending : (r : Record) → (set_up_report r).number ≡ 0 → ended (take_of r fresh_take) ≡ done
unfolding fresh_take
fresh_ending r z = ended_judged (take_of r fresh_take) ∙ else_next (judge take_rules (take_of r fresh_take)) _ (ap (λ n. n.number) (fresh_judged r) ∙ z)
