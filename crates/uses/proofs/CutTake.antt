-- A call of a take in two calls, cut at a byte: one of the bytes before it, and one of the rest from what the first carried on. What the two
-- promise is what one call of all the bytes does.
use Prim.Native.Nat.{ℕ, zero, suc, ◌+◌, ◌*◌, ◌/◌, ◌<◌, ◌≤◌}
use native.Mathlib.Omega.{arith}
use borrow.Author.Tests.{leb-true, eqb-true}
use mathlib.Core.Path.{◌≡◌, refl, sym, ap, ap₂, ◌∙◌}
use mathlib.Core.Bool.{Bool, true, cond, and-eq-true_iff}
use mathlib.Core.List.{List, [], ◌∷◌, ◌++◌, append_assoc, append-nil}
use lib.Dec.{eqb, leb}
use lib.ListN.{length, take, drop, length-append, length-drop, take-append-drop}
use lib.Seq.{length-take-le}
use Rattle.std.specs.Prelude.{Option}
use Rattle.circuit.specs.Numbers.{judge}
use Rattle.circuit.specs.Take.{sample_length, output_length, left_limit, take_limit, samples_of, left_over, take_of, take_rules, Feeding, feeding, available, taken, fed}
use Rattle.circuit.specs.Promises.{shown_segment, Feeds}
use Rattle.circuit.specs.declared.Carried.{Carried}
use Rattle.circuit.specs.declared.Feed.{Feed}
use Rattle.circuit.specs.declared.Record.{Record}
use Rattle.laws.proofs.Playing.{play_short}
use Rattle.laws.proofs.Bytes.{samples_of-append, length-left_over, left_carried}
use Rattle.laws.proofs.Taking.{right_room, played, fed_refused, fed_taken}
use Rattle.theorems.specs.Takes.{TakePiece, all_bytes, all_room, Outcome, last_call, ◌ahead◌, in_calls}
use Rattle.theorems.proofs.Takes.{one_call}
use Rattle.takes.specs.Own.{room_for}
use Rattle.takes.proofs.Deciding.{whole_samples}
use Rattle.uses.specs.Promises.{can_cut}
use Rattle.uses.proofs.Cut.{shown_later}

-- ---- a call that can be cut

-- at byte `at`, with its room cut after the outputs of the first call
pub record Cuttable (c : Carried) (s o : List ℕ) (at : ℕ) : Type 0 where
  pub sized : length c.left ≡ left_limit
  pub limit : c.done + (c.count + length s) / sample_length ≤ take_limit
  pub inside : at ≤ length s
  pub few : c.count ≤ left_limit
  pub room : length o ≡ room_for (length s) c

pub cuttable : {c : Carried} {s o : List ℕ} {at : ℕ} {b : Bool}
    → length c.left ≡ left_limit → b ≡ can_cut c (length s) (length o) at → b ≡ true → Cuttable c s o at
cuttable {c} {s} {o} {at} {b} sized e t =
    let three = (and-eq-true_iff _ (eqb (length o) (room_for (length s) c))).0 (sym e ∙ t) in
    let two = (and-eq-true_iff _ (leb c.count left_limit)).0 three.0 in
    let one = (and-eq-true_iff _ (leb at (length s))).0 two.0 in
    record { sized = sized; limit = leb-true _ _ one.0; inside = leb-true _ _ one.1; few = leb-true _ _ two.1; room = eqb-true _ _ three.1 }

-- ---- the two calls

module _ (r : Record) {c : Carried} {s o : List ℕ} {at : ℕ} (h : Cuttable c s o at) where
  abbrev cut : ℕ
  cut = room_for at c

  abbrev whole : Feeding
  whole = feeding r c s o

  abbrev front : Feeding
  front = feeding r c (take at s) (take cut o)

  abbrev back : Carried → Feeding
  back d = feeding r d (drop at s) (drop cut o)

  many : (b : List ℕ) → length (samples_of (take c.count c.left ++ b)) ≡ (c.count + length b) / sample_length
  many b = whole_samples r c b o h.sized h.few

  front_many : length (samples_of (available front)) ≡ (c.count + at) / sample_length
  front_many = many (take at s) ∙ ap (λ n. (c.count + n) / sample_length) (length-take-le at s h.inside)

  whole_room : length o ≡ right_room whole
  whole_room = h.room ∙ ap (λ n. output_length * n) (sym (many s))

  front_room : length (take cut o) ≡ right_room front
  front_room = length-take-le cut o (omega (arith, h.room, h.inside)) ∙ ap (λ n. output_length * n) (sym front_many)

  -- the samples of the second, after the bytes that the first leaves over
  back_many : length (samples_of (available whole)) ≡ length (samples_of (available front)) + length (samples_of (left_over (available front) ++ drop at s))
  back_many =
      ap (λ b. length (samples_of (take c.count c.left ++ b))) (sym (take-append-drop at s))
      ∙ ap (λ b. length (samples_of b)) (sym (append_assoc (take c.count c.left) (take at s) (drop at s)))
      ∙ ap length (samples_of-append (available front) (drop at s))
      ∙ length-append (samples_of (available front)) _

  -- where the first call is done
  back_room : (judge take_rules (take_of r c)).number ≡ 0 → (fed front).carried.held ≡ 0 → length (drop cut o) ≡ right_room (back (fed front).carried)
  back_room z = rw (fed_taken front z front_room) by
    where
      by : (played front).number ≡ 0 → length (drop cut o) ≡ right_room (back (taken front (played front)).carried)
      by n =
          rw (n, left_carried (left_over (available front)) (length-left_over (available front)))
          (omega (arith, length-drop cut o, back_many, front_many, whole_room))

  -- what the call comes to is what the two do
  in_turn_lem : last_call r (fed whole) ≡ fed front ahead last_call r (fed (back (fed front).carried))
  unfolding in_calls all_bytes all_room
  in_turn_lem = by (judge take_rules (take_of r c)).number refl
    where
      by : (n : ℕ) → (judge take_rules (take_of r c)).number ≡ n → last_call r (fed whole) ≡ fed front ahead last_call r (fed (back (fed front).carried))
      by (suc k) z =
          let l : 0 < (judge take_rules (take_of r c)).number = omega arith in
          rw (fed_refused whole l, fed_refused front l, fed_refused (back c) l, take-append-drop cut o) refl
      by zero z =
          let first : TakePiece = record { bytes = take at s; room = take cut o } in
          let second : TakePiece = record { bytes = drop at s; room = drop cut o } in
          let calls = one_call r c first (second ∷ []) z ((λ k. front_room), (back_room z, tt)) in
          let once = rw (append-nil (drop at s), append-nil (drop cut o), take-append-drop at s, take-append-drop cut o) at calls in
          ap (last_call r) (fed_taken whole z whole_room) ∙ sym {b = last_call r (taken whole (played whole))} (once (omega (arith, many s, h.limit)))

  -- no more samples than there are
  whole_short : (fed whole).samples ≤ length (samples_of (available whole))
  whole_short = by (judge take_rules (take_of r c)).number refl
    where
      by : (n : ℕ) → (judge take_rules (take_of r c)).number ≡ n → (fed whole).samples ≤ length (samples_of (available whole))
      by zero z = rw (fed_taken whole z whole_room) (play_short r c.state.waves (samples_of (available whole)))
      by (suc k) z = rw (fed_refused whole (omega arith)) (omega arith)

  -- a refused first asks for nothing else: the second is refused too
  module _ {p q : Feed} {after after₂ : List ℕ} (first : Feeds front p after) (second : Feeds (back p.carried) q after₂) where
    both : last_call r (fed whole) ≡ fed front ahead last_call r (fed (back p.carried))
    both = in_turn_lem ∙ rw first.carried refl

    counted : (fed whole).samples ≡ p.done + q.done
    counted = ap (λ (x : Outcome). x.samples) both ∙ rw (first.samples, second.samples) refl

    pub done_inside : p.done + q.done ≤ take_limit
    done_inside = rw (← counted) (omega (arith, whole_short, many s, h.limit))

    pub both_done : (n : Option ℕ) → n ≡ cond (eqb q.done 0) p.segment q.segment
        → Feeds whole (record { answer = q.answer; done = p.done + q.done; segment = n; carried = q.carried }) (after ++ after₂)
    both_done n e = record {
      number = second.number ∙ sym (ap (λ (x : Outcome). x.handed_back) both);
      samples = sym counted;
      segment = e
          ∙ sym
          (ap (λ (x : Outcome). shown_segment x.segment) both
          ∙ shown_later (eqb (fed (back p.carried)).samples 0) (fed front).segment (fed (back p.carried)).segment
          ∙ rw (second.samples, first.segment, second.segment) refl);
      carried = second.carried ∙ sym (ap (λ (x : Outcome). x.carried) both);
      room = ap₂ (λ (x y : List ℕ). x ++ y) first.room second.room ∙ sym (ap (λ (x : Outcome). x.room) both);
    }
