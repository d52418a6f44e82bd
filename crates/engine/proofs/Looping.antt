-- A loop over the samples of a run. Its invariant is `Going`: for every circuit that the plan is of, the first i samples are done, the segment
-- is that of the last of them, what is shown of their outputs is written, and the waves after them are loaded.
use Prim.Native.Nat.{ℕ, ◌+◌, ◌*◌, ◌<◌, ◌≤◌}
use native.Mathlib.Omega.{arith}
use borrow.Author.Tests.{ne_eqb}
use mathlib.Core.Path.{◌≡◌, refl, sym, ap, ◌∙◌, subst}
use mathlib.Core.List.{List, [], ◌∷◌, ◌++◌}
use lib.IntN.{ℤ, pos}
use lib.ListN.{length, get_or, drop, length-append, length-drop}
use lib.Seq.{sets, sets-eq, length-sets, take_at, drop-append-add, drop-drop}
use Rattle.std.specs.Prelude.{Option, None, Some, Result, Ok, Err, ⊤}
use Rattle.std.proofs.lemmas.List.{nil_from_length}
use Rattle.whole.specs.Fraction.{whole}
use Rattle.circuit.specs.Numbers.{handed, told}
use Rattle.circuit.specs.Curve.{taken_on}
use Rattle.circuit.specs.Sample.{rounded, risen, refused, finished, sampled, stored_at}
use Rattle.circuit.specs.Run.{Played, play, no_segment, last_or, report_after}
use Rattle.circuit.specs.Record.{column_limit}
use Rattle.circuit.specs.Promises.{shown_segment}
use Rattle.circuit.specs.declared.Refusal.{Refusal}
use Rattle.circuit.specs.declared.Record.{Record}
use Rattle.laws.proofs.Playing.{finished_means}
use Rattle.laws.proofs.Segments.{passed_most, segment_of, last_past}
use Rattle.laws.proofs.Running.{Midway, midway_start, midway_count, midway_step, midway_refused, midway_done}
use Rattle.engine.specs.declared.plan.Plan.{Plan}
use Rattle.engine.specs.declared.sample.Finished.{Finished}
use Rattle.engine.specs.declared.sample.Fault.{Fault}
use Rattle.engine.specs.declared.sample.Fault.TheVariants.{Loud, Over}
use Rattle.engine.specs.Sweep.{Modest}
use Rattle.engine.specs.Sample.{Fixed, Loaded, LaidOut, Works, Samples, refusal_at}
use Rattle.engine.specs.Tape.{Shows}
use Rattle.engine.specs.Play.{in_front, Ends, Plays}

-- a piece more is written, after what stands in front
front_more : {A : Type 0} (front piece before : List A) (at : ℕ) → length front ≡ at → at + length piece ≤ length before
    → sets (in_front front before) at piece ≡ in_front (front ++ piece) before
front_more front piece before at e l =
    let rest = drop (length front) before in
    sets-eq piece (front ++ rest) at (simp (length-append, length-drop) (omega arith))
    ∙ rw (take_at front rest at e, ← e, drop-append-add, drop-drop, length-append)

-- no more columns are passed than a circuit has, and so a segment is shown as it is
shows : {s : ℕ} → s ≤ column_limit → shown_segment s ≡ Some s
shows {s} l = rw (ne_eqb s no_segment (λ e. omega arith))

used_few : (r : Record) (ws : List ℤ) (x v : ℤ) (s : ℕ) (next : List ℤ) → r.width ≤ column_limit → sampled r ws x ≡ finished v s next → s ≤ column_limit
used_few r ws x v s next narrow e =
    let used = (finished_means r ws x v s next e).used in
    let most = passed_most r (whole (taken_on r.kind (risen (rounded r) r (stored_at ws) x))) in
    omega (arith, sym used ∙ segment_of r refl _)

-- no output takes no place, and each as much as any other
module _ {A : Type 0} {width : ℕ} {piece : ℤ → List A} {shown : List ℤ → List A} (s : Shows width piece shown) where
  shown_none : shown [] ≡ []
  shown_none = nil_from_length (shown []) (omega (arith, s.long []))

  piece_long : (v : ℤ) → length (piece v) ≡ width
  piece_long v =
      let sum = ap length (s.more [] v) ∙ length-append (shown []) (piece v) in omega (arith, sum, s.long [], s.long (v ∷ []))

module _ {A : Type 0} (shown : List ℤ → List A) where
  -- of one circuit
  pub record Midst (r : Record) (ws xs : List ℤ) (before : List A) (ups : List ℤ) (out : List A) (i : ℕ) (segment : Option ℕ) : Type 0 where
    pub outputs : List ℤ
    pub segments : List ℕ
    pub waves : List ℤ
    pub midway : Midway r ws xs i outputs segments waves
    pub last : segment ≡ shown_segment (last_or no_segment segments)
    pub written : out ≡ in_front (shown outputs) before
    pub loaded : Loaded r waves ups

  pub record Going (p : Plan) (ups xs : List ℤ) (before : List A) (up down : List ℤ) (out : List A) (i : ℕ) (segment : Option ℕ) : Type 0 where
    pub inside : i ≤ length xs
    pub room : Modest down
    pub same : length out ≡ length before
    pub going : (r : Record) (ws : List ℤ) → Fixed p r → Loaded r ws ups → Midst r ws xs before up out i segment

module _ {A : Type 0} {shown : List ℤ → List A} {p : Plan} {ups xs : List ℤ} {before : List A} where
  pub going_start : {ds : List ℤ} {width : ℕ} {piece : ℤ → List A} → Shows width piece shown → Modest ds → Going shown p ups xs before ups ds before 0 None
  going_start s room = record {
    inside = omega arith;
    room = room;
    same = refl;
    going = λ r ws f l.
        record { outputs = []; segments = []; waves = ws; midway = midway_start r ws xs; last = refl; written = rw (shown_none s) refl; loaded = l };
  }

  module _ {up down : List ℤ} {out : List A} {i : ℕ} {segment : Option ℕ} (g : Going shown p ups xs before up down out i segment) where
    -- the next sample finds what it asks for
    pub going_laid : {ds : List ℤ} → LaidOut p ups ds → LaidOut p up down
    going_laid h =
        let m = g.going h.circuit h.stored h.fixed h.loaded in
        record { circuit = h.circuit; stored = m.waves; fixed = h.fixed; loaded = m.loaded; room = g.room }

    -- no more than the first i are done
    halts : {after : List ℤ} (n : ℕ) (a : Result ⊤ Refusal) → handed a ≡ report_after i n
        → ((r : Record) (ws : List ℤ) → Fixed p r → (m : Midst shown r ws xs before up out i segment)
        → (play r ws xs ≡ record { number = n; outputs = m.outputs; segments = m.segments; waves = m.waves }) × Loaded r m.waves after)
        → Plays shown p ups xs before (record { answer = a; done = i; segment = segment }) after out
    halts {after} n a told ends = record {
      plays = λ r ws f l.
          let m = g.going r ws f l in
          let e = ends r ws f m in
          let count = midway_count m.midway in
          subst (λ (q : Played). Ends shown r q before (record { answer = a; done = i; segment = segment }) after out) (sym e.0)
          (record { number = told ∙ ap (λ k. report_after k n) (sym count); samples = sym count; segment = m.last; written = m.written; loaded = e.1 });
    }

    pub going_done : {n : ℕ} → n ≡ i → length xs ≤ i → Plays shown p ups xs before (record { answer = Ok tt; done = n; segment = segment }) up out
    going_done e l = rw e (halts 0 (Ok tt) refl (λ r ws f m. (midway_done m.midway l, m.loaded)))

    -- the sample of a turn, by the number that is read and the outcome that is told
    module _ (l : i < length xs) {x : ℤ} (read : x ≡ get_or xs i (pos 0)) {o : Result Finished Fault} {after ds : List ℤ} (s : Samples p up x o after ds) where
      works : {told : Result Finished Fault} → o ≡ told → (r : Record) (ws : List ℤ) → Fixed p r → Loaded r ws up → Works r ws (get_or xs i (pos 0)) told after
      works e r ws f h = rw (read, e) at (s.works r ws f h)

      refuses : (n : ℕ) (a : Result ⊤ Refusal) → handed a ≡ report_after i n
          → ((r : Record) (ws : List ℤ) → Fixed p r → Loaded r ws up → (sampled r ws (get_or xs i (pos 0)) ≡ refused n) × Loaded r ws after)
          → Plays shown p ups xs before (record { answer = a; done = i; segment = segment }) after out
      refuses n a told w = halts n a told (λ r ws f m. let v = w r m.waves f m.loaded in (midway_refused m.midway l n v.0, v.1))

      pub going_refused : (f : Fault) → o ≡ Err f
          → Plays shown p ups xs before (record { answer = Err (refusal_at f i); done = i; segment = segment }) after out
      unfolding told Works
      going_refused Loud e = refuses 14 (Err (refusal_at Loud i)) refl (works e)
      going_refused Over e = refuses 15 (Err (refusal_at Over i)) refl (works e)

      -- its output is put as one piece more
      pub going_on : {width : ℕ} {piece : ℤ → List A} → Shows width piece shown → {f : Finished} → o ≡ Ok f → {later : List A}
          → later ≡ sets out (width * i) (piece f.output.0) → width * i + width ≤ length before
          → Going shown p ups xs before after ds later (i + 1) (Some f.segment)
      unfolding Works
      going_on {width} {piece} h {f} e put fits = record {
        inside = omega arith;
        room = s.room;
        same = ap length put ∙ length-sets out (width * i) (piece f.output.0) ∙ g.same;
        going = λ r ws fixed l0.
            let m = g.going r ws fixed l0 in
            let w = works e r m.waves fixed m.loaded in
            let done = m.outputs in
            record {
              outputs = done ++ (f.output.0 ∷ []);
              segments = m.segments ++ (f.segment ∷ []);
              waves = w.0;
              midway = midway_step m.midway l f.output.0 f.segment w.0 w.1;
              last = sym (ap shown_segment (last_past no_segment f.segment m.segments []) ∙ shows (used_few r m.waves _ _ _ _ fixed.drawn.narrow w.1));
              written = put ∙ rw (m.written, h.more done f.output.0)
                  (front_more (shown done) (piece f.output.0) before (width * i) (h.long done ∙ ap (◌*◌ width) (midway_count m.midway))
                  (rw (piece_long h f.output.0) fits));
              loaded = w.2;
            };
      }
