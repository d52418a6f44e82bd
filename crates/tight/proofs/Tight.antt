-- 2N + 1 is the least whole bound in either version, for the output at every N that a circuit can have, and for a stored wave at every one above 0; at 0
-- nothing is stored. The input stands in a chain of N parallel adaptors with N − 1 resistors and, at the top, a capacitor. Each adaptor
-- takes all but one part of 2^24 from the chain below it, and rounds its wave, which is above 0, down by nearly one, and so toward zero; so does the diode, whose curve is one
-- microvolt short of straight at its end. Every one of these errors goes the same way, up and back, and every leaf gets them all.
use Prim.Native.Nat.{ℕ, zero, suc, ◌+◌, ◌-◌, ◌*◌, ◌<◌, ◌≤◌}
use native.Mathlib.Omega.{arith}
use mathlib.Core.Path.{◌≡◌, refl, sym, ap, ◌∙◌}
use mathlib.Core.Bool.{Bool, true, false, ◌&&◌, ◌||◌, and-eq-true_iff}
use mathlib.Core.List.{List, [], ◌∷◌}
use borrow.Author.Tests.{eqb-true, ltb-true, ne_eqb}
use lib.Dec.{eqb, ltb}
use lib.ListN.{length}
use lib.IntN.{ℤ, pos, negsuc, ◌-ℤ◌, ◌*ℤ◌, nat_abs}
use lib.Ieee.{fin}
use Rattle.whole.specs.Fraction.{Fraction}
use Rattle.whole.specs.Nearness.{near_le}
use Rattle.circuit.specs.Counting.{within, every, total, one, table}
use Rattle.circuit.specs.Record.{row_limit, column_limit, last_version, source_limit, top, part_at, is_input, inputs, adaptors_of}
use Rattle.circuit.specs.SetUp.{parts, set_up_report}
use Rattle.circuit.specs.Curve.{wave_limit, reflected, segment}
use Rattle.circuit.specs.Sample.{Arithmetic, stores, part_stores, risen, arriving, kept, output, rounded, in_limit, stored_at, sampled}
use Rattle.circuit.specs.Run.{fresh_waves}
use Rattle.circuit.specs.declared.Join.TheVariants.{Parallel}
use Rattle.circuit.specs.declared.CurveKind.TheVariants.{Pair}
use Rattle.circuit.specs.declared.Element.TheVariants.{Resistor, Capacitor, Inductor, Input, Steady}
use Rattle.circuit.specs.declared.Part.{Part}
use Rattle.circuit.specs.declared.Part.TheVariants.{Blank, Leaf, Adaptor}
use Rattle.circuit.specs.declared.Record.{Record}
use Rattle.circuit.proofs.Working.{working}
use Rattle.circuit.proofs.Circuits.{ohms, input, resistor, capacitor, joins, column, circuit, versioned}
use Rattle.laws.specs.Accepted.{adaptor_limit, Accepted}
use Rattle.laws.proofs.Counting.{every_on, every_true, get_or-table}
use Rattle.laws.proofs.Judging.{set_up_done}
use Rattle.theorems.specs.Limit.{least_limit, exact_output, exact_kept}
use Rattle.tight.specs.Tight.{Beyond, Strays}

-- ---- with no adaptor the only row is the input, and nothing is stored

module _ (𝓐 : Arithmetic) where
  input_stores : (p : Part) (a : 𝓐.Wave) → one (is_input p) ≡ 1 → part_stores 𝓐 p a ≡ 𝓐.microvolts (pos 0)
  unfolding stores
  input_stores Blank a e = refl
  input_stores (Leaf (Resistor r)) a e = refl
  input_stores (Leaf (Capacitor c)) a e = absurd (omega arith)
  input_stores (Leaf (Inductor l)) a e = absurd (omega arith)
  input_stores (Leaf (Input r)) a e = refl
  input_stores (Leaf (Steady r v)) a e = refl
  input_stores (Adaptor d) a e = refl

  pub nothing_stored : {r : Record} → Accepted r → adaptors_of r ≡ 0 → (answer : 𝓐.Wave → 𝓐.Wave) (stored : ℕ → 𝓐.Wave) (x : ℤ) (j : ℕ)
      → kept 𝓐 answer r stored x j ≡ 𝓐.microvolts (pos 0)
  unfolding kept inputs total
  nothing_stored {r} a none answer stored x zero =
      let one-row : r.count ≡ 1 = omega (arith, a.odd) in
      let only : total (λ j. one (is_input (part_at r j))) 1 ≡ 1 = ap (total (λ j. one (is_input (part_at r j)))) (sym one-row) ∙ a.one_input in
      input_stores (part_at r 0) (arriving 𝓐 answer r stored x 0) (omega arith)
  nothing_stored {r} a none answer stored x (suc j) = rw (a.blank (suc j) (omega (arith, a.odd))) refl

-- ---- the chain

-- the leaf beside the chain at the adaptor that has n more above it; 2^-41 F is some 22.9 MΩ
unfoldable sibling : ℕ → Part
sibling zero = capacitor (fin false 1 (negsuc 40))
sibling (suc n) = resistor (ohms parts)

-- n adaptors over row j
unfoldable links : ℕ → ℕ → List Part
links zero j = []
links (suc n) j = sibling n ∷ joins Parallel j (j + 1) ∷ links n (j + 2)

unfoldable chain : ℕ → ℕ → Record
chain version n =
    versioned version
    (circuit (input (ohms 1) ∷ links n 0) top Pair (column (pos 0) (pos 0) ∷ column (pos wave_limit) (pos (wave_limit - 1)) ∷ []) (ohms 1))

-- ---- what is worked out for each n

-- a is further than E − 1 from q
unfoldable far : ℕ → ℤ → Fraction → Bool
far E a q = ltb ((E - 1) * q.den) (nat_abs (a *ℤ pos q.den -ℤ q.num))

far_beyond : (E : ℕ) (a : ℤ) (q : Fraction) → far E a q ≡ true → Beyond E a q
unfolding far
far_beyond E a q e = record {
  beyond = λ F l h.
      let n = near_le {F = E - 1} (omega arith) h in
      omega (arith, ltb-true ((E - 1) * q.den) (nat_abs (a *ℤ pos q.den -ℤ q.num)) e, n.near);
}

abbrev x : ℕ → ℤ
x n = pos (suc n)

module _ (version n : ℕ) where
  abbrev r : Record
  r = chain version n

  -- the capacitor's row, where there is one
  abbrev capacitor_row : ℕ
  capacitor_row = 2 * n - 1

  abbrev out : ℤ
  out = output (rounded r) (reflected r) r (stored_at fresh_waves) (x n)

  abbrev left : ℕ → ℤ
  left = kept (rounded r) (reflected r) r (stored_at fresh_waves) (x n)

  abbrev strays_out : Bool
  strays_out = far (least_limit n) out (exact_output r fresh_waves (x n))

  abbrev strays_left : Bool
  strays_left = far (least_limit n) (left capacitor_row) (exact_kept r fresh_waves (x n) capacitor_row)

  unfoldable strays : Bool
  strays =
      eqb (length r.rows) row_limit && (eqb (length r.columns) column_limit && (eqb (set_up_report r).number 0
      && (eqb (adaptors_of r) n && (within source_limit (x n) && (in_limit r fresh_waves (x n) && (strays_out && (eqb n 0 || strays_left)))))))

-- of each version; its number is one more than v
abbrev each_strays : ℕ → Bool
each_strays n = every (λ v. strays (suc v) n) last_version

-- by computation, in parts: the checker has a limit of steps for each
strays_low : every each_strays 11 ≡ true
unfolding working sibling links chain far strays
strays_low = refl

strays_high : every (λ k. each_strays (11 + k)) 3 ≡ true
unfolding working sibling links chain far strays
strays_high = refl

strays_top : every (λ k. each_strays (14 + k)) 2 ≡ true
unfolding working sibling links chain far strays
strays_top = refl

module _ (version n : ℕ) (most : n ≤ adaptor_limit) (e : strays version n ≡ true) where
  abbrev c : Record
  c = chain version n

  found : Strays version n
  unfolding strays chain sampled
  found =
      let rows = (and-eq-true_iff _ _).0 e in
      let columns = (and-eq-true_iff _ _).0 rows.1 in
      let report = (and-eq-true_iff _ _).0 columns.1 in
      let adaptors = (and-eq-true_iff _ _).0 report.1 in
      let source = (and-eq-true_iff (within source_limit (x n)) _).0 adaptors.1 in
      let limit = (and-eq-true_iff (in_limit c fresh_waves (x n)) _).0 source.1 in
      let far = (and-eq-true_iff (strays_out version n) _).0 limit.1 in
      let row = capacitor_row version n in
      record {
        circuit = c;
        versioned = refl;
        sized = record { rows = eqb-true (length c.rows) row_limit rows.0; columns = eqb-true (length c.columns) column_limit columns.0 };
        accepted = set_up_done c (eqb-true (set_up_report c).number 0 report.0);
        adaptors = eqb-true (adaptors_of c) n adaptors.0;
        sample = x n;
        out = out version n;
        segment = segment c (risen (rounded c) c (stored_at fresh_waves) (x n));
        next = table (left version n) row_limit;
        works = rw (source.0, limit.0) refl;
        output = far_beyond (least_limit n) (out version n) (exact_output c fresh_waves (x n)) far.0;
        row = row;
        stored = λ l.
            rw (get_or-table (left version n) row_limit row (pos 0) (omega arith))
            (far_beyond (least_limit n) (left version n row) (exact_kept c fresh_waves (x n) row) (rw (ne_eqb n 0 (λ z. omega arith)) at far).1);
      }

pub tight : (version n : ℕ) → 0 < version → version ≤ last_version → n ≤ adaptor_limit → Strays version n
tight zero n some few l = absurd (omega arith)
tight (suc v) n some few l =
    let all = every_on each_strays 14 2 (every_on each_strays 11 3 strays_low strays_high) strays_top in
    let each = every_true each_strays (suc adaptor_limit) all n (omega arith) in
    found (suc v) n l (every_true (λ i. strays (suc i) n) last_version each v (omega arith))
