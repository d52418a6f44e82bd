-- DEMAND 3. A finished sample's output and the waves it stores are within 2N² + N + 1 of the unrounded sample's. It is shown for any
-- rounding that errs by at most one, any answer within one of the curve and any curve that moves no further than its input; the roundings of
-- both versions, the diode's answer and an accepted curve are cases. The argument gives 2N + 1, which is no more for every N.
use Prim.Native.Nat.{ℕ, zero, suc, ◌≤◌}
use native.Mathlib.Omega.{arith}
use mathlib.Core.Path.{◌≡◌}
use mathlib.Core.Bool.{Bool, true, false, cond}
use mathlib.Core.List.{List}
use lib.Dec.{eqb}
use lib.IntN.{ℤ, pos, ◌+ℤ◌, ◌-ℤ◌, ◌*ℤ◌}
use Rattle.whole.specs.Quotients.{floor_rounds}
use Rattle.whole.specs.Fraction.{Fraction, whole}
use Rattle.whole.specs.Nearness.{Near, near_le, near_whole, near_neg, near_add}
use Rattle.circuit.specs.Numbers.{done}
use Rattle.circuit.specs.Record.{row_limit, top, part_at, reversed_at, adaptors_of, tree_of}
use Rattle.circuit.specs.SetUp.{parts, ratio_at, set_up_report}
use Rattle.circuit.specs.Curve.{line, reflected}
use Rattle.circuit.specs.Sample.{Arithmetic, Rounding, whole_waves, rounded_down, rounded_to_zero, rounding_of, rounded, unrounded, sends, stores, part_sends, part_stores, turned, sent, raised, risen, reached, arriving, kept, output, h, finished, stored_at, sampled}
use Rattle.circuit.specs.declared.Element.{Element}
use Rattle.circuit.specs.declared.Element.TheVariants.{Resistor, Capacitor, Inductor, Input, Steady}
use Rattle.circuit.specs.declared.Part.{Part}
use Rattle.circuit.specs.declared.Part.TheVariants.{Blank, Leaf, Adaptor}
use Rattle.circuit.specs.declared.Record.{Record}
use Rattle.laws.specs.Accepted.{Sized, Accepted}
use Rattle.laws.proofs.Accepting.{accepting}
use Rattle.laws.proofs.Counting.{get_or-table}
use Rattle.laws.proofs.Truncated.{toward_zero_near}
use Rattle.laws.proofs.Drawn.{line_moves, answer_near}
use Rattle.laws.proofs.Adaptors.{u_rounds, b1_rounds}
use Rattle.laws.proofs.Playing.{finished_means}
use Rattle.laws.proofs.Reflectance.{Echo, echo_leaf, echo_diode}
use Rattle.theorems.specs.Rounding.{ErrsByOne, Follows, Gently}
use Rattle.theorems.specs.Limit.{limit, least_limit, Within}
use Rattle.theorems.proofs.Straying.{parts_above_zero, near_either, up_near, reach_near}

-- ---- any rounding

module _ (ρ : Rounding) where
  abbrev 𝓡 : Arithmetic
  𝓡 = whole_waves ρ

  -- a leaf sends an exact wave
  leaf_sends : (x s : ℤ) (e : Element) → Near 0 (sends 𝓡 x s e) (sends unrounded x (whole s) e)
  unfolding sends
  leaf_sends x s (Resistor r) = near_whole (pos 0)
  leaf_sends x s (Capacitor c) = near_whole s
  leaf_sends x s (Inductor l) = near_whole s
  leaf_sends x s (Input r) = near_whole x
  leaf_sends x s (Steady r v) = near_whole v

  part_sends_lem : (x s : ℤ) (p : Part) → Near 0 (part_sends 𝓡 x s p) (part_sends unrounded x (whole s) p)
  part_sends_lem x s Blank = near_whole (pos 0)
  part_sends_lem x s (Leaf e) = leaf_sends x s e
  part_sends_lem x s (Adaptor a) = near_whole (pos 0)

  -- and stores what reaches it, its opposite or nothing
  module _ {E : ℕ} {a : ℤ} {q : Fraction} (n : Near E a q) where
    none_near : Near E (pos 0) (whole (pos 0))
    none_near = near_le (omega arith) (near_whole (pos 0))

    leaf_stores : (e : Element) → Near E (stores 𝓡 e a) (stores unrounded e q)
    unfolding stores
    leaf_stores (Resistor r) = none_near
    leaf_stores (Capacitor c) = n
    leaf_stores (Inductor l) = near_neg n
    leaf_stores (Input r) = none_near
    leaf_stores (Steady r v) = none_near

    part_stores_lem : (p : Part) → Near E (part_stores 𝓡 p a) (part_stores unrounded p q)
    part_stores_lem Blank = none_near
    part_stores_lem (Leaf e) = leaf_stores e
    part_stores_lem (Adaptor d) = none_near

    -- which way round it is changes nothing of a distance
    turned_near : (b : Bool) → Near E (turned 𝓡 b a) (turned unrounded b q)
    turned_near true = near_neg n
    turned_near false = n

  -- ---- an accepted circuit, with any answer and any curve

  module _ (errs : ErrsByOne ρ) {answer : ℤ → ℤ} {curve : Fraction → Fraction} (follows : Follows answer curve) (gently : Gently curve)
      {r : Record} (accepted : Accepted r) (stored : ℕ → ℤ) (x : ℤ) where
    abbrev N : ℕ
    N = adaptors_of r

    abbrev stored' : ℕ → Fraction
    stored' j = whole (stored j)

    fair : (j : ℕ) → ratio_at r j ≤ parts
    fair j = omega (arith, accepted.ratio j)

    sent_near : (j : ℕ) → Near 0 (sent 𝓡 r stored x j) (sent unrounded r stored' x j)
    unfolding sent
    sent_near j = part_sends_lem x (stored j) (part_at r j)

    raised_near : (j : ℕ) → Near 0 (raised 𝓡 r stored x j) (raised unrounded r stored' x j)
    unfolding raised
    raised_near j = turned_near (sent_near j) (reversed_at r j)

    risen_near : Near N (risen 𝓡 r stored x) (risen unrounded r stored' x)
    unfolding risen
    risen_near = rw (← accepted.whole) (up_near errs (ratio_at r) fair (raised 𝓡 r stored x) (raised unrounded r stored' x) raised_near (tree_of r))

    diode : Echo 1 (risen 𝓡 r stored x) (risen unrounded r stored' x) (answer (risen 𝓡 r stored x)) (curve (risen unrounded r stored' x))
    diode = echo_diode (gently.moves (whole (risen 𝓡 r stored x)) (risen unrounded r stored' x)) (follows.near (risen 𝓡 r stored x))

    reached_near : (j : ℕ) → Near (least_limit N) (reached 𝓡 answer r stored x j) (reached unrounded curve r stored' x j)
    unfolding reached risen
    reached_near j =
        rw (← accepted.whole) (reach_near errs (ratio_at r) fair (raised 𝓡 r stored x) (raised unrounded r stored' x) raised_near (tree_of r) j diode)

    arriving_near : (j : ℕ) → Near (least_limit N) (arriving 𝓡 answer r stored x j) (arriving unrounded curve r stored' x j)
    unfolding arriving
    arriving_near j = turned_near (reached_near j) (reversed_at r j)

    pub kept_near : (j : ℕ) → Near (least_limit N) (kept 𝓡 answer r stored x j) (kept unrounded curve r stored' x j)
    unfolding kept
    kept_near j = part_stores_lem (arriving_near j) (part_at r j)

    -- at the top N for the wave that rises and N + 1 for the diode's, at a leaf 2N + 1 for the wave that arrives
    pub output_near : Near (least_limit N) (output 𝓡 answer r stored x) (output unrounded curve r stored' x)
    unfolding output
    output_near =
        near_either (eqb r.tap top)
        (near_le (omega arith) (near_add risen_near (echo_leaf risen_near diode)))
        (near_le (omega arith) (near_add (sent_near r.tap) (arriving_near r.tap)))

-- ---- the rounding of every version, the diode's answer and an accepted curve

rounded_down_errs : ErrsByOne rounded_down
unfolding h
rounded_down_errs = record {
  u = λ g a1 a2. u_rounds g parts parts_above_zero a1 a2 (floor_rounds (pos g *ℤ (a1 -ℤ a2)) parts (omega arith));
  b1 = λ g a1 a2 a3. b1_rounds g parts parts_above_zero a1 a2 a3 (floor_rounds (pos g *ℤ (a1 +ℤ a2 +ℤ a3)) parts (omega arith));
}

rounded_to_zero_errs : ErrsByOne rounded_to_zero
rounded_to_zero_errs = record {
  u = λ g a1 a2. toward_zero_near (unrounded.u g (whole a1) (whole a2));
  b1 = λ g a1 a2 a3. toward_zero_near (unrounded.b1 g (whole a1) (whole a2) (whole a3));
}

pub rounding_errs : (version : ℕ) → ErrsByOne (rounding_of version)
unfolding rounding_of
rounding_errs version = by (eqb version 1)
  where
    by : (first : Bool) → ErrsByOne (cond first rounded_down rounded_to_zero)
    by true = rounded_down_errs
    by false = rounded_to_zero_errs

reflected_follows : (r : Record) → Follows (reflected r) (line r)
reflected_follows r = record { near = answer_near r }

line_gently : {r : Record} → Accepted r → Gently (line r)
line_gently a = record { moves = line_moves a.drawn }

-- 2N + 1 is no more than 2N² + N + 1
below_limit : (n : ℕ) → least_limit n ≤ limit n
below_limit zero = omega arith
below_limit (suc n) = omega arith

within_le : {E F : ℕ} {r : Record} {waves : List ℤ} {x v : ℤ} {next : List ℤ} → E ≤ F → Within E r waves x v next → Within F r waves x v next
within_le l w = record { out = near_le l w.out; stored = λ j k. near_le l (w.stored j k) }

module _ (r : Record) (sized : Sized r) (accepted : set_up_report r ≡ done) (waves : List ℤ) (x v : ℤ) (s : ℕ) (next : List ℤ)
    (works : sampled r waves x ≡ finished v s next) where
  pub sharper : Within (least_limit (adaptors_of r)) r waves x v next
  sharper =
      let a = accepting r sized accepted in
      let f = finished_means r waves x v s next works in
      let ρ = rounding_of r.version in
      let errs = rounding_errs r.version in
      record {
        out = rw (← f.out) (output_near ρ errs (reflected_follows r) (line_gently a) a (stored_at waves) x);
        stored = λ j l. rw (← f.stored, get_or-table (kept (rounded r) (reflected r) r (stored_at waves) x) row_limit j (pos 0) l)
            (kept_near ρ errs (reflected_follows r) (line_gently a) a (stored_at waves) x j);
      }

  pub demand3 : Within (limit (adaptors_of r)) r waves x v next
  demand3 = within_le (below_limit (adaptors_of r)) sharper
