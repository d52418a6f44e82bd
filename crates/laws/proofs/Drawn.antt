-- What a drawn curve gives, single and pair alike: its line passes through every column and so through (0, 0), moves no further than its
-- input and never exceeds it in magnitude. So does the diode's answer, the line rounded toward zero, and it is within one of the line.
-- The line over the first n columns is glued to the next piece at column n.
use Prim.Native.Nat.{ℕ, zero, suc, ◌-◌, ◌*◌, ◌<◌, ◌≤◌, min, max}
use native.Mathlib.Omega.{arith}
use native.Mathlib.Nat.{le_of_suc-le-suc, le_of_mul-le-mul_right, not-suc-le-zero, eq-or-lt_of_le}
use mathlib.Core.Path.{◌≡◌, refl, sym, ap, ◌∙◌, subst}
use mathlib.Core.Logic.{⊎_elim}
use mathlib.Core.Bool.{Bool, true, false, cond}
use mathlib.Core.List.{[], ◌∷◌}
use lib.IntN.{ℤ, pos, ◌-ℤ◌, nat_abs}
use lib.Signed.{◌≤ℤ◌, ◌<ℤ◌, quot_z, ≤ℤ_refl}
use Rattle.whole.specs.Order.{zarith, Abs}
use Rattle.whole.specs.Ring.{var, ◌⊝◌}
use Rattle.whole.specs.Combine.{multiple}
use Rattle.whole.specs.Mirror.{whole_e, ◌⊕F◌, ◌⊝F◌, times_e, by_facts}
use Rattle.whole.specs.Quotients.{trunc_low}
use Rattle.whole.specs.Fraction.{Fraction, whole, ◌-F◌, below, ◌≈◌}
use Rattle.whole.specs.Fractions.{≈-refl}
use Rattle.whole.specs.Nearness.{NoFurther, no_further_as, Near}
use Rattle.circuit.specs.Counting.{total}
use Rattle.circuit.specs.Record.{column_at}
use Rattle.circuit.specs.Curve.{wave_limit, through, slope_at, passed, piece, drawn, line_of, line, toward_zero, reflected}
use Rattle.circuit.specs.declared.Column.{Column}
use Rattle.circuit.specs.declared.CurveKind.{CurveKind}
use Rattle.circuit.specs.declared.CurveKind.TheVariants.{Unset, Single, Pair}
use Rattle.circuit.specs.declared.Record.{Record}
use Rattle.laws.specs.Accepted.{Beside, Crosses, Drawn}
use Rattle.laws.proofs.ColumnRule.{ahead}
use Rattle.laws.proofs.Line.{slope_to, run_is, below_whole, not_below_whole, passed_of, passed_stop, passed_all}
use Rattle.laws.proofs.Truncated.{toward_zero_near, toward_zero_moves}
use Rattle.laws.proofs.Gentle.{Gentle, gentle_as, gentle_moves, never_exceeds, glue, through_gentle, through_at, paired_gentle}

-- rounded toward zero, a number that is no further than a whole one is no larger
toward_zero_below : (q : Fraction) (a : ℤ) → NoFurther q (whole a) → nat_abs (toward_zero q) ≤ nat_abs a
unfolding toward_zero
toward_zero_below q a h =
    let d = q.den in
    let k : nat_abs (quot_z q.num (pos d)) * d ≤ nat_abs a * d = omega (arith, h, trunc_low q.num d) in
    le_of_mul-le-mul_right k q.den_pos

-- the answer is within one of the line, whatever the line
pub answer_near : (r : Record) (a : ℤ) → Near 1 (reflected r a) (line r (whole a))
unfolding reflected
answer_near r a = toward_zero_near (line r (whole a))

-- a line through a column with the slope to the next passes through the next
meets_next : (o n : Column) → Beside o n → through o (slope_to o n) (whole n.x) ≈ whole n.y
meets_next o n b =
    let X = var 0 in let Y = var 1 in let U = var 2 in let Z = var 3 in let K = var 4 in
    record {
      same = by_facts (o.x ∷ o.y ∷ n.x ∷ n.y ∷ pos (max 1 (slope_to o n).run) ∷ []) (multiple (Y ⊝ Z) K (U ⊝ X) ∷ [])
          (whole_e Y ⊕F times_e (Z ⊝ Y) K (whole_e U ⊝F whole_e X)) (whole_e Z) (run_is o n b.rises, tt) refl;
    }

module _ {r : Record} (d : Drawn r) where
  abbrev column : ℕ → Column
  column = column_at r

  -- ---- the pieces

  slope_gentle : (k : ℕ) → suc k < r.width → Abs (slope_at r k).rise (max 1 (slope_at r k).run)
  slope_gentle k l = record { bound = omega (arith, (d.beside k l).gentle) }

  piece_gentle : (n : ℕ) → Gentle (piece r n)
  unfolding piece
  piece_gentle zero = through_gentle (column 0) (slope_at r 0) (slope_gentle 0 d.two)
  piece_gentle (suc n) =
      let k = min n (r.width - 2) in
      through_gentle (column n) (slope_at r k) (slope_gentle k (omega (arith, d.two)))

  -- piece n ends at column n, where the next begins
  ends : (n : ℕ) → n < r.width → piece r n (whole (column n).x) ≈ whole (column n).y
  unfolding piece
  ends zero l = through_at (column 0) (slope_at r 0)
  ends (suc n) l =
      let inner : min n (r.width - 2) ≡ n = omega arith in
      rw inner (meets_next (column n) (column (suc n)) (d.beside n l))

  begins : (n : ℕ) → piece r (suc n) (whole (column n).x) ≈ whole (column n).y
  unfolding piece
  begins n = through_at (column n) (slope_at r (min n (r.width - 2)))

  -- ---- the line over the first n columns

  abbrev up_to : ℕ → Fraction → Fraction
  up_to n p = piece r (passed_of r n p) p

  before : (n : ℕ) → n < r.width → (p : Fraction) → below p (column n).x ≡ false → passed_of r n p ≡ n
  before n l p e = passed_all r p n (λ i h. d.beside i (omega arith)) e

  next : (n : ℕ) → n < r.width → (p : Fraction) (b : Bool) → below p (column n).x ≡ b → up_to (suc n) p ≡ cond b (up_to n p) (piece r (suc n) p)
  unfolding total
  next n l p true e = ap (λ k. piece r k p) (rw e (omega arith))
  next n l p false e = ap (λ k. piece r k p) (rw e (omega (arith, before n l p e)))

  up_to_gentle : (n : ℕ) → n ≤ r.width → Gentle (up_to n)
  unfolding total
  up_to_gentle zero l = piece_gentle 0
  up_to_gentle (suc n) l =
      gentle_as (λ p. sym (next n l p (below p (column n).x) refl))
      (glue (column n).x (up_to_gentle n (omega arith)) (piece_gentle (suc n))
      (rw (before n l (whole (column n).x) (not_below_whole (≤ℤ_refl (column n).x))) (ends n l)) (begins n))

  -- it passes through its columns
  up_to_at : (n i : ℕ) → n ≤ r.width → i < n → up_to n (whole (column i).x) ≈ whole (column i).y
  up_to_at zero i l h = absurd (not-suc-le-zero h)
  up_to_at (suc n) i l h = ⊎_elim
      (λ e. subst (λ k. up_to (suc n) (whole (column k).x) ≈ whole (column k).y) (sym e)
      (rw (next n l (whole (column n).x) false (not_below_whole (≤ℤ_refl (column n).x))) (begins n)))
      (λ m. let right = (ahead r d.beside n (suc i) m l).right in
      let rise = (d.beside i (omega arith)).rises in
      let less : (column i).x <ℤ (column n).x = omega zarith in
      rw (next n l (whole (column i).x) true (below_whole less)) (up_to_at n i (omega arith) m))
      (eq-or-lt_of_le (le_of_suc-le-suc h))

  -- What a search finds is the number: column n − 1 is passed, and column n is not.
  all_before : (a : ℤ) (n : ℕ) → n ≤ r.width → ((k : ℕ) → n ≡ suc k → (column k).x ≤ℤ a) → passed_of r n (whole a) ≡ n
  unfolding total
  all_before a zero l left = refl
  all_before a (suc k) l left =
      let e = not_below_whole (left k refl) in
      rw e (omega (arith, before k l (whole a) e))

  pub passed_is : (a : ℤ) (n : ℕ) → n ≤ r.width → ((k : ℕ) → n ≡ suc k → (column k).x ≤ℤ a) → (n < r.width → a <ℤ (column n).x) → passed r (whole a) ≡ n
  unfolding passed
  passed_is a n l left right =
      passed_stop r (whole a) n r.width l
      (λ i h k. let here = right (omega arith) in
      let on = (ahead r d.beside i n h k).right in
      let less : a <ℤ (column i).x = omega zarith in
      below_whole less)
      ∙ all_before a n l left

  -- ---- the line

  drawn_gentle : Gentle (drawn r)
  unfolding drawn passed
  drawn_gentle = up_to_gentle r.width (omega arith)

  drawn_at : (i : ℕ) → i < r.width → drawn r (whole (column i).x) ≈ whole (column i).y
  unfolding drawn passed
  drawn_at i l = up_to_at r.width i (omega arith) l

  crossed : (k : CurveKind) → Crosses k r → drawn r (whole (pos 0)) ≈ whole (pos 0)
  unfolding Crosses
  crossed Unset c = absurd c
  crossed Single c = rw c.2 at (drawn_at c.0 c.1)
  crossed Pair c = let two = d.two in rw c at (drawn_at 0 (omega arith))

  drawn_zero : drawn r (whole (pos 0)) ≈ whole (pos 0)
  drawn_zero = crossed r.kind d.crosses

  kind_gentle : (k : CurveKind) → Crosses k r → Gentle (line_of k (drawn r))
  unfolding Crosses
  kind_gentle Unset c = absurd c
  kind_gentle Single c = drawn_gentle
  kind_gentle Pair c = paired_gentle drawn_gentle drawn_zero

  kind_zero : (k : CurveKind) → line_of k (drawn r) (whole (pos 0)) ≈ whole (pos 0)
  kind_zero Unset = ≈-refl (whole (pos 0))
  kind_zero Single = drawn_zero
  kind_zero Pair = drawn_zero

  pub line_gentle : Gentle (line r)
  unfolding line
  line_gentle = kind_gentle r.kind d.crosses

  pub line_at_zero : line r (whole (pos 0)) ≈ whole (pos 0)
  unfolding line
  line_at_zero = kind_zero r.kind

  pub line_moves : (p q : Fraction) → NoFurther (line r p -F line r q) (p -F q)
  line_moves p q = gentle_moves line_gentle p q

  pub line_never_exceeds : (p : Fraction) → NoFurther (line r p) p
  line_never_exceeds p = never_exceeds line_gentle line_at_zero p

  pub answer_never_exceeds : (a : ℤ) → nat_abs (reflected r a) ≤ nat_abs a
  unfolding reflected
  answer_never_exceeds a = toward_zero_below (line r (whole a)) a (line_never_exceeds (whole a))

  pub answer_moves : (a b : ℤ) → nat_abs (reflected r a -ℤ reflected r b) ≤ nat_abs (a -ℤ b)
  unfolding reflected
  answer_moves a b = toward_zero_moves (line r (whole a)) (line r (whole b)) a b (line_moves (whole a) (whole b))

  -- |y| ≤ |x| ≤ 2^26
  pub column_y : (i : ℕ) → i < r.width → nat_abs (column i).y ≤ nat_abs (column i).x
  column_y i l =
      let p = whole (column i).x in
      let e = no_further_as (drawn_at i l) (≈-refl p) (never_exceeds drawn_gentle drawn_zero p) in
      omega (arith, e)

  pub column_y_small : (i : ℕ) → i < r.width → nat_abs (column i).y ≤ wave_limit
  column_y_small i h = omega (arith, column_y i h, d.small i h)
