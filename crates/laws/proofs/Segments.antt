-- Laws of segments (request 7): the columns passed, as a wave moves; the segment, by the kind of curve; and the last of a list of segments.
use Prim.Native.Nat.{ℕ, zero, suc, ◌<◌, ◌≤◌}
use native.Mathlib.Omega.{arith}
use mathlib.Core.Path.{◌≡◌, refl, sym, ap, ◌∙◌}
use mathlib.Core.Bool.{Bool, true, false, not, cond}
use mathlib.Core.List.{List, [], ◌∷◌, ◌++◌, append-nil}
use lib.Dec.{eqb, eqb-suc-zero}
use lib.ListN.{length, get_or}
use lib.IntN.{ℤ, pos, ◌*ℤ◌, neg_ℤ, nat_abs}
use lib.Signed.{◌<ℤ◌, ◌≤ℤ◌}
use Rattle.whole.specs.Integers.{at, is_neg, ◌⊠◌}
use Rattle.whole.specs.Order.{zarith, abs_parts, lt_z-true}
use Rattle.whole.specs.Fraction.{Fraction, whole, below}
use Rattle.circuit.specs.Counting.{one}
use Rattle.circuit.specs.Record.{column_at}
use Rattle.circuit.specs.Curve.{passed, taken_on, segment}
use Rattle.circuit.specs.Run.{last_or}
use Rattle.circuit.specs.declared.CurveKind.{CurveKind}
use Rattle.circuit.specs.declared.CurveKind.TheVariants.{Pair}
use Rattle.circuit.specs.declared.Record.{Record}
use Rattle.laws.proofs.Counting.{one_small, total_has, total_below, total_ones}
use Rattle.laws.proofs.Line.{below_whole}

-- ---- the columns passed

whole_below : {a x : ℤ} → below (whole a) x ≡ true → a <ℤ x
whole_below {a} {x} e = let h = lt_z-true a (x *ℤ pos 1) e in omega (zarith, at x ⊠ at (pos 1))

-- a column that a wave has passed stays passed as the wave rises
passes_on : {a b : ℤ} → a ≤ℤ b → (x : ℤ) → one (not (below (whole a) x)) ≤ one (not (below (whole b) x))
passes_on {a} {b} l x = by (below (whole b) x) refl
  where
    by : (t : Bool) → below (whole b) x ≡ t → one (not (below (whole a) x)) ≤ one (not (below (whole b) x))
    by true e =
        let h : b <ℤ x = whole_below e in
        let less : a <ℤ x = omega zarith in
        rw (below_whole less) (omega arith)
    by false e = rw e (one_small (not (below (whole a) x)))

size_left : {a : ℤ} → a <ℤ pos 0 → pos (nat_abs a) ≡ neg_ℤ a
size_left {a} l = omega (zarith, is_neg (at a), abs_parts a)

size_right : {a : ℤ} → pos 0 ≤ℤ a → pos (nat_abs a) ≡ a
size_right {a} l = omega (zarith, abs_parts a)

module _ (r : Record) where
  pub passed_rises : {a b : ℤ} → a ≤ℤ b → passed r (whole a) ≤ passed r (whole b)
  unfolding passed
  passed_rises l = total_below _ _ r.width (λ i h. passes_on l (column_at r i).x)

  pub passed_most : (p : Fraction) → passed r p ≤ r.width
  unfolding passed
  passed_most p = rw (total_ones r.width) at (total_below _ (λ i. 1) r.width (λ i l. one_small (not (below p (column_at r i).x))))

  pub passed_none : {a : ℤ} → 0 < r.width → passed r (whole a) ≡ 0 → a <ℤ (column_at r 0).x
  unfolding passed
  passed_none {a} some e = by (below (whole a) (column_at r 0).x) refl
    where
      by : (t : Bool) → below (whole a) (column_at r 0).x ≡ t → a <ℤ (column_at r 0).x
      by true h = whole_below h
      by false h =
          let has : 1 ≤ passed r (whole a) = rw h at (total_has (λ i. one (not (below (whole a) (column_at r i).x))) r.width 0 some) in
          absurd (omega arith)

  -- ---- by the kind of curve

  pub segment_of : {k : CurveKind} → r.kind ≡ k → (a : ℤ) → segment r a ≡ passed r (whole (taken_on k a))
  unfolding segment
  segment_of e a = ap (λ k. passed r (whole (taken_on k a))) e

  -- a pair's is that of any wave of the same size
  pub pair_segment : r.kind ≡ Pair → (a b : ℤ) → nat_abs a ≡ nat_abs b → segment r a ≡ segment r b
  pair_segment e a b h = segment_of e a ∙ ap (λ n. passed r (whole (pos n))) h ∙ sym (segment_of e b)

  -- the columns passed by the wave from 0 on, and below it by its opposite
  pub segment_right : r.kind ≡ Pair → (a : ℤ) → pos 0 ≤ℤ a → segment r a ≡ passed r (whole a)
  segment_right e a l = segment_of e a ∙ ap (λ z. passed r (whole z)) (size_right l)

  pub segment_left : r.kind ≡ Pair → (a : ℤ) → a <ℤ pos 0 → segment r a ≡ passed r (whole (neg_ℤ a))
  segment_left e a l = segment_of e a ∙ ap (λ z. passed r (whole z)) (size_left l)

-- ---- the last of a list

pub last_past : (none s : ℕ) (ss ts : List ℕ) → last_or none (ss ++ (s ∷ ts)) ≡ last_or s ts
last_past none s [] ts = refl
last_past none s (t ∷ ss) ts = last_past t s ss ts

pub last_append : (none : ℕ) (ss ts : List ℕ) → last_or none (ss ++ ts) ≡ cond (eqb (length ts) 0) (last_or none ss) (last_or none ts)
last_append none ss [] = ap (last_or none) (append-nil ss)
last_append none ss (t ∷ ts) = last_past none t ss ts ∙ sym (rw (eqb-suc-zero (length ts)) refl)

pub last_none : (none : ℕ) (ss : List ℕ) → length ss ≡ 0 → last_or none ss ≡ none
last_none none [] e = refl
last_none none (s ∷ ss) e = absurd (omega arith)

pub last_at : (none d : ℕ) (ss : List ℕ) (i : ℕ) → length ss ≡ suc i → last_or none ss ≡ get_or ss i d
last_at none d [] i e = absurd (omega arith)
last_at none d (s ∷ []) zero e = refl
last_at none d (s ∷ []) (suc i) e = absurd (omega arith)
last_at none d (s ∷ t ∷ ss) zero e = absurd (omega arith)
last_at none d (s ∷ t ∷ ss) (suc i) e = last_at s d (t ∷ ss) i (omega arith)
