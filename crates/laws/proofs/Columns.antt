-- Rule 10 and the columns in use say the same: each column stands beside the one before it, and (0, 0) is where the kind wants it.
use Prim.Native.Nat.{ℕ, zero, suc, ◌<◌, ◌≤◌}
use native.Mathlib.Omega.{arith}
use borrow.Author.Tests.{leb-true, le-leb, eqb-true, not-false}
use mathlib.Core.Path.{◌≡◌, refl, sym, ap, ap₂, ◌∙◌, subst}
use mathlib.Core.Bool.{true, not, and-eq-true_iff, true≢false}
use lib.IntN.{ℤ, pos, negsuc, nat_abs}
use Rattle.whole.specs.Order.{lt_z-true, true-lt_z}
use Rattle.circuit.specs.Counting.{within}
use Rattle.circuit.specs.Numbers.{passes, lowest, unless, ◌then◌}
use Rattle.circuit.specs.Record.{column_at, at_origin, is_set}
use Rattle.circuit.specs.Curve.{wave_limit, beside, starts, sound_column, passes_origin, column_rule}
use Rattle.circuit.specs.declared.Column.{Column}
use Rattle.circuit.specs.declared.CurveKind.{CurveKind}
use Rattle.circuit.specs.declared.CurveKind.TheVariants.{Unset, Single, Pair}
use Rattle.circuit.specs.declared.Record.{Record}
use Rattle.laws.specs.Accepted.{Beside, origin, Crosses, Drawn}
use Rattle.laws.proofs.Counting as Counting
use Rattle.laws.proofs.Formed.{Formed}

stands_beside : (o n : Column) → beside o n ≡ true → Beside o n
stands_beside o n e =
    let both = (and-eq-true_iff _ _).0 e in
    record { rises = lt_z-true o.x n.x both.0; gentle = leb-true _ _ both.1 }

beside_stands : (o n : Column) → Beside o n → beside o n ≡ true
beside_stands o n b = (and-eq-true_iff _ _).1 (true-lt_z b.rises, le-leb _ _ b.gentle)

at_zero : (z : ℤ) → nat_abs z ≡ 0 → z ≡ pos 0
at_zero (pos n) e = ap pos e
at_zero (negsuc n) e = absurd (let none : ⊥ = omega arith in none)

is_origin : (c : Column) → at_origin c ≡ true → c ≡ origin
is_origin c e =
    let both = (and-eq-true_iff _ _).0 e in
    let x = at_zero c.x (eqb-true _ 0 both.0) in
    let y = at_zero c.y (eqb-true _ 0 both.1) in
    λ i. record { x = x i; y = y i }

-- ---- the rule passes

module _ (r : Record) (f : Formed r) (e : column_rule r ≡ passes) where
  sound : (i : ℕ) → i < r.width → sound_column r i ≡ true
  unfolding column_rule
  sound i l = not-false _ (Counting.lowest_passes _ r.width (Counting.then_passes _ _ e).0 i l)

  origin_there : passes_origin r.kind r ≡ true
  unfolding column_rule
  origin_there = Counting.unless_passes _ 0 (Counting.then_passes (lowest (λ i. not (sound_column r i)) r.width) _ e).1

  small : (i : ℕ) → i < r.width → nat_abs (column_at r i).x ≤ wave_limit
  unfolding sound_column
  small zero l = leb-true _ _ ((and-eq-true_iff _ _).0 (sound 0 l)).0
  small (suc i) l = leb-true _ _ ((and-eq-true_iff _ _).0 (sound (suc i) l)).0

  neighbours : (i : ℕ) → suc i < r.width → Beside (column_at r i) (column_at r (suc i))
  unfolding sound_column
  neighbours i l = stands_beside _ _ ((and-eq-true_iff (within wave_limit (column_at r (suc i)).x) _).0 (sound (suc i) l)).1

  crossing : (k : CurveKind) → r.kind ≡ k → Crosses k r
  unfolding Crosses sound_column
  crossing Unset q = absurd (true≢false (sym f.set ∙ ap is_set q))
  crossing Single q =
      let w = Counting.true_some (λ i. at_origin (column_at r i)) r.width (subst (λ k. passes_origin k r ≡ true) q origin_there) in
      (w.0, w.1, is_origin (column_at r w.0) w.2)
  crossing Pair q =
      let here : 0 < r.width = omega (arith, f.narrow) in
      let start = ((and-eq-true_iff (within wave_limit (column_at r 0).x) (starts r.kind (column_at r 0))).0 (sound 0 here)).1 in
      is_origin (column_at r 0) (subst (λ k. starts k (column_at r 0) ≡ true) q start)

  pub columns_drawn : Drawn r
  columns_drawn = record { two = f.narrow; beside = neighbours; crosses = crossing r.kind refl; small = small }

-- ---- the columns are drawn

module _ (r : Record) (d : Drawn r) where
  start_of : (k : CurveKind) → Crosses k r → starts k (column_at r 0) ≡ true
  unfolding Crosses
  start_of Unset c = absurd c
  start_of Single c = refl
  start_of Pair c = ap at_origin c

  origin_of : (k : CurveKind) → Crosses k r → passes_origin k r ≡ true
  unfolding Crosses
  origin_of Unset c = absurd c
  origin_of Single c = Counting.some_true (λ i. at_origin (column_at r i)) r.width c.0 c.1 (ap at_origin c.2)
  origin_of Pair c = refl

  all_sound : (i : ℕ) → i < r.width → sound_column r i ≡ true
  unfolding sound_column
  all_sound zero l = (and-eq-true_iff _ _).1 (le-leb _ _ (d.small 0 l), start_of r.kind d.crosses)
  all_sound (suc i) l = (and-eq-true_iff _ _).1 (le-leb _ _ (d.small (suc i) l), beside_stands _ _ (d.beside i l))

  pub drawn_passes : column_rule r ≡ passes
  unfolding column_rule
  drawn_passes = ap₂ ◌then◌
      (Counting.passes_lowest (λ i. not (sound_column r i)) r.width (λ i l. ap not (all_sound i l)))
      (ap (λ b. unless b 0) (origin_of r.kind d.crosses))
