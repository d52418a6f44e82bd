-- Where the rounding turns over with its waves, so does everything between the leaves: opposite waves from the leaves make opposite waves at
-- every adaptor, going up and coming down. Rounding toward zero is such, and so is the answer of a pair. So a sample whose leaves raise the
-- opposite of what another's raise has the opposite waves at the top and at every leaf.
use Prim.Native.Nat.{ℕ, zero, suc}
use mathlib.Core.Path.{◌≡◌, refl, sym, ap, ap₂, ◌∙◌}
use mathlib.Core.List.{[], ◌∷◌}
use lib.IntN.{ℤ, pos, negsuc, ◌+ℤ◌, ◌-ℤ◌, ◌*ℤ◌, neg_ℤ, nat_abs, neg_ℤ-neg_ℤ}
use lib.Signed.{quot_z}
use Rattle.whole.specs.Order.{zarith, abs_parts, nat_abs-neg}
use Rattle.whole.specs.Ring.{var, ◌⊕◌, ◌⊗◌, ◌⊝◌, ⊖, ring}
use Rattle.whole.specs.Quotients.{trunc_odd}
use Rattle.whole.specs.Fraction.{whole}
use Rattle.circuit.specs.Record.{Tree, leaf, adaptor, tree_of}
use Rattle.circuit.specs.SetUp.{parts, ratio_at}
use Rattle.circuit.specs.Curve.{drawn, toward_zero, reflected}
use Rattle.circuit.specs.Sample.{Arithmetic, Rounding, whole_waves, rounded_to_zero, rounding_of, holds, sends_up, sends_first, sends_second, up, reach, raised, risen, reached}
use Rattle.circuit.specs.declared.Join.{Join}
use Rattle.circuit.specs.declared.Join.TheVariants.{Series, Parallel}
use Rattle.circuit.specs.declared.CurveKind.TheVariants.{Pair}
use Rattle.circuit.specs.declared.Record.{Record}
use Rattle.laws.specs.Accepted.{Drawn}
use Rattle.laws.proofs.Line.{pair_left, pair_right}
use Rattle.laws.proofs.Drawn.{answer_never_exceeds}
use Rattle.laws.proofs.Roundings.{mixed, u_to_zero, b1_to_zero}
use Rattle.theorems.specs.Opposite.{Odd}
use Rattle.theorems.proofs.Changed.{either}

-- ---- the rounding of version 2

mixed_odd : (g : ℕ) (a t : ℤ) → mixed g (neg_ℤ a) (neg_ℤ t) ≡ neg_ℤ (mixed g a t)
mixed_odd g a t =
    ap (λ z. quot_z z (pos parts))
    (ring (pos g ∷ pos parts ∷ a ∷ t ∷ []) (var 1 ⊗ ⊖ (var 2) ⊕ var 0 ⊗ ⊖ (var 3)) (⊖ (var 1 ⊗ var 2 ⊕ var 0 ⊗ var 3)) refl)
    ∙ trunc_odd (pos parts *ℤ a +ℤ pos g *ℤ t) parts

to_zero_odd : Odd rounded_to_zero
to_zero_odd = record {
  u = λ g a1 a2.
      u_to_zero g (neg_ℤ a1) (neg_ℤ a2)
      ∙ ap (mixed g (neg_ℤ a2)) (ring (a1 ∷ a2 ∷ []) (⊖ (var 0) ⊝ ⊖ (var 1)) (⊖ (var 0 ⊝ var 1)) refl)
      ∙ mixed_odd g a2 (a1 -ℤ a2) ∙ ap neg_ℤ (sym (u_to_zero g a1 a2));
  b1 = λ g a1 a2 a3.
      b1_to_zero g (neg_ℤ a1) (neg_ℤ a2) (neg_ℤ a3)
      ∙ ap (mixed g (neg_ℤ a1)) (ring (a1 ∷ a2 ∷ a3 ∷ []) (⊖ (⊖ (var 0) ⊕ ⊖ (var 1) ⊕ ⊖ (var 2))) (⊖ (⊖ (var 0 ⊕ var 1 ⊕ var 2))) refl)
      ∙ mixed_odd g a1 (neg_ℤ (a1 +ℤ a2 +ℤ a3)) ∙ ap neg_ℤ (sym (b1_to_zero g a1 a2 a3));
}

pub version_2_odd : {version : ℕ} → version ≡ 2 → Odd (rounding_of version)
unfolding rounding_of
version_2_odd e = rw e to_zero_odd

-- ---- the answer of a pair, which is 0 at 0, since it never exceeds its wave

module _ {r : Record} (d : Drawn r) (kind : r.kind ≡ Pair) where
  pub pair_odd : (a : ℤ) → reflected r (neg_ℤ a) ≡ neg_ℤ (reflected r a)
  pair_odd (pos zero) =
      let none : reflected r (pos 0) ≡ pos 0 = omega (zarith, answer_never_exceeds d (pos 0), abs_parts (reflected r (pos 0))) in
      none ∙ sym (ap neg_ℤ none)
  pair_odd (pos (suc n)) =
      pair_left r kind (negsuc n) (omega zarith) ∙ ap neg_ℤ (sym (pair_right r kind (pos (suc n)) (omega zarith)))
  pair_odd (negsuc n) =
      pair_right r kind (pos (suc n)) (omega zarith)
      ∙ sym (ap neg_ℤ (pair_left r kind (negsuc n) (omega zarith)) ∙ neg_ℤ-neg_ℤ (toward_zero (drawn r (whole (pos (suc n))))))

-- ---- adaptors and trees

pub sum_opposite : (a b : ℤ) → neg_ℤ a +ℤ neg_ℤ b ≡ neg_ℤ (a +ℤ b)
sum_opposite a b = ring (a ∷ b ∷ []) (⊖ (var 0) ⊕ ⊖ (var 1)) (⊖ (var 0 ⊕ var 1)) refl

module _ {ρ : Rounding} (odd : Odd ρ) where
  abbrev 𝓡 : Arithmetic
  𝓡 = whole_waves ρ

  up_odd : (k : Join) (g : ℕ) (a1 a2 : ℤ) → sends_up 𝓡 k g (neg_ℤ a1) (neg_ℤ a2) ≡ neg_ℤ (sends_up 𝓡 k g a1 a2)
  unfolding sends_up
  up_odd Series g a1 a2 = ap neg_ℤ (sum_opposite a1 a2)
  up_odd Parallel g a1 a2 = odd.u g a1 a2

  -- u + a3 less what the child sent
  rest_odd : (u a3 a : ℤ) → neg_ℤ u +ℤ neg_ℤ a3 +ℤ neg_ℤ (neg_ℤ a) ≡ neg_ℤ (u +ℤ a3 +ℤ neg_ℤ a)
  rest_odd u a3 a = ring (u ∷ a3 ∷ a ∷ []) (⊖ (var 0) ⊕ ⊖ (var 1) ⊕ ⊖ (⊖ (var 2))) (⊖ (var 0 ⊕ var 1 ⊕ ⊖ (var 2))) refl

  first_odd : (k : Join) (g : ℕ) (a1 a2 a3 : ℤ) → sends_first 𝓡 k g (neg_ℤ a1) (neg_ℤ a2) (neg_ℤ a3) ≡ neg_ℤ (sends_first 𝓡 k g a1 a2 a3)
  unfolding sends_first
  first_odd Series g a1 a2 a3 = odd.b1 g a1 a2 a3
  first_odd Parallel g a1 a2 a3 = ap (λ u. u +ℤ neg_ℤ a3 +ℤ neg_ℤ (neg_ℤ a1)) (odd.u g a1 a2) ∙ rest_odd (ρ.u g a1 a2) a3 a1

  second_odd : (k : Join) (g : ℕ) (a1 a2 a3 : ℤ) → sends_second 𝓡 k g (neg_ℤ a1) (neg_ℤ a2) (neg_ℤ a3) ≡ neg_ℤ (sends_second 𝓡 k g a1 a2 a3)
  unfolding sends_second
  second_odd Series g a1 a2 a3 =
      ap (λ b. neg_ℤ (neg_ℤ a3 +ℤ b)) (odd.b1 g a1 a2 a3) ∙ ap neg_ℤ (sum_opposite a3 (ρ.b1 g a1 a2 a3))
  second_odd Parallel g a1 a2 a3 = ap (λ u. u +ℤ neg_ℤ a3 +ℤ neg_ℤ (neg_ℤ a2)) (odd.u g a1 a2) ∙ rest_odd (ρ.u g a1 a2) a3 a2

  -- opposite waves from the leaves
  module _ (g : ℕ → ℕ) (w v : ℕ → ℤ) (from : (j : ℕ) → v j ≡ neg_ℤ (w j)) where
    up_opposite : (t : Tree) → up 𝓡 g v t ≡ neg_ℤ (up 𝓡 g w t)
    unfolding up
    up_opposite (leaf j) = from j
    up_opposite (adaptor k j t1 t2) =
        ap₂ (sends_up 𝓡 k (g j)) (up_opposite t1) (up_opposite t2) ∙ up_odd k (g j) (up 𝓡 g w t1) (up 𝓡 g w t2)

    reach_opposite : (t : Tree) (j : ℕ) (a b : ℤ) → b ≡ neg_ℤ a → reach 𝓡 g v t b j ≡ neg_ℤ (reach 𝓡 g w t a j)
    unfolding reach
    reach_opposite (leaf i) j a b e = e
    reach_opposite (adaptor k i t1 t2) j a b e =
        let a1 = up 𝓡 g w t1 in
        let a2 = up 𝓡 g w t2 in
        let first = sends_first 𝓡 k (g i) a1 a2 a in
        let second = sends_second 𝓡 k (g i) a1 a2 a in
        let first' = sends_first 𝓡 k (g i) (up 𝓡 g v t1) (up 𝓡 g v t2) b in
        let second' = sends_second 𝓡 k (g i) (up 𝓡 g v t1) (up 𝓡 g v t2) b in
        either (holds t1 j) neg_ℤ (reach 𝓡 g w t1 first j) (reach 𝓡 g w t2 second j) (reach 𝓡 g v t1 first' j) (reach 𝓡 g v t2 second' j)
        (λ q. reach_opposite t1 j first first' (rw (up_opposite t1, up_opposite t2, e) (first_odd k (g i) a1 a2 a)))
        (λ q. reach_opposite t2 j second second' (rw (up_opposite t1, up_opposite t2, e) (second_odd k (g i) a1 a2 a)))

-- ---- two samples, on one tree with the same ratios

-- what each has in all at the top, and brings down to a leaf's row, is the opposite of the other's; so their waves have the same sizes
pub record Opposites (ρ : Rounding) (answer answer' : ℤ → ℤ) (r s : Record) (stored stored' : ℕ → ℤ) (x x' : ℤ) : Type 0 where
  pub top : risen (whole_waves ρ) s stored' x' +ℤ answer' (risen (whole_waves ρ) s stored' x')
      ≡ neg_ℤ (risen (whole_waves ρ) r stored x +ℤ answer (risen (whole_waves ρ) r stored x))
  pub below : (j : ℕ) → reached (whole_waves ρ) answer' s stored' x' j ≡ neg_ℤ (reached (whole_waves ρ) answer r stored x j)
  pub top_size : nat_abs (risen (whole_waves ρ) s stored' x') ≡ nat_abs (risen (whole_waves ρ) r stored x)
  pub size : (j : ℕ) → nat_abs (reached (whole_waves ρ) answer' s stored' x' j) ≡ nat_abs (reached (whole_waves ρ) answer r stored x j)

-- where their leaves raise opposite waves and their diodes answer those with opposite ones
module _ {ρ : Rounding} (odd : Odd ρ) (answer answer' : ℤ → ℤ) (echo : (a : ℤ) → answer' (neg_ℤ a) ≡ neg_ℤ (answer a))
    (r s : Record) (trees : tree_of s ≡ tree_of r) (ratios : ratio_at s ≡ ratio_at r) (stored stored' : ℕ → ℤ) (x x' : ℤ)
    (from : (j : ℕ) → raised (whole_waves ρ) s stored' x' j ≡ neg_ℤ (raised (whole_waves ρ) r stored x j)) where
  abbrev 𝓦 : Arithmetic
  𝓦 = whole_waves ρ

  abbrev rises : ℤ
  rises = risen 𝓦 r stored x

  abbrev rises' : ℤ
  rises' = risen 𝓦 s stored' x'

  risen_opposite : rises' ≡ neg_ℤ rises
  unfolding risen
  risen_opposite =
      (λ i. up 𝓦 (ratios i) (raised 𝓦 s stored' x') (trees i))
      ∙ up_opposite odd (ratio_at r) (raised 𝓦 r stored x) (raised 𝓦 s stored' x') from (tree_of r)

  answer_opposite : answer' rises' ≡ neg_ℤ (answer rises)
  answer_opposite = ap answer' risen_opposite ∙ echo rises

  reached_opposite : (j : ℕ) → reached 𝓦 answer' s stored' x' j ≡ neg_ℤ (reached 𝓦 answer r stored x j)
  unfolding reached
  reached_opposite j =
      (λ i. reach 𝓦 (ratios i) (raised 𝓦 s stored' x') (trees i) (answer' rises') j)
      ∙ reach_opposite odd (ratio_at r) (raised 𝓦 r stored x) (raised 𝓦 s stored' x') from (tree_of r) j (answer rises) (answer' rises') answer_opposite

  pub opposites : Opposites ρ answer answer' r s stored stored' x x'
  opposites = record {
    top = ap₂ ◌+ℤ◌ risen_opposite answer_opposite ∙ sum_opposite rises (answer rises);
    below = reached_opposite;
    top_size = ap nat_abs risen_opposite ∙ nat_abs-neg rises;
    size = λ j. ap nat_abs (reached_opposite j) ∙ nat_abs-neg (reached 𝓦 answer r stored x j);
  }
