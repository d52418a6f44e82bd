-- How large waves can be. What an adaptor rounds lies between two of the whole waves that its ratio lies between, so each wave that it sends lies between
-- two sums of the waves that it gets, in which no wave stands twice: none is larger than those waves together.
use Prim.Native.Nat.{ℕ, suc, ◌+◌, ◌*◌, ◌<◌, ◌≤◌}
use native.Mathlib.Omega.{arith}
use native.Mathlib.Nat.{mul-le-mul_right, le_of_lt}
use mathlib.Core.Path.{◌≡◌, refl, ◌∙◌, subst}
use mathlib.Core.Bool.{Bool, true, false, cond}
use mathlib.Core.List.{[], ◌∷◌}
use lib.IntN.{ℤ, pos, negsuc, ◌+ℤ◌, ◌-ℤ◌, ◌*ℤ◌, neg_ℤ, nat_abs, +ℤ_idl}
use mir.Syntax.{w64}
use mir.Val.{SFits}
use Rattle.whole.specs.Integers.{P, N, at, is_neg, ◌⊞◌, ◌⊟◌, ◌⊠◌}
use Rattle.whole.specs.Order.{zarith, Abs, abs_parts, abs_mul, abs_as}
use Rattle.whole.specs.Quotients.{Rounds, rounds_add, floor_rounds, trunc_rounds}
use Rattle.whole.specs.Ring.{var, ◌⊕◌, ◌⊗◌, ◌⊝◌, ⊖, ring}
use Rattle.whole.specs.Signed.{zfits}
use Rattle.circuit.specs.Record.{Tree, leaf, adaptor}
use Rattle.circuit.specs.Curve.{wave_limit}
use Rattle.circuit.specs.SetUp.{parts}
use Rattle.circuit.specs.Sample.{Rounding, whole_waves, rounded_down, rounded_to_zero, h, sends_up, sends_first, sends_second, up}
use Rattle.circuit.specs.declared.Join.{Join}
use Rattle.circuit.specs.declared.Join.TheVariants.{Series, Parallel}
use Rattle.laws.specs.Accepted.{adaptor_limit, adaptors}
use Rattle.laws.proofs.Roundings.{mixed, u_to_zero, b1_to_zero}
use Rattle.engine.specs.Wave.{up_limit, down_limit, sum_limit, Share, way, Known, Below, Beneath}

-- ---- what is rounded, with ratio g

-- z lies between 0 and t
record Between (z t : ℤ) : Type 0 where
  above : P z ≤ P t
  below : N z ≤ N t

-- a whole number less than one from a part of t
part_between : (g : ℕ) → g < parts → (t : ℤ) {z : ℤ} → Rounds z (pos g *ℤ t) parts → Between z t
part_between g less (pos n) {z} e =
    let l = mul-le-mul_right n (le_of_lt less) in
    let s = at z ⊠ at (pos parts) in
    let m = at (pos g) ⊠ at (pos n) in
    omega (zarith, e.low, e.high, abs_parts z, s, m, m ⊞ at (pos parts), s ⊞ at (pos parts))
part_between g less (negsuc n) {z} e =
    let l = mul-le-mul_right (suc n) (le_of_lt less) in
    let s = at z ⊠ at (pos parts) in
    let m = at (pos g) ⊠ at (negsuc n) in
    omega (zarith, e.low, e.high, abs_parts z, s, m, m ⊞ at (pos parts), s ⊞ at (pos parts))

-- what an adaptor rounds is one of its waves and a whole number between 0 and the sum that it takes a part of
record Mixes (ρ : Rounding) (g : ℕ) : Type 0 where
  u : (a1 a2 : ℤ) → (p : ℤ) × (ρ.u g a1 a2 ≡ a2 +ℤ p) × Between p (a1 -ℤ a2)
  b1 : (a1 a2 a3 : ℤ) → (p : ℤ) × (ρ.b1 g a1 a2 a3 ≡ a1 -ℤ p) × Between p (a1 +ℤ a2 +ℤ a3)

module _ (g : ℕ) (less : g < parts) where
  down_mixes : Mixes rounded_down g
  unfolding h
  down_mixes = record {
    u = λ a1 a2. (h g (a1 -ℤ a2), refl, part_between g less (a1 -ℤ a2) (floor_rounds (pos g *ℤ (a1 -ℤ a2)) parts (omega arith)));
    b1 = λ a1 a2 a3. (h g (a1 +ℤ a2 +ℤ a3), refl, part_between g less (a1 +ℤ a2 +ℤ a3) (floor_rounds (pos g *ℤ (a1 +ℤ a2 +ℤ a3)) parts (omega arith)));
  }

  -- one fraction, less its whole wave
  mixed_between : (a t : ℤ) → Between (neg_ℤ a +ℤ mixed g a t) t
  mixed_between a t =
      let G = var 0 in let K = var 1 in let A = var 2 in let T = var 3 in
      let z = pos parts *ℤ a +ℤ pos g *ℤ t in
      part_between g less t
      (subst (λ y. Rounds (neg_ℤ a +ℤ mixed g a t) y parts)
      (ring (pos g ∷ pos parts ∷ a ∷ t ∷ []) (⊖ A ⊗ K ⊕ (K ⊗ A ⊕ G ⊗ T)) (G ⊗ T) refl)
      (rounds_add (neg_ℤ a) (trunc_rounds z parts (omega arith))))

  to_zero_mixes : Mixes rounded_to_zero g
  to_zero_mixes = record {
    u = λ a1 a2.
        let t = a1 -ℤ a2 in
        let q = mixed g a2 t in
        (neg_ℤ a2 +ℤ q, u_to_zero g a1 a2 ∙ ring (a2 ∷ q ∷ []) (var 1) (var 0 ⊕ (⊖ (var 0) ⊕ var 1)) refl, mixed_between a2 t);
    b1 = λ a1 a2 a3.
        let t = a1 +ℤ a2 +ℤ a3 in
        let q = mixed g a1 (neg_ℤ t) in
        let p = neg_ℤ a1 +ℤ q in
        let m = mixed_between a1 (neg_ℤ t) in (
          neg_ℤ p,
          b1_to_zero g a1 a2 a3 ∙ ring (a1 ∷ q ∷ []) (var 1) (var 0 ⊝ ⊖ (⊖ (var 0) ⊕ var 1)) refl,
          omega (zarith, m, is_neg (at p), is_neg (at t), abs_parts p, abs_parts (neg_ℤ p), abs_parts t, abs_parts (neg_ℤ t)),
        );
  }

  way_mixes : (inward : Bool) → Mixes (way inward) g
  way_mixes true = to_zero_mixes
  way_mixes false = down_mixes

  mixes : {ρ : Rounding} → Known ρ → Mixes ρ g
  mixes k = rw k.1 (way_mixes k.0)

-- ---- one adaptor

-- to its first child (true), and to its second
abbrev pub sends_to : Rounding → Bool → Join → ℕ → ℤ → ℤ → ℤ → ℤ
sends_to ρ side = cond side (sends_first (whole_waves ρ)) (sends_second (whole_waves ρ))

module _ {ρ : Rounding} (known : Known ρ) (g : ℕ) (less : g < parts) {a1 a2 : ℤ} {e1 e2 : ℕ} (h1 : Abs a1 e1) (h2 : Abs a2 e2) where
  up_range : (k : Join) → Abs (sends_up (whole_waves ρ) k g a1 a2) (e1 + e2)
  unfolding sends_up
  up_range Series = omega (zarith, is_neg (at a1 ⊞ at a2))
  up_range Parallel =
      let m = (mixes g less known).u a1 a2 in
      let t = a1 -ℤ a2 in
      rw m.1 (omega (zarith, m.2, at a1 ⊟ at a2, abs_parts t, at a2 ⊞ at m.0))

  module _ {a3 : ℤ} {e3 : ℕ} (h3 : Abs a3 e3) where
    pub down_range : (side : Bool) (k : Join) → Abs (sends_to ρ side k g a1 a2 a3) (e1 + e2 + e3)
    unfolding sends_first sends_second
    down_range true Series =
        let m = (mixes g less known).b1 a1 a2 a3 in
        let t = a1 +ℤ a2 +ℤ a3 in
        rw m.1 (omega (zarith, m.2, at a1 ⊞ at a2 ⊞ at a3, abs_parts t, at a1 ⊟ at m.0))
    down_range false Series =
        let m = (mixes g less known).b1 a1 a2 a3 in
        let t = a1 +ℤ a2 +ℤ a3 in
        rw m.1 (omega (zarith, m.2, at a1 ⊞ at a2 ⊞ at a3, abs_parts t, is_neg (at a3 ⊞ (at a1 ⊟ at m.0))))
    down_range true Parallel =
        let m = (mixes g less known).u a1 a2 in
        let t = a1 -ℤ a2 in
        rw m.1 (omega (zarith, m.2, at a1 ⊟ at a2, abs_parts t, at a2 ⊞ at m.0 ⊞ at a3 ⊟ at a1))
    down_range false Parallel =
        let m = (mixes g less known).u a1 a2 in
        let t = a1 -ℤ a2 in
        rw m.1 (omega (zarith, m.2, at a1 ⊟ at a2, abs_parts t, at a2 ⊞ at m.0 ⊞ at a3 ⊟ at a2))

-- ---- a tree whose leaves keep a wave's limit

module _ {ρ : Rounding} (known : Known ρ) (g : ℕ → ℕ) (w : ℕ → ℤ) (ratio : (j : ℕ) → g j < parts) (quiet : (j : ℕ) → Abs (w j) wave_limit) where
  pub tree_range : (t : Tree) → Abs (up (whole_waves ρ) g w t) (up_limit (adaptors t))
  unfolding up adaptors
  tree_range (leaf j) = abs_as (quiet j) refl (omega arith)
  tree_range (adaptor k j t1 t2) = abs_as (up_range known (g j) (ratio j) (tree_range t1) (tree_range t2) k) refl (omega arith)

-- ---- the steps of the code fit, and come to what the definition sends

abbrev Fits : ℤ → Type 0
Fits = SFits w64

-- a wave in parts, and a part of a sum added to it
pub mixed_fits : {g a t : ℤ} → Share g → Abs a (up_limit adaptor_limit) → Abs t sum_limit
    → Fits (pos parts *ℤ a) × Fits (g *ℤ t) × Fits (pos parts *ℤ a +ℤ g *ℤ t)
mixed_fits {g} {a} {t} share ha ht =
    let x = pos parts *ℤ a in
    let y = g *ℤ t in
    let wave : Abs x (parts * up_limit adaptor_limit) = abs_mul {x = pos parts} {a = parts} (record { bound = omega arith }) ha in
    let part : Abs y (parts * sum_limit) = abs_mul {x = g} {a = parts} (record { bound = omega (arith, share.part) }) ht in
    omega (zfits, at x ⊞ at y)

pub up_fits : {g a1 a2 : ℤ} → Below g a1 a2
    → Fits a1 × Fits a2 × Fits (a1 +ℤ a2) × Fits (pos 0 -ℤ (a1 +ℤ a2)) × Fits (a1 -ℤ a2) × Abs (a1 -ℤ a2) sum_limit
up_fits {g} {a1} {a2} b =
    let s = at a1 ⊞ at a2 in
    let t = a1 -ℤ a2 in
    omega (zfits, b.first, b.second, s, at (pos 0) ⊟ s, at a1 ⊟ at a2, abs_parts t)

-- a part of a sum is no larger than the sum
pub part_range : {g t : ℤ} {e : ℕ} → Share g → Abs t e → Abs (h (nat_abs g) t) e
unfolding h
part_range {g} {t} share small =
    let b = part_between (nat_abs g) share.part t (floor_rounds (pos (nat_abs g) *ℤ t) parts (omega arith)) in
    omega (zarith, small, b, abs_parts t)

-- what a parallel adaptor sends up
pub parallel_fits : {ρ : Rounding} → Known ρ → {g a1 a2 : ℤ} → Below g a1 a2 → Fits (ρ.u (nat_abs g) a1 a2)
unfolding sends_up
parallel_fits known {g} b =
    let small = up_range known (nat_abs g) b.ratio.part b.first b.second Parallel in
    omega (zfits, small)

module _ {ρ : Rounding} (known : Known ρ) {k : Join} {g a1 a2 u a3 : ℤ} (b : Beneath ρ k g a1 a2 u a3) where
  abbrev n : ℕ
  n = nat_abs g

  -- the waves that reach an adaptor, and what a parallel one sends down
  pub down_fits : Fits a1 × Fits a2 × Fits u × Fits a3 × Fits (a3 -ℤ u) × Abs (a3 -ℤ u) sum_limit
      × Fits (u +ℤ a3) × Fits (u +ℤ a3 -ℤ a1) × Fits (u +ℤ a3 -ℤ a2)
  down_fits =
      let t = a3 -ℤ u in
      let size : Abs u (2 * up_limit adaptor_limit) =
      rw b.sent (abs_as (up_range known n b.below.ratio.part b.below.first b.below.second k) refl (omega arith)) in
      omega (zfits, b.below.first, b.below.second, b.above, at u ⊞ at a3, at u ⊞ at a3 ⊟ at a1, at u ⊞ at a3 ⊟ at a2, at a3 ⊟ at u, abs_parts t)

  pub parallel_down : k ≡ Parallel
      → (u +ℤ a3 -ℤ a1 ≡ sends_first (whole_waves ρ) k n a1 a2 a3) × (u +ℤ a3 -ℤ a2 ≡ sends_second (whole_waves ρ) k n a1 a2 a3)
  unfolding sends_up sends_first sends_second
  parallel_down kind = rw (b.sent, kind) (refl, refl)

  -- a series one sends b1, and from it the second
  module _ (kind : k ≡ Series) where
    pub series_sum : a3 -ℤ u ≡ a1 +ℤ a2 +ℤ a3
    unfolding sends_up
    series_sum = rw (b.sent, kind) (omega (zarith, at a3 ⊟ is_neg (at a1 ⊞ at a2), at a1 ⊞ at a2 ⊞ at a3))

    module _ {first : ℤ} (e : first ≡ ρ.b1 n a1 a2 a3) where
      pub series_fits : Fits first × Fits (a3 +ℤ first) × Fits (pos 0 -ℤ (a3 +ℤ first))
      unfolding sends_first
      series_fits =
          let small : Abs first (up_limit adaptor_limit + up_limit adaptor_limit + down_limit adaptor_limit) =
          rw e (down_range known n b.below.ratio.part b.below.first b.below.second b.above true Series) in
          omega (zfits, b.above, at a3 ⊞ at first, at (pos 0) ⊟ (at a3 ⊞ at first))

      pub series_down : (first ≡ sends_first (whole_waves ρ) k n a1 a2 a3)
          × (pos 0 -ℤ (a3 +ℤ first) ≡ sends_second (whole_waves ρ) k n a1 a2 a3)
      unfolding sends_first sends_second
      series_down = rw (kind, e) (refl, +ℤ_idl _)
