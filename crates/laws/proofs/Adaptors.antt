-- What an adaptor's whole waves stray by, for a ratio g of any width W. Every wave that an adaptor sends mixes the waves that it gets with
-- the weights g and W − g. Going up, the errors of its children add up at most, and its own rounding adds one. Coming down, a child gets
-- back for its own error no more than that error; its sibling's error and the adaptor's rounding count twice at most, once on the way
-- to the child and once by way of what stands above.
use Prim.Native.Nat.{ℕ, zero, ◌+◌, ◌-◌, ◌*◌, ◌<◌, ◌≤◌}
use native.Mathlib.Omega.{arith}
use mathlib.Core.Path.{refl}
use mathlib.Core.List.{[], ◌∷◌}
use lib.IntN.{ℤ, pos, ◌+ℤ◌, ◌-ℤ◌, ◌*ℤ◌, neg_ℤ}
use Rattle.whole.specs.Integers.{at, ◌⊟◌}
use Rattle.whole.specs.Order.{zarith, Abs, abs_as}
use Rattle.whole.specs.Quotients.{Rounds}
use Rattle.whole.specs.Ring.{Exp, var, ◌⊕◌, ◌⊗◌, ◌⊝◌, ⊖}
use Rattle.whole.specs.Mirror.{Quot, parts, frac_e, over_e, whole_e, ◌⊕F◌, ⊖F, ◌⊝F◌, times_e, by}
use Rattle.whole.specs.Fraction.{Fraction, over, whole, ◌+F◌, neg_f, ◌-F◌, times, ◌≈◌}
use Rattle.whole.specs.Fractions.{≈-refl, ≈-neg, sum_comm}
use Rattle.whole.specs.Nearness.{Small, small_le, small_as, small_add, small_neg, small_times, Near, near_as, near_whole, near_rounds, near_add, near_sub, near_apart}
use Rattle.laws.proofs.Reflectance.{Reflects, reflects_as, reflects_rounded, parallel_child, series_child, error, error_near, Echo}

-- ---- what adaptors send, unrounded

module _ (g W : ℕ) (w : zero < W) where
  -- a parallel adaptor, up
  abbrev pub exact_u : Fraction → Fraction → Fraction
  exact_u p1 p2 = p2 +F times (pos g) W w (p1 -F p2)

  -- a series adaptor, to its first child
  abbrev pub exact_b1 : Fraction → Fraction → Fraction → Fraction
  exact_b1 p1 p2 p3 = p1 -F times (pos g) W w (p1 +F p2 +F p3)

difference_undo : (p q : Fraction) → p -F q +F q ≈ p
difference_undo p q = record { same = by (parts (p ∷ q ∷ []) []) (frac_e 0 ⊝F frac_e 1 ⊕F frac_e 1) (frac_e 0) refl }

-- errors of a sum less a third
less_errors : (a b c : ℤ) (p q r : Fraction) → error a p +F error b q -F error c r ≈ error (a +ℤ b -ℤ c) (p +F q -F r)
less_errors a b c p q r =
    let A = var 6 in let B = var 7 in let C = var 8 in
    record {
      same = by (parts (p ∷ q ∷ r ∷ []) (a ∷ b ∷ c ∷ []))
          (whole_e A ⊝F frac_e 0 ⊕F (whole_e B ⊝F frac_e 1) ⊝F (whole_e C ⊝F frac_e 2)) (whole_e (A ⊕ B ⊝ C) ⊝F (frac_e 0 ⊕F frac_e 1 ⊝F frac_e 2)) refl;
    }

-- of a minus sum
minus_errors : (a b : ℤ) (p q : Fraction) → error (neg_ℤ (a +ℤ b)) (neg_f (p +F q)) ≈ neg_f (error a p +F error b q)
minus_errors a b p q =
    let A = var 4 in let B = var 5 in
    record {
      same = by (parts (p ∷ q ∷ []) (a ∷ b ∷ []))
          (whole_e (⊖ (A ⊕ B)) ⊝F ⊖F (frac_e 0 ⊕F frac_e 1)) (⊖F (whole_e A ⊝F frac_e 0 ⊕F (whole_e B ⊝F frac_e 1))) refl;
    }

-- ---- a rounded quotient makes a wave within one of the unrounded, at the same whole waves

-- for the solver, which has the ratio g / W before the waves
abbrev G : Exp
G = var 0

abbrev K : Exp
K = var 1

abbrev pub u_e : Quot → Quot → Quot
u_e p1 p2 = p2 ⊕F times_e G K (p1 ⊝F p2)

abbrev pub b1_e : Quot → Quot → Quot → Quot
b1_e p1 p2 p3 = p1 ⊝F times_e G K (p1 ⊕F p2 ⊕F p3)

module _ (g W : ℕ) (w : zero < W) (a1 a2 : ℤ) {k : ℤ} where
  pub u_rounds : Rounds k (pos g *ℤ (a1 -ℤ a2)) W → Near 1 (a2 +ℤ k) (exact_u g W w (whole a1) (whole a2))
  u_rounds h =
      let A1 = whole_e (var 2) in let A2 = whole_e (var 3) in
      near_as (record { same = by (pos g ∷ pos W ∷ a1 ∷ a2 ∷ []) (A2 ⊕F over_e (G ⊗ (var 2 ⊝ var 3)) K) (u_e A1 A2) refl })
      (near_add (near_whole a2) (near_rounds w h))

  pub b1_rounds : (a3 : ℤ) → Rounds k (pos g *ℤ (a1 +ℤ a2 +ℤ a3)) W → Near 1 (a1 -ℤ k) (exact_b1 g W w (whole a1) (whole a2) (whole a3))
  b1_rounds a3 h =
      let A1 = whole_e (var 2) in let A2 = whole_e (var 3) in let A3 = whole_e (var 4) in
      near_as (record { same = by (pos g ∷ pos W ∷ a1 ∷ a2 ∷ a3 ∷ []) (A1 ⊝F over_e (G ⊗ (var 2 ⊕ var 3 ⊕ var 4)) K) (b1_e A1 A2 A3) refl })
      (near_sub (near_whole a1) (near_rounds w h))

-- ---- up and down, by the weights g and W − g

module _ (g W : ℕ) (w : zero < W) (l : g ≤ W) where
  first : Abs (pos g) g
  first = record { bound = omega arith }

  second : Abs (pos W -ℤ pos g) (W - g)
  second = omega (zarith, at (pos W) ⊟ at (pos g))

  -- what the second's weight leaves is the first's
  first_left : Abs (pos W -ℤ (pos W -ℤ pos g)) g
  first_left = omega (zarith, at (pos W) ⊟ (at (pos W) ⊟ at (pos g)))

  -- a share of an error
  shared : {E : ℕ} {a : ℤ} {p : Fraction} {α : ℤ} {m : ℕ} → Abs α m → m ≤ W → Near E a p → Small E (times α W w (error a p))
  shared {α = α} h m n = small_times α W w (abs_as h refl m) (near_apart n)

  module _ {a1 a2 : ℤ} {E1 E2 : ℕ} {p1 p2 : Fraction} (h1 : Near E1 a1 p1) (h2 : Near E2 a2 p2) where
    -- ---- a parallel adaptor that sends up u

    module _ {u : ℤ} (r : Near 1 u (exact_u g W w (whole a1) (whole a2))) where
      abbrev sent_up : Fraction
      sent_up = error u (exact_u g W w p1 p2)

      -- beside a share of one child's error there is in u's a share of the other's, and the rounding
      beside_first : Small (E2 + 1) (sent_up -F times (pos g) W w (error a1 p1))
      beside_first =
          let A1 = whole_e (var 6) in let A2 = whole_e (var 7) in let U = whole_e (var 8) in
          small_as (record {
            same = by (parts (over (pos g) W w ∷ p1 ∷ p2 ∷ []) (a1 ∷ a2 ∷ u ∷ []))
                (times_e (K ⊝ G) K (A2 ⊝F frac_e 2) ⊕F (U ⊝F u_e A1 A2)) (U ⊝F u_e (frac_e 1) (frac_e 2) ⊝F times_e G K (A1 ⊝F frac_e 1)) refl;
          })
          (small_add (shared second (omega arith) h2) (near_apart r))

      beside_second : Small (E1 + 1) (sent_up -F times (pos W -ℤ pos g) W w (error a2 p2))
      beside_second =
          let A1 = whole_e (var 6) in let A2 = whole_e (var 7) in let U = whole_e (var 8) in
          small_as (record {
            same = by (parts (over (pos g) W w ∷ p1 ∷ p2 ∷ []) (a1 ∷ a2 ∷ u ∷ []))
                (times_e G K (A1 ⊝F frac_e 1) ⊕F (U ⊝F u_e A1 A2)) (U ⊝F u_e (frac_e 1) (frac_e 2) ⊝F times_e (K ⊝ G) K (A2 ⊝F frac_e 2)) refl;
          })
          (small_add (shared first l h1) (near_apart r))

      pub u_near : Near (E1 + E2 + 1) u (exact_u g W w p1 p2)
      u_near =
          let t = times (pos g) W w (error a1 p1) in
          error_near (small_le (omega arith) (small_as (difference_undo sent_up t) (small_add beside_first (shared first l h1))))

      -- it gets back a3, and sends each child u + a3 less what the child sent
      module _ {D : ℕ} {a3 : ℤ} {p3 : Fraction} (back : Echo D u (exact_u g W w p1 p2) a3 p3) where
        pub parallel_first : Echo (2 * E2 + 2 + D) a1 p1 (u +ℤ a3 -ℤ a1) (exact_u g W w p1 p2 +F p3 -F p1)
        parallel_first =
            record {
              echo = reflects_as (≈-refl (error a1 p1)) (less_errors u a3 a1 (exact_u g W w p1 p2) p3 p1) (omega arith)
                  (parallel_child W w (pos g) first second (omega arith) (error a1 p1) sent_up (error a3 p3) beside_first back.echo);
            }

        pub parallel_second : Echo (2 * E1 + 2 + D) a2 p2 (u +ℤ a3 -ℤ a2) (exact_u g W w p1 p2 +F p3 -F p2)
        parallel_second =
            record {
              echo = reflects_as (≈-refl (error a2 p2)) (less_errors u a3 a2 (exact_u g W w p1 p2) p3 p2) (omega arith)
                  (parallel_child W w (pos W -ℤ pos g) second first_left (omega arith) (error a2 p2) sent_up (error a3 p3) beside_second back.echo);
            }

    -- ---- a series adaptor that sends up minus the sum, gets back a3, and sends b to its first child, minus the sum of a3 and b to its second

    module _ {D : ℕ} {a3 : ℤ} {p3 : Fraction} (back : Echo D (neg_ℤ (a1 +ℤ a2)) (neg_f (p1 +F p2)) a3 p3) {b : ℤ}
        (r : Near 1 b (exact_b1 g W w (whole a1) (whole a2) (whole a3))) where
      abbrev rounding : Fraction
      rounding = error b (exact_b1 g W w (whole a1) (whole a2) (whole a3))

      back_first : Reflects D (neg_f (error a1 p1 +F error a2 p2)) (error a3 p3)
      back_first = reflects_as (minus_errors a1 a2 p1 p2) (≈-refl (error a3 p3)) (omega arith) back.echo

      back_second : Reflects D (neg_f (error a2 p2 +F error a1 p1)) (error a3 p3)
      back_second =
          reflects_as (≈-neg (sum_comm (error a1 p1) (error a2 p2))) (≈-refl (error a3 p3)) (omega arith) back_first

      pub series_first : Echo (2 * E2 + 2 + D) a1 p1 b (exact_b1 g W w p1 p2 p3)
      series_first =
          let A1 = whole_e (var 8) in let A2 = whole_e (var 9) in let A3 = whole_e (var 10) in let B = whole_e (var 11) in
          record {
            echo = reflects_as (≈-refl (error a1 p1))
                (record {
                  same = by (parts (over (pos g) W w ∷ p1 ∷ p2 ∷ p3 ∷ []) (a1 ∷ a2 ∷ a3 ∷ b ∷ []))
                      (times_e (K ⊝ G) K (A1 ⊝F frac_e 1) ⊝F times_e G K (A2 ⊝F frac_e 2 ⊕F (A3 ⊝F frac_e 3)) ⊕F (B ⊝F b1_e A1 A2 A3))
                      (B ⊝F b1_e (frac_e 1) (frac_e 2) (frac_e 3)) refl;
                })
                (omega arith)
                (reflects_rounded (error a1 p1) (times (pos W -ℤ pos g) W w (error a1 p1) -F times (pos g) W w (error a2 p2 +F error a3 p3))
                rounding (near_apart r)
                (series_child W w (pos g) first second (omega arith) (error a1 p1) (error a2 p2) (error a3 p3) (near_apart h2) back_first));
          }

      pub series_second : Echo (2 * E1 + 2 + D) a2 p2 (neg_ℤ (a3 +ℤ b)) (neg_f (p3 +F exact_b1 g W w p1 p2 p3))
      series_second =
          let A1 = whole_e (var 8) in let A2 = whole_e (var 9) in let A3 = whole_e (var 10) in let B = whole_e (var 11) in
          let β = pos W -ℤ pos g in
          record {
            echo = reflects_as (≈-refl (error a2 p2))
                (record {
                  same = by (parts (over (pos g) W w ∷ p1 ∷ p2 ∷ p3 ∷ []) (a1 ∷ a2 ∷ a3 ∷ b ∷ []))
                      (times_e (K ⊝ (K ⊝ G)) K (A2 ⊝F frac_e 2) ⊝F times_e (K ⊝ G) K (A1 ⊝F frac_e 1 ⊕F (A3 ⊝F frac_e 3)) ⊝F (B ⊝F b1_e A1 A2 A3))
                      (whole_e (⊖ (var 10 ⊕ var 11)) ⊝F ⊖F (frac_e 3 ⊕F b1_e (frac_e 1) (frac_e 2) (frac_e 3))) refl;
                })
                (omega arith)
                (reflects_rounded (error a2 p2) (times (pos W -ℤ β) W w (error a2 p2) -F times β W w (error a1 p1 +F error a3 p3))
                (neg_f rounding) (small_neg (near_apart r))
                (series_child W w β second first_left (omega arith) (error a2 p2) (error a1 p1) (error a3 p3) (near_apart h1) back_second));
          }
