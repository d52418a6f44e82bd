-- What a knob gives that is not refused. V is 32·n, so from a column to the next x goes up by 3·n, and the lag, which is half of what y lies
-- behind x, goes up by no more: y moves no further than x does, and never exceeds it.
use Prim.Native.Nat.{ℕ, zero, suc, ◌+◌, ◌*◌, ◌/◌, ◌%◌, ◌<◌, ◌≤◌}
use native.Mathlib.Nat.{div-add-mod', mul-le-mul_left}
use native.Mathlib.Omega.{arith}
use borrow.Author.Tests.{eqb-true}
use mathlib.Core.Path.{◌≡◌, refl, ap, ◌∙◌}
use mathlib.Core.Bool.{Bool, true, false, cond, and-eq-true_iff}
use lib.Dec.{eqb}
use lib.IntN.{ℤ, pos, negsuc, ◌+ℤ◌, ◌*ℤ◌, ◌-ℤ◌, nat_abs}
use lib.Signed.{◌≤ℤ◌, ◌<ℤ◌, le_z, shr_z}
use Rattle.whole.specs.Integers.{at, ◌⊞◌, ◌⊟◌, ◌⊠◌}
use Rattle.whole.specs.Order.{zarith, abs_parts, le_z-true, le_scale}
use Rattle.whole.specs.Quotients.{floor_high, floor_least, floor_mono, floor_exact}
use Rattle.circuit.specs.Numbers.{report, done, rule}
use Rattle.circuit.specs.Curve.{wave_limit}
use Rattle.circuit.specs.Omega.{omega_parts, entry_at}
use Rattle.circuit.specs.Knee.{x_at, y_at, lag_at, knee_column, sound_knob, voltage_rule, build_report, if_built}
use Rattle.circuit.specs.declared.Knob.{Knob}
use Rattle.laws.specs.Accepted.{Beside}
use Rattle.laws.proofs.Judging.{judge_test}
use Rattle.laws.proofs.Omega.{first_entry, Climbs, climbs}

-- ---- 18, or a curve

module _ (b : Knob) where
  build_report_lem : {s : Bool} → sound_knob b ≡ s → build_report b ≡ cond s done (report 18 0)
  unfolding build_report voltage_rule
  build_report_lem e = judge_test (rule 18 voltage_rule) b (sound_knob b) 0 refl ∙ ap (λ s. cond s done (report 18 0)) e

  pub report_built : sound_knob b ≡ true → build_report b ≡ done
  report_built = build_report_lem

  pub report_refused : sound_knob b ≡ false → build_report b ≡ report 18 0
  report_refused = build_report_lem

  module _ {A : Type 0} (built none : A) where
    pub if_built_lem : sound_knob b ≡ true → if_built b built none ≡ built
    if_built_lem e = ap (λ n. cond (eqb n.number 0) built none) (report_built e)

    pub if_refused : sound_knob b ≡ false → if_built b built none ≡ none
    if_refused e = ap (λ n. cond (eqb n.number 0) built none) (report_refused e)

-- ---- what 18 leaves: V is 32·n, a is at least 1, and the last x keeps its limit

pub record Turned (b : Knob) : Type 0 where
  pub n : ℕ
  pub above : 0 < n
  pub thermal : b.thermal ≡ pos (32 * n)
  pub knee : pos 1 ≤ℤ b.knee
  pub last : x_at b 60 ≤ℤ pos wave_limit

multiple : (v : ℤ) → pos 1 ≤ℤ v → eqb (nat_abs v % 32) 0 ≡ true → (n : ℕ) × (0 < n) × (v ≡ pos (32 * n))
multiple (pos p) one whole =
    let none = eqb-true (p % 32) 0 whole in
    let same : p ≡ 32 * (p / 32) = omega (arith, div-add-mod' p 32) in
    (p / 32, omega zarith, ap pos same)
multiple (negsuc p) one whole = absurd (let none : ⊥ = omega zarith in none)

pub turned : (b : Knob) → sound_knob b ≡ true → Turned b
turned b e =
    let last = (and-eq-true_iff _ (le_z (x_at b 60) (pos wave_limit))).0 e in
    let whole = (and-eq-true_iff _ (eqb (nat_abs b.thermal % 32) 0)).0 last.0 in
    let ones = (and-eq-true_iff (le_z (pos 1) b.knee) (le_z (pos 1) b.thermal)).0 whole.0 in
    let m = multiple b.thermal (le_z-true (pos 1) b.thermal ones.1) whole.1 in
    record { n = m.0; above = m.1; thermal = m.2; knee = le_z-true (pos 1) b.knee ones.0; last = le_z-true (x_at b 60) (pos wave_limit) last.1 }

-- ---- with V = 32·n

module _ (n : ℕ) where
  -- from a column to the next x goes up by this
  abbrev pub run : ℕ
  run = 3 * n

  abbrev lag : ℤ → ℤ
  lag w = shr_z (pos (32 * n) *ℤ w) omega_parts

  lag_first : lag (entry_at 0) ≡ pos 0
  lag_first = rw first_entry (ap (λ (m : ℕ). shr_z (pos m) omega_parts) (let none : 32 * n * 0 ≡ 0 = omega arith in none))

  -- 24 entries are a column
  lag_rises : {w v : ℤ} → Climbs 24 w v → lag w ≤ℤ lag v
  lag_rises {w} {v} c =
      let u = at (pos (32 * n)) in
      let more = le_scale (32 * n) c.rises in
      let up : (pos (32 * n) *ℤ w) ≤ℤ (pos (32 * n) *ℤ v) = omega (zarith, u ⊠ at w, u ⊠ at v, at w ⊠ u, at v ⊠ u) in
      floor_mono omega_parts (omega arith) up

  lag_gently : {w v : ℤ} → Climbs 24 w v → lag v ≤ℤ (lag w +ℤ pos run)
  lag_gently {w} {v} c =
      let u = at (pos (32 * n)) in
      let f = lag w in
      let high : (pos (32 * n) *ℤ w) <ℤ (f *ℤ pos omega_parts +ℤ pos omega_parts) = floor_high (pos (32 * n) *ℤ w) omega_parts (omega arith) in
      let most = le_scale (32 * n) c.gently in
      floor_least (f +ℤ pos run) (pos (32 * n) *ℤ v) omega_parts (omega arith)
      (omega (
        zarith,
        u ⊠ at w,
        u ⊠ at v,
        at v ⊠ u,
        (at w ⊞ at (pos (65536 * 24))) ⊠ u,
        at f ⊠ at (pos omega_parts) ⊞ at (pos omega_parts),
        (at f ⊞ at (pos run)) ⊠ at (pos omega_parts) ⊞ at (pos omega_parts),
      ))

  climbs_on : (k : ℕ) → k < 60 → Climbs 24 (entry_at (24 * k)) (entry_at (24 * suc k))
  climbs_on k h = let next : 24 * k + 24 ≡ 24 * suc k = omega arith in rw (← next) (climbs 24 (24 * k) (omega arith))

  pub record Lag (k : ℕ) (l : ℤ) : Type 0 where
    pub low : pos 0 ≤ℤ l
    pub high : l ≤ℤ pos (run * k)

  lags : (k : ℕ) → k ≤ 60 → Lag k (lag (entry_at (24 * k)))
  lags zero h = rw lag_first (record { low = omega zarith; high = omega zarith })
  lags (suc k) h =
      let c = climbs_on k h in
      let before = lags k (omega arith) in
      let low = before.low in
      let high = before.high in
      let up = lag_rises c in
      let most = lag_gently c in
      record { low = omega zarith; high = omega (zarith, at (lag (entry_at (24 * k))) ⊞ at (pos run)) }

  x_exact : (k : ℕ) → shr_z (pos (k * 3) *ℤ pos (32 * n)) 32 ≡ pos (run * k)
  x_exact k =
      let same : k * 3 * (32 * n) ≡ run * k * 32 = omega arith in
      ap (λ (m : ℕ). shr_z (pos m) 32) same ∙ floor_exact (pos (run * k)) 32 (omega arith)

-- ---- the columns of a knob

-- a column after the first: right of 0 and in its limit, with y no larger than x
pub record Placed (x y : ℤ) : Type 0 where
  pub right : pos 1 ≤ℤ x
  pub small : x ≤ℤ pos wave_limit
  pub below : y ≤ℤ x
  pub above : pos 0 ≤ℤ (x +ℤ y)

module _ (b : Knob) (t : Turned b) where
  x_is : (k : ℕ) → x_at b k ≡ b.knee +ℤ pos (run t.n * k)
  x_is k = ap (λ v. b.knee +ℤ shr_z (pos (k * 3) *ℤ v) 32) t.thermal ∙ ap (λ x. b.knee +ℤ x) (x_exact t.n k)

  lag_is : (k : ℕ) → lag_at b k ≡ lag t.n (entry_at (24 * k))
  lag_is k = ap (λ v. shr_z (v *ℤ entry_at (24 * k)) omega_parts) t.thermal

  -- column k + 1
  pub placed : (k : ℕ) → k ≤ 60 → Placed (x_at b k) (y_at b k)
  placed k h =
      let lag = rw (← lag_is k) at (lags t.n k h) in
      let low = lag.low in
      let high = lag.high in
      let knee = t.knee in
      let last = rw (x_is 60) at t.last in
      let here = x_is k in
      let most : run t.n * k ≤ run t.n * 60 = mul-le-mul_left (run t.n) h in
      let x = at b.knee ⊞ at (pos (run t.n * k)) in
      let y = at (x_at b k) ⊟ at (pos 2) ⊠ at (lag_at b k) in
      record {
        right = omega (zarith, x);
        small = omega (zarith, x, at b.knee ⊞ at (pos (run t.n * 60)));
        below = omega (zarith, y);
        above = omega (zarith, x, at (x_at b k) ⊞ y);
      }

  beside_origin : Beside (knee_column b 0) (knee_column b 1)
  unfolding knee_column
  beside_origin =
      let p = placed 0 (omega arith) in
      let right = p.right in
      let below = p.below in
      let above = p.above in
      let x = x_at b 0 in
      let y = y_at b 0 in
      record { rises = omega zarith; gentle = omega (zarith, at x ⊞ at y, at x ⊟ at (pos 0), at y ⊟ at (pos 0), abs_parts (x -ℤ pos 0), abs_parts (y -ℤ pos 0)) }

  beside_next : (k : ℕ) → k < 60 → Beside (knee_column b (suc k)) (knee_column b (suc (suc k)))
  unfolding knee_column
  beside_next k h =
      let c = climbs_on t.n k h in
      let up = rw (← lag_is k, ← lag_is (suc k)) at (lag_rises t.n c) in
      let most = rw (← lag_is k, ← lag_is (suc k)) at (lag_gently t.n c) in
      let some = t.above in
      let here = x_is k in
      let there = x_is (suc k) in
      let f = lag_at b k in
      let g = lag_at b (suc k) in
      let dx = x_at b (suc k) -ℤ x_at b k in
      let dy = y_at b (suc k) -ℤ y_at b k in
      let x = at b.knee ⊞ at (pos (run t.n * k)) in
      let z = at b.knee ⊞ at (pos (run t.n * suc k)) in
      record {
        rises = omega (zarith, x, z);
        gentle = omega (
          zarith,
          x,
          z,
          at f ⊞ at (pos (run t.n)),
          at (x_at b (suc k)) ⊟ at (x_at b k),
          (at (x_at b (suc k)) ⊟ at (pos 2) ⊠ at g) ⊟ (at (x_at b k) ⊟ at (pos 2) ⊠ at f),
          abs_parts dx,
          abs_parts dy,
        );
      }

  -- each column beside the one before it
  pub neighbours : (i : ℕ) → i < 61 → Beside (knee_column b i) (knee_column b (suc i))
  neighbours zero h = beside_origin
  neighbours (suc k) h = beside_next k (omega arith)
