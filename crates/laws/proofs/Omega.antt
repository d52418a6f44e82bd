-- Omega's table begins at 0 and rises, by at most 2^16 from an entry to the next: one test over the whole table, which antt computes, and what
-- it says of any two entries.
use Prim.Native.Nat.{ℕ, zero, suc, ◌+◌, ◌*◌, ◌<◌}
use native.Mathlib.Omega.{arith}
use mathlib.Core.Path.{◌≡◌, refl}
use mathlib.Core.Bool.{Bool, true, ◌&&◌, and-eq-true_iff}
use lib.IntN.{ℤ, pos, ◌+ℤ◌}
use lib.Signed.{◌≤ℤ◌, le_z, ≤ℤ_refl}
use Rattle.whole.specs.Integers.{at, ◌⊞◌}
use Rattle.whole.specs.Order.{zarith, le_z-true}
use Rattle.circuit.specs.Counting.{every}
use Rattle.circuit.specs.Omega.{cubic, entry, entry_count, entry_at}
use Rattle.laws.proofs.Counting.{every_true}

pub first_entry : entry_at 0 ≡ pos 0
unfolding cubic entry
first_entry = refl

-- ---- from an entry to the next

abbrev steps : ℤ → ℤ → Bool
steps w v = le_z w v && le_z v (w +ℤ pos 65536)

table_steps : every (λ n. steps (entry_at n) (entry_at (suc n))) 1448 ≡ true
unfolding every cubic entry
table_steps = refl

-- ---- from an entry to the one that comes m later

pub record Climbs (m : ℕ) (w v : ℤ) : Type 0 where
  pub rises : w ≤ℤ v
  pub gently : v ≤ℤ (w +ℤ pos (65536 * m))

one_more : {m : ℕ} {w v u : ℤ} → Climbs m w v → steps v u ≡ true → Climbs (suc m) w u
one_more {m} {w} {v} {u} c e =
    let both = (and-eq-true_iff _ _).0 e in
    let up = le_z-true v u both.0 in
    let most = le_z-true u (v +ℤ pos 65536) both.1 in
    let rises = c.rises in
    let gently = c.gently in
    record {
      rises = omega zarith;
      gently = omega (zarith, at v ⊞ at (pos 65536), at w ⊞ at (pos (65536 * m)), at w ⊞ at (pos (65536 * suc m)));
    }

pub climbs : (m n : ℕ) → n + m < entry_count → Climbs m (entry_at n) (entry_at (n + m))
climbs zero n h =
    let same : n + 0 ≡ n = omega arith in
    rw same (record { rises = ≤ℤ_refl (entry_at n); gently = omega (zarith, at (entry_at n) ⊞ at (pos (65536 * 0))) })
climbs (suc m) n h =
    let next : n + suc m ≡ suc (n + m) = omega arith in
    rw next (one_more (climbs m n (omega arith)) (every_true (λ k. steps (entry_at k) (entry_at (suc k))) 1448 table_steps (n + m) (omega arith)))
