-- A number's digits, one by one.
use Prim.Native.Nat.{ℕ, zero, suc, ◌+◌, ◌-◌, ◌/◌, ◌%◌, ◌≤◌, ◌<◌}
use native.Mathlib.Omega.{arith}
use borrow.Author.Tests.{lt-ltb, le-ltb}
use mathlib.Core.Path.{◌≡◌}
use mathlib.Core.List.{List, [], ◌∷◌, ◌++◌}
use Rattle.circuit.specs.Text.{digits}

module _ (n : ℕ) where
  abbrev pub last : List ℕ
  last = (48 + n % 10) ∷ []

  pub digits_none : (k : ℕ) → k ≡ 0 → digits k n ≡ []
  unfolding digits
  digits_none k e = rw e

  pub digits_one : (k : ℕ) → 0 < k → n < 10 → digits k n ≡ last
  unfolding digits
  digits_one zero h l = absurd (omega arith)
  digits_one (suc k) h l = let same : n % 10 ≡ n = omega arith in rw (lt-ltb n 10 l, same)

  pub digits_more : (k : ℕ) → 0 < k → 10 ≤ n → digits k n ≡ digits (k - 1) (n / 10) ++ last
  unfolding digits
  digits_more zero h l = absurd (omega arith)
  digits_more (suc k) h l = let same : suc k - 1 ≡ k = omega arith in rw (le-ltb n 10 l, same)
