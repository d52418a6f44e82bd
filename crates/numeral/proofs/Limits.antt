-- A number that was read is not above the most that it may count as.
use Rattle.std.proofs.Common.{ℕ, ◌≤◌, min, ◌≡◌, Bool, true, false, cond, List, Some, None, arith}
use Rattle.numeral.specs.Numeral.{value, is_numeral, numeral}

held : (is : Bool) (v most : ℕ) {n : ℕ} → cond is (Some (min v most)) None ≡ Some n → n ≤ most
held true v most {n} e = let same : min v most ≡ n = cc in omega arith
held false v most e = let absurd : ◌≡◌ {A = ℕ} 0 1 = cc in omega arith

pub at_most : (s : List ℕ) (most : ℕ) {n : ℕ} → numeral s most ≡ Some n → n ≤ most
unfolding numeral
at_most s most = held (is_numeral s) (value s) most
