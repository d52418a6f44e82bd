-- A search for the lowest place at fault, as a loop makes it: places in order from 0, up to the first fault or to n. `Clear` is the loop's
-- invariant; `begin`, `step`, `found` and `none` are what is asked where the loop begins, turns, returns and ends. A test made of place i says
-- whether i is at fault.
use Prim.Native.Nat.{ℕ, ◌+◌, ◌<◌, ◌≤◌}
use native.Mathlib.Nat.{le_antisymm}
use native.Mathlib.Omega.{arith}
use mathlib.Core.Path.{◌≡◌, refl, sym, ap, ◌∙◌}
use mathlib.Core.Bool.{Bool, true, false}
use Rattle.circuit.specs.Numbers.{report, done, passes, lowest}
use Rattle.laws.specs.Numbered.{numbered}
use Rattle.laws.proofs.Counting.{lowest_step, lowest_stop}

-- no place below i, of n, is at fault
pub record Clear (fault : ℕ → Bool) (n i : ℕ) : Type 0 where
  pub inside : i ≤ n
  pub passed : lowest fault i ≡ passes

pub begin : (fault : ℕ → Bool) (n : ℕ) → Clear fault n 0
unfolding lowest
begin fault n = record { inside = omega arith; passed = refl }

module _ {fault : ℕ → Bool} {n i : ℕ} (clear : Clear fault n i) where
  pub step : {test : Bool} → i < n → test ≡ fault i → test ≡ false → Clear fault n (i + 1)
  step l told e = record { inside = omega arith; passed = lowest_step fault i clear.passed (sym told ∙ e) }

  pub found : {test : Bool} (number : ℕ) → i < n → test ≡ fault i → test ≡ true → report number i ≡ numbered number (lowest fault n)
  found number l told e = ap (numbered number) (sym (lowest_stop fault n i clear.passed l (sym told ∙ e)))

  pub none : (number : ℕ) → n ≤ i → done ≡ numbered number (lowest fault n)
  none number l = ap (numbered number) (sym (ap (lowest fault) (le_antisymm l clear.inside) ∙ clear.passed))
