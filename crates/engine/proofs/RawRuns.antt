-- Laws of a raw run: it is turned away where one of 3 to 12 applies, and else its samples are played.
use Prim.Native.Nat.{◌<◌}
use native.Mathlib.Omega.{arith}
use mathlib.Core.Path.{◌≡◌}
use borrow.Author.Tests.{eq-eqb, ne_eqb}
use Rattle.circuit.specs.Numbers.{judge}
use Rattle.circuit.specs.Run.{play, charged_rules}
use Rattle.engine.specs.Raw.{RawCall, raw_charged, raw_input, raw_worked, raw_turned_away, ran_raw}

module _ (c : RawCall) where
  pub ran_raw_refused : 0 < (judge charged_rules (raw_charged c)).number → ran_raw c ≡ raw_turned_away c (judge charged_rules (raw_charged c))
  unfolding ran_raw
  ran_raw_refused l = rw (ne_eqb (judge charged_rules (raw_charged c)).number 0 (λ e. omega arith))

  pub ran_raw_worked : (judge charged_rules (raw_charged c)).number ≡ 0 → ran_raw c ≡ raw_worked c (play c.circuit c.waves (raw_input c))
  unfolding ran_raw
  ran_raw_worked e = rw (eq-eqb (judge charged_rules (raw_charged c)).number 0 e)
