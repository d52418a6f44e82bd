-- A product of 24 and of 38 bits fits, and a shift rounds down.
use Rattle.std.proofs.Common.{◌≡◌, ℤ, ◌*ℤ◌, nat_abs, ap, w64, arith, rules}
use lib.Signed.{shr_z}
use mir.Val.{SFits}
use Rattle.whole.specs.Order.{Abs}
use Rattle.whole.specs.Signed.{scaled_fits, signed}
use Rattle.circuit.specs.SetUp.{parts}
use Rattle.circuit.specs.Sample.{h}
use Rattle.engine.specs.Wave.{Share, sum_limit}
use Rattle.engine.proofs.wave.part.Goals as goal

product_fits : {g t : ℤ} → Share g → Abs t sum_limit → SFits w64 (g *ℤ t)
product_fits {g} {t} share small = rw share.whole (scaled_fits 24 38 _ t share.part (omega (arith, small.bound)) (omega arith))

shifted : {g : ℤ} → Share g → (t : ℤ) → shr_z (g *ℤ t) parts ≡ h (nat_abs g) t
unfolding h
shifted share t = ap (λ g. shr_z (g *ℤ t) parts) share.whole

pub returns : goal.returns
returns c = let f = product_fits c.requires.0 c.requires.1 in let e = shifted c.requires.0 c.args.t in search (rules, signed)
