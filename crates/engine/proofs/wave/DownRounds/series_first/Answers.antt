-- A wave less a part of a sum, rounded down.
use Rattle.std.proofs.Common.{◌≡◌, ℤ, ◌-ℤ◌, nat_abs, w64, to_z-of_z}
use mir.Val.{SFits}
use Rattle.whole.specs.Integers.{at, ◌⊟◌}
use Rattle.whole.specs.Order.{Abs}
use Rattle.whole.specs.Signed.{zfits, returned}
use Rattle.circuit.specs.Sample.{h}
use Rattle.laws.specs.Accepted.{adaptor_limit}
use Rattle.engine.specs.Wave.{up_limit, sum_limit, Share}
use Rattle.engine.proofs.Range.{part_range}
use Rattle.engine.proofs.wave.DownRounds.series_first.Goals as goal

part_is : (c : goal.After-part) → c.part.result ≡ h (nat_abs c.args.g) c.args.t
part_is c = rw (to_z-of_z c.ranges.g, to_z-of_z c.ranges.t) at c.part.ensures

less_fits : {g a t : ℤ} → Share g → Abs a (up_limit adaptor_limit) → Abs t sum_limit → SFits w64 (a -ℤ h (nat_abs g) t)
less_fits {g} {a} {t} share wave sum = let p = h (nat_abs g) t in omega (zfits, wave, part_range share sum, at a ⊟ at p)

pub overflow_sub-result : goal.overflow_sub-result
overflow_sub-result c =
    let p = c.requires in
    rw (to_z-of_z c.ranges.a1, returned c.part.result c.part.type_inv, part_is c) (less_fits p.0 p.1 p.2)

pub returns : goal.returns
returns c a2 a3 e =
    let p = c.requires in
    rw (to_z-of_z c.ranges.a1, returned c.part.result c.part.type_inv, part_is c, to_z-of_z (less_fits p.0 p.1 p.2), e)
