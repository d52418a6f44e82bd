-- What `|` gathers is no less than each of its parts.
use Rattle.std.proofs.Common.{◌*◌, ◌<◌, ℤ, pos, negsuc, ◌+ℤ◌, w64, bit_or, FitsSigned, of_z, to_z, refl, sym, ap, ◌∙◌, arith}
use lib.Bits.{or_add_and, and_le_l, and_le_r}
use Rattle.std.proofs.Math.Facts.{to_z-of_z, of_z-to_z, Fits-of_z}
use mir.ValLaws.{Fits-or}
use Rattle.whole.specs.Integers.{at, ◌⊞◌}
use Rattle.whole.specs.Order.{Abs, zarith}
use Rattle.whole.specs.Signed.{zfits}
use Rattle.circuit.specs.Curve.{wave_limit}
use Rattle.laws.specs.Accepted.{adaptor_limit}
use Rattle.engine.specs.Wave.{down_limit}
use Rattle.engine.specs.Sample.{Calm}
use Rattle.engine.proofs.sample.gathered.Goals as goal

-- by its bits
calm : (z : ℤ) → FitsSigned w64 z → of_z w64 z < 2 * wave_limit → Calm z
calm (pos n) f h = record { few = (n, refl, h) }
calm (negsuc n) f h = absurd (omega (arith, f.sfits))

calm_parts : (a b : ℤ) → FitsSigned w64 a → FitsSigned w64 b → Calm (to_z w64 (bit_or (of_z w64 a) (of_z w64 b))) → Calm a × Calm b
calm_parts a b f g h =
    let bits = sym (of_z-to_z (Fits-or (of_z w64 a) (of_z w64 b) (Fits-of_z f) (Fits-of_z g))) ∙ ap (of_z w64) h.few.1 in
    let both = or_add_and (of_z w64 a) (of_z w64 b) in
    let low = h.few.2 in
    (calm a f (omega (arith, bits, and_le_r (of_z w64 a) (of_z w64 b))), calm b g (omega (arith, bits, and_le_l (of_z w64 a) (of_z w64 b))))

sum_fits : (z : ℤ) → Abs z (down_limit adaptor_limit) → FitsSigned w64 (z +ℤ pos wave_limit)
sum_fits z m = omega (zfits, at z ⊞ at (pos wave_limit))

in_limit : (z : ℤ) → Calm (z +ℤ pos wave_limit) → Abs z wave_limit
in_limit z h = omega (zarith, at z ⊞ at (pos wave_limit), h.few.1, h.few.2)

pub returns : goal.returns
returns c = rw (to_z-of_z c.ranges.wave) (λ h.
    let z = c.args.wave in
    let parts = calm_parts c.args.all (z +ℤ pos wave_limit) c.ranges.all (sum_fits z c.requires) h in
    (parts.0, in_limit z parts.1))
