-- A wave and a part of a sum as one fraction, rounded toward zero.
use Rattle.std.proofs.Common.{pos, ◌+ℤ◌, ◌-ℤ◌, ◌*ℤ◌, nat_abs, sym, ap, ◌∙◌, to_z-of_z}
use lib.Signed.{quot_z}
use Rattle.whole.specs.Signed.{returned}
use Rattle.circuit.specs.SetUp.{parts}
use Rattle.laws.proofs.Roundings.{u_to_zero}
use Rattle.engine.proofs.Range.{up_fits}
use Rattle.engine.proofs.wave.TowardZeroRounds.parallel_up.Goals as goal

pub returns : goal.returns
returns c =
    let a = c.args in
    let m = up_fits c.requires in
    returned _ c.mixed.type_inv
    ∙ rw (to_z-of_z c.ranges.g, to_z-of_z m.0, to_z-of_z m.1, to_z-of_z m.4) at c.mixed.ensures
    ∙ ap (λ g. quot_z (pos parts *ℤ a.a2 +ℤ g *ℤ (a.a1 -ℤ a.a2)) (pos parts)) c.requires.ratio.whole
    ∙ sym (u_to_zero (nat_abs a.g) a.a1 a.a2)
