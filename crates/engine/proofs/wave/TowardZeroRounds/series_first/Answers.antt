-- A wave less a part of a sum as one fraction, rounded toward zero.
use Rattle.std.proofs.Common.{◌≡◌, ℤ, pos, ◌+ℤ◌, ◌-ℤ◌, ◌*ℤ◌, neg_ℤ, nat_abs, sym, ap, ◌∙◌, w64, to_z-of_z}
use lib.IntN.{+ℤ_idl}
use lib.Signed.{quot_z}
use mir.Val.{SFits}
use Rattle.whole.specs.Integers.{at, ◌⊟◌}
use Rattle.whole.specs.Order.{Abs}
use Rattle.whole.specs.Signed.{zfits, returned}
use Rattle.circuit.specs.SetUp.{parts}
use Rattle.laws.proofs.Roundings.{mixed, b1_to_zero}
use Rattle.engine.specs.Wave.{sum_limit}
use Rattle.engine.proofs.wave.TowardZeroRounds.series_first.Goals as goal

-- the sum's opposite
opposite : {t : ℤ} → Abs t sum_limit → SFits w64 (pos 0 -ℤ t)
opposite {t} small = omega (zfits, small, at (pos 0) ⊟ at t)

mixed_is : (c : goal.After-mixed) → c.mixed.result ≡ mixed (nat_abs c.args.g) c.args.a1 (pos 0 -ℤ c.args.t)
mixed_is c =
    let a = c.args in
    rw (to_z-of_z c.ranges.g, to_z-of_z c.ranges.a1, to_z-of_z c.ranges.t, to_z-of_z (opposite c.requires.2)) at c.mixed.ensures
    ∙ ap (λ g. quot_z (pos parts *ℤ a.a1 +ℤ g *ℤ (pos 0 -ℤ a.t)) (pos parts)) c.requires.0.whole

pub returns : goal.returns
returns c a2 a3 e =
    let a = c.args in
    returned _ c.mixed.type_inv ∙ mixed_is c ∙ ap (mixed (nat_abs a.g) a.a1) (+ℤ_idl _ ∙ ap neg_ℤ e) ∙ sym (b1_to_zero (nat_abs a.g) a.a1 a2 a3)
