-- x rises where the run is above zero. The differences are those of 64 bits, and lose nothing.
use Rattle.std.proofs.Common.{◌≡◌, Bool, ◌&&◌, leb, ℤ, pos, ◌-ℤ◌, nat_abs, ap, ◌∙◌, ap₂, w32, w64, SFits, to_z, of_z, rules}
use lib.Signed.{lt_z}
use mir.ValLaws.{to_z-of_z}
use Rattle.laws.proofs.Tests.{rises_test}
use Rattle.measure.proofs.stands_beside.Goals as goal

-- the difference of two numbers that fit 32 bits, as it is handed on
apart : (p q d : ℤ) → SFits w32 p → SFits w32 q → SFits w64 d → d ≡ to_z w32 (of_z w32 p) -ℤ to_z w32 (of_z w32 q) → to_z w64 (of_z w64 d) ≡ p -ℤ q
apart p q d fp fq fd e = to_z-of_z w64 d fd ∙ e ∙ ap₂ ◌-ℤ◌ (to_z-of_z w32 p fp) (to_z-of_z w32 q fq)

pub returns : goal.returns
returns c =
    let o = c.args.o in
    let n = c.args.n in
    let run = apart n.x o.x c.apart.result (search rules) (search rules) (search rules) c.apart.ensures.value in
    let rise = apart n.y o.y c.apart-2.result (search rules) (search rules) (search rules) c.apart-2.ensures.value in
    c.is_gentle.ensures
    ∙ ap₂ (λ (p q : ℤ). lt_z (pos 0) p && leb (nat_abs q) (nat_abs p)) run rise
    ∙ ap (λ (b : Bool). b && leb (nat_abs (n.y -ℤ o.y)) (nat_abs (n.x -ℤ o.x))) (rises_test o.x n.x)
