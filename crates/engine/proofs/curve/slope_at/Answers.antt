-- The differences of two columns are exact.
use Rattle.std.proofs.Common.{◌≡◌, suc, ◌+◌, ℤ, ◌-ℤ◌, ap₂, ◌∙◌, w64, to_z, of_z, arith, rules}
use Rattle.whole.specs.Signed.{wide, apart_same}
use Rattle.engine.specs.Curve.{slope_to}
use Rattle.engine.proofs.curve.slope_at.Goals as goal

pub returns : goal.returns
returns c =
    let o = c.column-o.result in
    let n = c.column-n.result in
    let after : c.args.i + 1 ≡ suc c.args.i = omega arith in
    let rise : to_z w64 (of_z w64 (wide n.y -ℤ wide o.y)) ≡ n.y -ℤ o.y = search (rules, apart_same) in
    let run : to_z w64 (of_z w64 (wide n.x -ℤ wide o.x)) ≡ n.x -ℤ o.x = search (rules, apart_same) in
    ap₂ (λ (y x : ℤ). record { rise = y; run = x }) rise run ∙ ap₂ slope_to c.column-o.ensures.value (rw after at c.column-n.ensures.value)
