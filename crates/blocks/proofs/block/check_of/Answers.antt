-- A turn adds word i, and at the end all are summed.
use Rattle.std.proofs.Common.{◌≡◌, refl, zero-le, arith}
use Rattle.circuit.specs.Counting.{total}
use Rattle.circuit.specs.File.{check_of}
use Rattle.laws.proofs.Counting.{total_step}
use Rattle.blocks.proofs.block.check_of.Goals as goal

pub loop-i-init : goal.loop-i-init
unfolding total
loop-i-init c = (zero-le, refl, zero-le)

pub loop-i-preserved : goal.loop-i-preserved
loop-i-preserved c = (omega arith, rw (total_step, c.loop-i.invariant.1, c.from-sum.ensures, c.word.ensures) refl, omega arith)

pub returns : goal.returns
unfolding check_of
returns c =
    let e : c.loop-i.i ≡ 127 = omega arith in
    rw (c.loop-i.invariant.1, e)
