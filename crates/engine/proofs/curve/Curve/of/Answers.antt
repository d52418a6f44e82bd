-- A turn lays line i, and at the end all are laid.
use Rattle.std.proofs.Common.{arith}
use Rattle.engine.proofs.Lines.{plotted, laid_last, laid_more}
use Rattle.engine.proofs.curve.Curve.of.Goals as goal

pub loop-i-init : goal.loop-i-init
loop-i-init c =
    let h = plotted c.requires.0 c.requires.1 in
    let two = h.two in
    (h, laid_more (laid_last h c.args.lines.now c.told-lines c.last_line.ensures) (omega arith) (omega arith) c.first_line.ensures)

pub loop-i-preserved : goal.loop-i-preserved
loop-i-preserved c =
    let inv = c.loop-i.invariant in
    let narrow = inv.0.narrow in
    (inv.0, laid_more inv.1 (omega arith) (omega arith) c.line_to.ensures)
