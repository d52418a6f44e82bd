-- A turn halves the numbers that remain. A number between its two edges is the answer.
use Rattle.std.proofs.Common.{◌≡◌, ℕ, ◌+◌, ◌/◌, ◌≤◌, ℤ, ◌≤ℤ◌, ◌<ℤ◌, refl, w64, to_z, of_z, arith, rules}
use Rattle.whole.specs.Order.{Abs, le_z-true, le_z-false}
use Rattle.whole.specs.Fraction.{whole}
use Rattle.circuit.specs.Curve.{wave_limit, passed}
use Rattle.circuit.specs.declared.Record.{Record}
use Rattle.engine.specs.Curve.{line_at, Drawing}
use Rattle.engine.specs.declared.curve.Curve.{Curve}
use Rattle.engine.proofs.Limits.{limit_reads}
use Rattle.engine.proofs.Lines.{Behind, behind_none, behind_next, none_past, passed_count}
use Rattle.engine.proofs.curve.Curve.segment.Goals as goal
use Rattle.engine.proofs.curve.Curve.segment.Goals.{Then-self-middle, Else-self-middle}

-- a number between its two edges is the answer
found : {curve : Curve} {wave : ℤ} → Abs wave wave_limit → (n : ℕ) → n ≤ curve.width → Behind curve.lines.now (to_z w64 (of_z w64 wave)) n
    → to_z w64 (of_z w64 wave) <ℤ (line_at curve.lines.now n).edge → (r : Record) → Drawing r curve → n ≡ passed r (whole wave)
found w n most left right r d = passed_count d w n (omega (arith, d.many)) (rw (limit_reads w) at left) (rw (limit_reads w) at right)

pub loop-middle-init : goal.loop-middle-init
loop-middle-init c =
    let d = c.requires.0.1 in
    let w = c.requires.1 in
    (omega (arith, d.many, d.drawn.two), omega arith, behind_none, rw (limit_reads w) (none_past d w))

-- ---- the edge in the middle

ahead : (c : Else-self-middle) → let at = c.loop-middle in
    to_z w64 (of_z w64 c.args.wave) <ℤ (line_at c.args.self.now.lines.now ((at.low + at.high) / 2)).edge
ahead c =
    let edge = (line_at c.args.self.now.lines.now ((c.loop-middle.low + c.loop-middle.high) / 2)).edge in
    let reads : to_z w64 (of_z w64 edge) ≡ edge = search rules in
    le_z-false _ _ (rw reads at c.if-self-middle.false)

behind : (c : Then-self-middle) → let at = c.loop-middle in
    (line_at c.args.self.now.lines.now ((at.low + at.high) / 2)).edge ≤ℤ to_z w64 (of_z w64 c.args.wave)
behind c =
    let edge = (line_at c.args.self.now.lines.now ((c.loop-middle.low + c.loop-middle.high) / 2)).edge in
    let reads : to_z w64 (of_z w64 edge) ≡ edge = search rules in
    le_z-true _ _ (rw reads at c.if-self-middle.true)

pub loop-middle-preserved-then-self-middle : goal.loop-middle-preserved-then-self-middle
loop-middle-preserved-then-self-middle c =
    let inv = c.loop-middle.invariant in
    (omega arith, inv.1, behind_next _ refl (behind (goal.at.loop-middle-preserved-then-self-middle c).Then-self-middle), inv.3)

pub loop-middle-preserved : goal.loop-middle-preserved
loop-middle-preserved c =
    let inv = c.loop-middle.invariant in
    (omega arith, omega arith, inv.2, ahead (goal.at.loop-middle-preserved c).Else-self-middle)

pub returns-then-middle-high : goal.returns-then-middle-high
returns-then-middle-high c =
    let inv = c.loop-middle.invariant in
    found c.requires.1 _ inv.1 (behind_next _ c.if-middle-high.true (behind (goal.at.returns-then-middle-high c).Then-self-middle)) inv.3

pub returns-then-middle-low : goal.returns-then-middle-low
returns-then-middle-low c =
    let inv = c.loop-middle.invariant in
    found c.requires.1 _ (omega arith) inv.2 (rw c.if-middle-low.true at (ahead (goal.at.returns-then-middle-low c).Else-self-middle))
