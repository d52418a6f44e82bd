-- The line that the search picks is worked out: nothing wraps, and `/` rounds toward zero as the definition does. The number of the line is the
-- segment, and fits a byte.
use Rattle.std.proofs.Common.{◌≡◌, ◌≤◌, to_z-of_z, arith}
use Rattle.whole.specs.Signed.{to_z-u32}
use Rattle.whole.specs.Fraction.{whole}
use Rattle.circuit.specs.Record.{column_limit}
use Rattle.circuit.specs.Curve.{passed, drawn, toward_zero}
use Rattle.circuit.specs.declared.Record.{Record}
use Rattle.laws.proofs.Segments.{passed_most}
use Rattle.engine.specs.Curve.{line_at, Drawing}
use Rattle.engine.proofs.Limits.{limit_reads}
use Rattle.engine.proofs.Lines.{Steps, piece_steps}
use Rattle.engine.proofs.curve.Curve.drawn.Goals as goal
use Rattle.engine.proofs.curve.Curve.drawn.Goals.{After-segment-n}

module _ (c : After-segment-n) where
  abbrev Line : Record → Type 0
  Line r = Steps (line_at c.args.self.now.lines.now c.segment-n.result) c.args.wave (toward_zero (drawn r (whole c.args.wave)))

  module _ (r : Record) (d : Drawing r c.args.self.now) where
    found : c.segment-n.result ≡ passed r (whole c.args.wave)
    found = rw (limit_reads c.requires.1) at (c.segment-n.ensures r d)

    inside : c.segment-n.result ≤ r.width
    inside = omega (arith, found, passed_most r (whole c.args.wave))

    line : Line r
    unfolding drawn
    line = rw (← found) (piece_steps d c.requires.1 c.segment-n.result inside)

  known : Line c.requires.0.0
  known = line c.requires.0.0 c.requires.0.1

  few : c.segment-n.result ≤ column_limit
  few = let k = c.requires.0 in omega (arith, inside k.0 k.1, k.1.narrow)

pub offset_bounds-self-n : goal.offset_bounds-self-n
offset_bounds-self-n c = omega (arith, few (goal.at.offset_bounds-self-n c).After-segment-n)

pub bounds-self-n : goal.bounds-self-n
bounds-self-n c = omega (arith, few (goal.at.bounds-self-n c).After-segment-n)

pub overflow_mul-answer : goal.overflow_mul-answer
overflow_mul-answer c =
    let s = known (goal.at.overflow_mul-answer c).After-segment-n in
    rw (to_z-of_z s.rise, to_z-of_z s.wave) s.product

pub overflow_add-answer : goal.overflow_add-answer
overflow_add-answer c =
    let s = known (goal.at.overflow_add-answer c).After-segment-n in
    rw (to_z-of_z s.rise, to_z-of_z s.wave, to_z-of_z s.product, to_z-of_z s.base) s.sum

pub overflow_cast-answer : goal.overflow_cast-answer
overflow_cast-answer c =
    let s = known (goal.at.overflow_cast-answer c).After-segment-n in
    rw s.span_reads (tt, s.short)

pub overflow_cast-answer-2 : goal.overflow_cast-answer-2
overflow_cast-answer-2 c =
    let s = known (goal.at.overflow_cast-answer-2 c).After-segment-n in
    rw s.span_reads (record { sfits = omega (arith, s.short.fits) })

pub overflow_add-answer-2 : goal.overflow_add-answer-2
overflow_add-answer-2 c =
    let s = known (goal.at.overflow_add-answer-2 c).After-segment-n in
    rw (s.span_reads, to_z-u32 s.span s.short) s.run

pub nonzero_div-answer : goal.nonzero_div-answer
nonzero_div-answer c =
    let s = known (goal.at.nonzero_div-answer c).After-segment-n in
    rw (s.span_reads, to_z-u32 s.span s.short) (
      omega arith,
      rw (to_z-of_z s.rise, to_z-of_z s.wave, to_z-of_z s.product, to_z-of_z s.base, to_z-of_z s.sum, to_z-of_z s.run) s.quotient,
    )

pub overflow_cast-result : goal.overflow_cast-result
overflow_cast-result c = omega (arith, few (goal.at.overflow_cast-result c).After-segment-n)

pub returns : goal.returns
returns c r d =
    let at = (goal.at.returns c).After-segment-n in
    let s = line at r d in
    record {
      wave = rw (s.span_reads, to_z-u32 s.span s.short, to_z-of_z s.rise, to_z-of_z s.wave, to_z-of_z s.product, to_z-of_z s.base)
          (rw (to_z-of_z s.sum, to_z-of_z s.run, to_z-of_z s.quotient) s.value);
      segment = found at r d;
    }
