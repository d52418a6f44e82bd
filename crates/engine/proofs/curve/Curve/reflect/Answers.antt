-- The drawn line is mirrored below the mirror: no answer is larger than its wave, so it can be negated. The segment is that of the wave that is looked
-- up.
use Rattle.std.proofs.Common.{◌≡◌, ℤ, pos, ◌≤ℤ◌, ◌<ℤ◌, neg_ℤ, nat_abs, refl, sym, ap, ◌∙◌, w64, to_z, of_z, arith, rules}
use Rattle.whole.specs.Integers.{at, is_neg}
use Rattle.whole.specs.Order.{zarith, Abs, nat_abs-neg, lt_z-true, lt_z-false}
use Rattle.whole.specs.Fraction.{whole}
use Rattle.circuit.specs.Curve.{wave_limit, passed, drawn, line_of, line, toward_zero, reflected, segment}
use Rattle.circuit.specs.declared.CurveKind.{CurveKind}
use Rattle.circuit.specs.declared.CurveKind.TheVariants.{Unset, Single, Pair}
use Rattle.circuit.specs.declared.Record.{Record}
use Rattle.laws.specs.Accepted.{Crosses}
use Rattle.laws.proofs.Line.{pair_left, pair_right}
use Rattle.laws.proofs.Drawn.{answer_never_exceeds}
use Rattle.laws.proofs.Segments.{segment_of, segment_left, segment_right}
use Rattle.parts.specs.Parts.{mirror_of}
use Rattle.engine.specs.Curve.{Drawing, Draws}
use Rattle.engine.proofs.Limits.{opposite_fits, opposite_reads, limit_reads}
use Rattle.engine.proofs.curve.Curve.reflect.Goals as goal
use Rattle.engine.proofs.curve.Curve.reflect.Goals.{After-drawn-opposite}

-- on either side of the mirror: the wave sent back, and the segment
module _ (r : Record) {m a : ℤ} (small : Abs a wave_limit) where
  mirrored : (k : CurveKind) → r.kind ≡ k → Crosses k r → m ≡ mirror_of k → a <ℤ m
      → (reflected r a ≡ neg_ℤ (toward_zero (drawn r (whole (neg_ℤ a))))) × (segment r a ≡ passed r (whole (neg_ℤ a)))
  unfolding Crosses mirror_of
  mirrored Unset e c h l = absurd c
  mirrored Single e c h l = absurd (let none : ⊥ = omega (zarith, is_neg (at (pos wave_limit))) in none)
  mirrored Pair e c h l = (pair_left r e a (rw h at l), segment_left r e a (rw h at l))

  straight : (k : CurveKind) → r.kind ≡ k → Crosses k r → m ≡ mirror_of k → m ≤ℤ a
      → (reflected r a ≡ toward_zero (drawn r (whole a))) × (segment r a ≡ passed r (whole a))
  unfolding Crosses mirror_of reflected line
  straight Unset e c h l = absurd c
  straight Single e c h l = (ap (λ (k : CurveKind). toward_zero (line_of k (drawn r) (whole a))) e, segment_of r e a)
  straight Pair e c h l = (pair_right r e a (rw h at l), segment_right r e a (rw h at l))

-- the answer to the opposite
module _ (c : After-drawn-opposite) where
  abbrev a : ℤ
  a = c.args.wave.0

  module _ (r : Record) (d : Drawing r c.args.self.now) where
    drawn_there : Draws r (neg_ℤ a) c.drawn-opposite.result
    drawn_there = rw (opposite_reads c.requires.1) at (c.drawn-opposite.ensures r d)

    left : (reflected r a ≡ neg_ℤ (toward_zero (drawn r (whole (neg_ℤ a))))) × (segment r a ≡ passed r (whole (neg_ℤ a)))
    left =
        let mirror = c.args.self.now.mirror in
        let reads : to_z w64 (of_z w64 mirror) ≡ mirror = search rules in
        let less = lt_z-true _ _ (rw (limit_reads c.requires.1, reads) at c.if-a-self.true) in
        mirrored r c.requires.1 r.kind refl d.drawn.crosses d.mirror less

    opposite : reflected r a ≡ neg_ℤ c.drawn-opposite.result.wave.0
    opposite = left.0 ∙ ap neg_ℤ (sym drawn_there.wave)

  small : Abs c.drawn-opposite.result.wave.0 wave_limit
  small =
      let known = c.requires.0 in
      let same = ap nat_abs (opposite known.0 known.1) ∙ nat_abs-neg c.drawn-opposite.result.wave.0 in
      record { bound = omega (arith, same, answer_never_exceeds known.1.drawn a, c.requires.1.bound) }

pub overflow_sub-result : goal.overflow_sub-result
overflow_sub-result c = opposite_fits (small (goal.at.overflow_sub-result c).After-drawn-opposite)

pub returns-then-a-self : goal.returns-then-a-self
returns-then-a-self c = λ r d.
    let at = (goal.at.returns-then-a-self c).After-drawn-opposite in
    record { wave = opposite_reads (small at) ∙ sym (opposite at r d); segment = (drawn_there at r d).segment ∙ sym (left at r d).1 }

pub returns-else-a-self : goal.returns-else-a-self
returns-else-a-self c = λ r d.
    let a = c.args.wave.0 in
    let mirror = c.args.self.now.mirror in
    let reads : to_z w64 (of_z w64 mirror) ≡ mirror = search rules in
    let more = lt_z-false _ _ (rw (limit_reads c.requires.1, reads) at c.if-a-self.false) in
    let there : Draws r a c.drawn.result = rw (limit_reads c.requires.1) at (c.drawn.ensures r d) in
    let told = straight r c.requires.1 r.kind refl d.drawn.crosses d.mirror more in
    record { wave = there.wave ∙ sym told.0; segment = there.segment ∙ sym told.1 }
