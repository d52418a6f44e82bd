-- A leaf over its limit leaves the waves as they are; else the tap's two waves and the reactive leaves' are in theirs.
use Rattle.std.proofs.Common.{refl, sym, ap₂, ◌∙◌, ◌+ℤ◌, w64, rules}
use mir.ValLaws.{to_z-of_z}
use Rattle.engine.specs.Sample.{turned_by, Settled}
use Rattle.engine.proofs.sample.settle.Goals as goal

pub returns-then-leaf_over : goal.returns-then-leaf_over
unfolding Settled
returns-then-leaf_over c = (sym c.leaf_over.ensures ∙ c.if-leaf_over.true, refl)

pub returns : goal.returns
unfolding Settled
returns c =
    let meter = c.args.plan.now.meter in (
      sym c.leaf_over.ensures ∙ c.if-leaf_over.false,
      rw (to_z-of_z w64 meter (search rules)) at c.tapped-output.ensures
          ∙ ap₂ (λ y z. turned_by meter (y +ℤ z)) c.wave_at.ensures c.wave_at-2.ensures,
      refl,
      c.store.ensures,
    )
