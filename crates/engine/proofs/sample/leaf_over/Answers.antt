-- Where the quick test says no, no wave is over its limit; else each is tested.
use Rattle.std.proofs.Common.{◌≡◌, ℕ, ◌<◌, ◌||◌, false, List, ℤ, w64, sym, ap, ap₂, ◌∙◌, arith, rules}
use mathlib.Core.Bool.{not}
use mir.ValLaws.{to_z-of_z}
use Rattle.whole.specs.Order.{Abs}
use Rattle.circuit.specs.Curve.{wave_limit}
use Rattle.circuit.specs.Sample.{stored_at}
use Rattle.laws.proofs.Counting.{false_some}
use Rattle.laws.proofs.Ranges.{some_in}
use Rattle.engine.specs.Plan.{floor}
use Rattle.engine.specs.Sample.{over_at, leaf_over}
use Rattle.engine.proofs.Limits.{abs_within}
use Rattle.engine.proofs.sample.leaf_over.Goals as goal

none_over : (n : ℕ) (ds : List ℤ) → ((s : ℕ) → s < n → Abs (stored_at ds s) wave_limit) → Abs (stored_at ds floor) wave_limit → leaf_over n ds ≡ false
none_over n ds h k =
    rw (false_some (over_at ds) n (λ s l. ap not (abs_within wave_limit (stored_at ds s) (h s l)))) (ap not (abs_within wave_limit (stored_at ds floor) k))

pub returns-then-not-may_be_over : goal.returns-then-not-may_be_over
returns-then-not-may_be_over c =
    let calm = (c.may_be_over.ensures c.if-not-may_be_over.true).1 in
    let few = c.requires.0 in
    sym (none_over c.args.n c.args.down.now (λ s l. calm s (omega arith)) (calm floor (omega arith)))

pub returns-then-not-may_be_over-2 : goal.returns-then-not-may_be_over-2
returns-then-not-may_be_over-2 c =
    let ds = c.args.down.now in
    let calm = c.may_be_over-else-n-gt-FEW.ensures c.if-not-may_be_over-2.true in
    let few = c.if-n-gt-FEW.false in
    let input = (c.gathered.ensures (rw (to_z-of_z w64 c.gathered.result (record { sfits = c.gathered.type_inv })) at calm.0)).1 in
    sym (none_over c.args.n ds (λ s l. calm.1 s (omega arith)) (rw (to_z-of_z w64 (stored_at ds floor) (search rules)) at input))

pub returns : goal.returns
returns c =
    let ds = c.args.down.now in
    let input = rw (to_z-of_z w64 (stored_at ds floor) (search rules)) at c.in_limit.ensures in
    ap₂ ◌||◌ (c.any_over.ensures ∙ some_in (over_at ds) c.args.n) (ap not input)
