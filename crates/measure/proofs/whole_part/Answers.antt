-- The case of 24 bits of the law over the width.
use Rattle.std.proofs.Common.{◌∙◌, arith}
use lib.Ieee.{of_bits, of_int}
use Rattle.circuit.specs.SetUp.{parts, scaled_down}
use Rattle.measure.proofs.Width.{Truncates, proper_below, truncates, truncates_none}
use Rattle.measure.proofs.whole_part.Goals as goal

pub truncating_f64_to_u64-requires-clause-lower_bound : goal.truncating_f64_to_u64-requires-clause-lower_bound
unfolding of_bits of_int
truncating_f64_to_u64-requires-clause-lower_bound c = (truncates 24 (omega arith) c.args.x c.if-x.true).above

pub truncating_f64_to_u64-requires-clause-upper_bound : goal.truncating_f64_to_u64-requires-clause-upper_bound
unfolding of_bits of_int
truncating_f64_to_u64-requires-clause-upper_bound c = (truncates 24 (omega arith) c.args.x c.if-x.true).below

pub overflow_cast-result : goal.overflow_cast-result
unfolding of_bits of_int
overflow_cast-result c =
    let t : Truncates 24 c.args.x = truncates 24 (omega arith) c.args.x c.if-x.true in
    omega (arith, c.truncating_f64_to_u64.ensures, t.gives, t.fewer)

pub returns-then-x : goal.returns-then-x
unfolding of_bits of_int
returns-then-x c =
    let t : Truncates 24 c.args.x = truncates 24 (omega arith) c.args.x c.if-x.true in
    c.truncating_f64_to_u64.ensures ∙ t.gives ∙ proper_below parts (scaled_down 1 c.args.x) t.fewer

pub returns-else-x : goal.returns-else-x
unfolding of_bits of_int
returns-else-x c = truncates_none 24 c.args.x c.if-x.false
