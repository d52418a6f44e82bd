-- No product is above 2^53, so nothing wraps.
use Rattle.std.proofs.Common.{◌≡◌, refl, to_z-of_z, rules}
use Rattle.whole.specs.Signed.{wide, wide_same}
use Rattle.engine.proofs.Lines.{rise_reads, run_reads, height, climb, base_fits, span_fits}
use Rattle.engine.proofs.curve.through.Goals as goal

pub overflow_sub-result : goal.overflow_sub-result
overflow_sub-result c =
    let h = c.requires in
    let x : wide c.args.c.x ≡ c.args.c.x = search (rules, wide_same) in
    let y : wide c.args.c.y ≡ c.args.c.y = search (rules, wide_same) in
    rw (x, y, rise_reads h, run_reads h) (rw (to_z-of_z (height h), to_z-of_z (climb h h.across)) (base_fits h))

pub returns : goal.returns
returns c =
    let h = c.requires in
    let x : wide c.args.c.x ≡ c.args.c.x = search (rules, wide_same) in
    let y : wide c.args.c.y ≡ c.args.c.y = search (rules, wide_same) in
    rw (x, y, rise_reads h, run_reads h, to_z-of_z c.ranges.edge)
    (rw (to_z-of_z (height h), to_z-of_z (climb h h.across), to_z-of_z (base_fits h), to_z-of_z (span_fits h)) refl)
