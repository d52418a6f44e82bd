-- A turn puts up what row i sends.
use Rattle.std.proofs.Common.{◌≡◌, pos, w32, FitsSigned, refl, ap, ap₂, ◌∙◌, arith, rules}
use mir.ValLaws.{to_z-of_z}
use Rattle.whole.specs.Signed.{returned, wide_same}
use Rattle.circuit.specs.Record.{row_at}
use Rattle.circuit.specs.Sample.{whole_waves, rounding_of, part_sends, stored_at}
use Rattle.circuit.specs.declared.Row.{Row}
use Rattle.parts.specs.Parts.{facing_of}
use Rattle.engine.specs.Sample.{turned_by}
use Rattle.engine.proofs.Loading.{up_turned, loaded}
use Rattle.engine.proofs.Placing.{seated_own, placed_start, placed_more}
use Rattle.engine.proofs.play.load.Goals as goal

pub loop-i-init : goal.loop-i-init
loop-i-init c = λ ρ. placed_start refl

pub bounds-up-slot_at : goal.bounds-up-slot_at
bounds-up-slot_at c = omega (arith, (seated_own c.requires).low c.loop-i.i (omega arith), c.slot_at.ensures)

pub loop-i-preserved : goal.loop-i-preserved
loop-i-preserved c = λ ρ.
    let i = c.loop-i.i in
    let waves = c.args.state.now.waves in
    let sent = c.part_sends-sent in
    let row = c.row-row.ensures.value in
    let stored : FitsSigned w32 (stored_at waves i) = search rules in
    let own : FitsSigned w32 sent.result = record { sfits = sent.type_inv } in
    let turned = c.turned.ensures ∙ ap₂ turned_by (returned c.facing.result c.facing.type_inv) (wide_same own) in
    let faced = c.facing.ensures ∙ ap (λ (w : Row). facing_of w.reversed) row in
    let sends = rw (to_z-of_z w32 _ stored) at (sent.ensures ρ) ∙ ap (λ (w : Row). part_sends (whole_waves ρ) (pos 0) (stored_at waves i) w.part) row in
    placed_more (seated_own c.requires) (omega arith) c.slot_at.ensures
    (returned _ c.turned.type_inv ∙ turned ∙ up_turned ρ waves i (row_at c.args.r.now i) faced sends) (c.loop-i.invariant ρ)

-- a state that code holds has a wave for each row
pub returns : goal.returns
returns c waves =
    let r = c.args.r.now in
    let done : c.loop-i.i ≡ r.count = omega arith in
    loaded c.requires (search rules) waves (rw done at (c.loop-i.invariant (rounding_of r.version)))
