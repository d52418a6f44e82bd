-- All is laid out from the slots that `slots_of` gives, which are those of the definition.
use Rattle.std.proofs.Common.{get_or, ap, ◌∙◌, arith}
use Rattle.whole.specs.Signed.{returned}
use Rattle.engine.specs.Plan.{tap_row, Seated}
use Rattle.engine.proofs.Laying.{rounding, counted, tap_inside, accepted, seated, layable}
use Rattle.engine.proofs.plan.lay_out.Goals as goal
use Rattle.engine.proofs.plan.lay_out.Goals.{After-slots_of-slots, After-tap_row-read}

pub slots_of-slots-requires : goal.slots_of-slots-requires
slots_of-slots-requires c = ((accepted c.requires).short, counted c.args.r.now c.reactive_leaves-reactive.ensures)

seat : (c : After-slots_of-slots) → Seated c.args.r.now c.slots_of-slots.result
seat c = seated c.requires c.slots_of-slots.ensures

pub overflow_sub-count : goal.overflow_sub-count
overflow_sub-count c = (accepted c.requires).some

pub slot_at-requires : goal.slot_at-requires
slot_at-requires c = let acc = accepted c.requires in omega (arith, c.tap_row-read.ensures, tap_inside c.args.r.now acc, acc.short)

pub joints_of-requires : goal.joints_of-requires
joints_of-requires c = layable c.requires (seat (goal.at.joints_of-requires c).After-slots_of-slots)

pub turns_of-requires : goal.turns_of-requires
turns_of-requires c = seat (goal.at.turns_of-requires c).After-slots_of-slots

pub of-requires : goal.of-requires
of-requires c = let acc = accepted c.requires in (acc.drawn, acc.wide)

pub returns : goal.returns
returns c =
    let r = c.args.r.now in
    let h = seat (goal.at.returns c).After-slots_of-slots in
    let slots = c.slots_of-slots.result in
    record {
      seated = h;
      rounds = rounding r.version;
      adaptors = omega (arith, h.accepted.odd);
      reactive = counted c.args.r.now c.reactive_leaves-reactive.ensures;
      tap = c.slot_at.ensures ∙ ap (λ j. get_or slots j 0) c.tap_row-read.ensures ∙ h.slot (tap_row r) (tap_inside r h.accepted);
      meter = returned _ c.meter_of.type_inv ∙ c.meter_of.ensures;
      staged = c.joints_of.ensures;
      turn = c.turns_of.ensures;
      drawn = c.of.ensures;
    }
