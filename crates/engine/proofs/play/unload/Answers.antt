-- A turn takes out the stored wave of row i.
use Rattle.std.proofs.Common.{◌≡◌, ◌<◌, ℤ, pos, length, get_or, w32, w64, FitsSigned, refl, sym, ap, ap₂, ◌∙◌, arith, rules, length-set}
use lib.Seq.{get_or-set_other}
use mir.ValLaws.{to_z-of_z}
use Rattle.whole.specs.Order.{Abs, abs_as}
use Rattle.whole.specs.Signed.{zfits, returned}
use Rattle.circuit.specs.Curve.{wave_limit}
use Rattle.circuit.specs.Record.{row_limit, row_at}
use Rattle.circuit.specs.Sample.{stored_at}
use Rattle.circuit.specs.declared.Row.{Row}
use Rattle.parts.specs.Parts.{facing_of, part_taken}
use Rattle.engine.specs.Sample.{turned_by}
use Rattle.engine.proofs.Facing.{turn_as, facing_turn, turned_size}
use Rattle.engine.proofs.Fill.{filled_more}
use Rattle.engine.proofs.Limits.{limit_reads}
use Rattle.engine.proofs.Loading.{zeros_at, out_of, taken, all_taken}
use Rattle.engine.proofs.Placing.{seated_own}
use Rattle.engine.proofs.play.unload.Goals as goal
use Rattle.engine.proofs.play.unload.Goals.{After-part_taken-taken, After-turned}

pub loop-i-init : goal.loop-i-init
loop-i-init c = record { long = refl; taken = λ j l. absurd (omega arith); rest = λ j l. zeros_at row_limit j }

pub bounds-up-slot_at : goal.bounds-up-slot_at
bounds-up-slot_at c = omega (arith, (seated_own c.requires.0).low c.loop-i.i (omega arith), c.slot_at.ensures)

-- the wave taken out
module _ (c : After-part_taken-taken) where
  abbrev row : Row
  row = row_at c.args.r.now c.loop-i.i

  out : c.part_taken-taken.result.0 ≡ part_taken row.part (stored_at c.args.up.now (get_or c.args.slots.now c.loop-i.i 0))
  out =
      let ups = c.args.up.now in
      let read : FitsSigned w64 (stored_at ups c.slot_at.result) = search rules in
      rw (to_z-of_z w64 _ read) at c.part_taken-taken.ensures
      ∙ ap₂ (λ (w : Row) s. part_taken w.part (stored_at ups s)) c.row-row.ensures.value c.slot_at.ensures

  abbrev wave : ℤ
  wave = stored_at c.requires.1.0 c.loop-i.i

  told : (out_of c.args.r.now c.args.slots.now c.args.up.now c.loop-i.i ≡ wave) × Abs wave wave_limit
  told = taken c.requires.0 c.requires.1.1 c.loop-i.i (omega arith)

  limited : Abs c.part_taken-taken.result.0 wave_limit
  limited =
      let facing = facing_of row.reversed in
      turned_size facing (abs_as told.1 (sym (ap (turned_by facing) out ∙ told.0)) (omega arith))

-- the stored wave
module _ (c : After-turned) where
  abbrev at_taken : After-part_taken-taken
  at_taken = (goal.at.overflow_cast-state c).After-part_taken-taken

  stored : c.turned.result ≡ out_of c.args.r.now c.args.slots.now c.args.up.now c.loop-i.i
  stored =
      let reversed = ap (λ (w : Row). facing_of w.reversed) c.row-row.ensures.value in
      c.turned.ensures ∙ ap₂ turned_by (returned _ c.facing.type_inv ∙ c.facing.ensures ∙ reversed) (limit_reads (limited at_taken) ∙ out at_taken)

  short : FitsSigned w32 c.turned.result
  short =
      let t = told at_taken in
      let limit : Abs c.turned.result wave_limit = abs_as t.1 (sym (stored ∙ t.0)) (omega arith) in
      omega zfits

pub turned-requires : goal.turned-requires
turned-requires c =
    let at = (goal.at.turned-requires c).After-part_taken-taken in (
      turn_as (returned _ c.facing.type_inv ∙ c.facing.ensures) (facing_turn c.row-row.result.reversed),
      abs_as (limited at) (sym (limit_reads (limited at))) (omega arith),
    )

pub overflow_cast-state : goal.overflow_cast-state
overflow_cast-state c = rw (returned _ c.turned.type_inv) (short c)

pub loop-i-preserved : goal.loop-i-preserved
loop-i-preserved c =
    let ws = c.loop-i.state.waves in
    let i = c.loop-i.i in
    let v = c.turned.result in
    let inv = c.loop-i.invariant in
    let inside : i < length ws = omega (arith, inv.long) in
    rw (returned _ c.turned.type_inv, to_z-of_z w32 _ (short c)) (record {
      long = length-set ws i v ∙ inv.long;
      taken = filled_more (λ j z. z ≡ out_of c.args.r.now c.args.slots.now c.args.up.now j) (pos 0) ws i v inside inv.taken (stored c);
      rest = λ j l. get_or-set_other ws i j v (pos 0) (λ e. omega arith) ∙ inv.rest j (omega arith);
    })

pub returns : goal.returns
returns c ws l =
    let done : c.loop-i.i ≡ c.args.r.now.count = omega arith in
    let inv = rw done at c.loop-i.invariant in
    all_taken c.requires.0 l inv.long inv.taken inv.rest
