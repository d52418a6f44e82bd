-- A turn stores what slot s keeps.
use Rattle.std.proofs.Common.{◌≡◌, ℕ, ◌+◌, ◌<◌, List, ℤ, pos, length, set, w64, ◌∙◌, arith, rules, length-set}
use lib.Seq.{get_or-set_other}
use mir.ValLaws.{to_z-of_z}
use Rattle.circuit.specs.Sample.{stored_at}
use Rattle.engine.specs.Sample.{turned_by, Restored}
use Rattle.engine.proofs.Fill.{filled_more}
use Rattle.engine.proofs.sample.store.Goals as goal

restored_more : {turns ds ups after : List ℤ} {s : ℕ} {v : ℤ} → Restored turns ds s ups after → s < length after
    → v ≡ turned_by (stored_at turns s) (stored_at ds s) → Restored turns ds (s + 1) ups (set after s v)
restored_more {turns} {ds} {ups} {after} {s} {v} h inside e = record {
  long = length-set after s v ∙ h.long;
  kept = filled_more (λ j z. z ≡ turned_by (stored_at turns j) (stored_at ds j)) (pos 0) after s v inside h.kept e;
  rest = λ j l. get_or-set_other after s j v (pos 0) (λ q. omega arith) ∙ h.rest j (omega arith);
}

pub loop-s-preserved : goal.loop-s-preserved
loop-s-preserved c =
    let l = c.loop-s in
    let long = l.invariant.long in
    restored_more l.invariant (omega (arith, c.requires.long, c.requires.few))
    (rw (
      to_z-of_z w64 c.turned.result (record { sfits = c.turned.type_inv }),
      c.turned.ensures,
      to_z-of_z w64 (stored_at c.args.turns.now l.s) (search rules),
      to_z-of_z w64 (stored_at c.args.down.now l.s) (search rules),
    ))
