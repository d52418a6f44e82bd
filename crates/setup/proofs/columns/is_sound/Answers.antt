-- Column 0 has none before it, and is not looked at against one.
use Rattle.std.proofs.Common.{ap, ap₂, ◌∙◌}
use Rattle.circuit.specs.Record.{column_at}
use Rattle.setup.proofs.Across.{column_sound, sound_across}
use Rattle.setup.proofs.columns.is_sound.Goals as goal

pub returns : goal.returns
returns c =
    let r = c.args.r.now in
    c.sound_column.ensures
    ∙ ap₂ (column_sound r.kind c.args.i) (c.column.ensures.value ∙ ap (column_at r) c.saturating_sub.ensures) c.column-2.ensures.value
    ∙ sound_across r c.args.i
