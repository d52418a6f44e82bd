-- y is placed where x ends.
use Rattle.std.proofs.Common.{◌+◌, ap, w32, of_z, arith, rules}
use mir.ValLaws.{to_z-of_z}
use Rattle.blocks.proofs.Placed.{number_placed}
use Rattle.blocks.proofs.Fields.{column_placed}
use Rattle.blocks.proofs.column.ColumnItem.put.Goals as goal

pub returns : goal.returns
returns c =
    let a = c.args in
    column_placed a.b.now a.at (omega arith) a.self
    (ap (of_z w32) (to_z-of_z w32 a.self.x (search rules)))
    (ap (of_z w32) (to_z-of_z w32 a.self.y (search rules)))
    (number_placed _ a.at 4 _ c.put.ensures.after c.to_le_bytes.ensures)
    (number_placed _ (a.at + 4) 4 _ c.put-2.ensures.after c.to_le_bytes-2.ensures)
