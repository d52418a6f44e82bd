-- Four stores, one for each byte.
use Rattle.std.proofs.Common.{◌*◌, ap, ◌∙◌, w32, of_z, rules}
use Rattle.std.specs.Int.{to_le_bytes}
use mir.ValLaws.{to_z-of_z}
use Rattle.circuit.specs.Take.{output_length}
use Rattle.engine.proofs.RawBytes.{four_placed}
use Rattle.engine.proofs.packed.U8Written.put.Goals as goal

pub returns : goal.returns
returns c =
    let a = c.args in
    let n = of_z w32 a.output.0 in
    let bytes = c.to_le_bytes.ensures ∙ ap (λ z. to_le_bytes w32 (of_z w32 z)) (to_z-of_z w32 a.output.0 (search rules)) in
    rw bytes (four_placed a.out.now (output_length * a.i) n)
