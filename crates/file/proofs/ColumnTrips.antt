-- A column's eight bytes and the column, there and back: any eight bytes are a column's.
use mathlib.Core.Path.{◌≡◌, refl, sym, ap, ◌∙◌}
use Prim.Native.Nat.{ℕ, ◌+◌, ◌≤◌}
use native.Mathlib.Omega.{arith}
use mathlib.Core.List.{List}
use lib.ListN.{length, take, drop}
use lib.Seq.{take-take}
use mir.Syntax.{w32}
use mir.Val.{to_z}
use Rattle.circuit.specs.File.{column_length, bytes, number_of, number_at, signed_at, signed_bytes, column_fields, column_from}
use Rattle.circuit.specs.declared.Column.{Column}
use Rattle.blocks.specs.Placing.{Bytes}
use Rattle.file.specs.Held.{HeldColumn}
use Rattle.blocks.proofs.Digits.{part_below, part_back}
use Rattle.blocks.proofs.Pieces.{part_more, part_inner}
use Rattle.file.proofs.RowTrips.{signed_read, signed_written}

pub column_back : (s : List ℕ) → Bytes s → (at : ℕ) → at + column_length ≤ length s → column_fields (column_from at s) ≡ take column_length (drop at s)
column_back s bs at h = part_more s at 4 4 (at + 4) _ _ refl (back at (omega arith)) (back (at + 4) (omega arith))
  where
    back : (p : ℕ) → p + 4 ≤ length s → signed_bytes (signed_at p s) ≡ take 4 (drop p s)
    back p l = signed_written (number_at 4 p s) (part_below s bs p 4 l) ∙ part_back s bs p 4 l

pub column_read : (s : List ℕ) (at : ℕ) (c : Column) → HeldColumn c → take column_length (drop at s) ≡ column_fields c → column_from at s ≡ c
unfolding bytes
column_read s at c h e =
    let x : signed_at at s ≡ c.x =
    ap (λ (l : List ℕ). to_z w32 (number_of l)) (sym (take-take 4 column_length (drop at s) (omega arith)) ∙ ap (take 4) e) ∙ signed_read c.x h.x in
    let y : signed_at (at + 4) s ≡ c.y =
    ap (λ (l : List ℕ). to_z w32 (number_of l)) (sym (part_inner s at column_length 4 4 (omega arith)) ∙ ap (λ (l : List ℕ). take 4 (drop 4 l)) e) ∙ signed_read c.y h.y in
    rw (x, y)
