-- A part's fields are those that the definition lists.
use Rattle.std.proofs.Common.{ap, ◌∙◌, pos, w32, to_z, of_z, rules}
use Rattle.std.specs.Float.{binary64}
use Rattle.std.specs.Float.Ieee.{of_bits}
use mir.ValLaws.{to_z-of_z}
use Rattle.circuit.specs.File.{float_bytes, row_fields, part_fields}
use Rattle.circuit.specs.declared.Element.TheVariants.{Resistor, Capacitor, Inductor, Input, Steady}
use Rattle.circuit.specs.declared.Part.TheVariants.{Blank, Leaf, Adaptor}
use Rattle.blocks.specs.declared.row.Fields.{Fields}
use Rattle.blocks.specs.Placing.{fields_bytes}
use Rattle.blocks.proofs.Fields.{row_said, zero_bytes}
use Rattle.blocks.proofs.row.FieldsFromRow.from.Goals as goal

pub returns-in-Blank : goal.returns-in-Blank
unfolding part_fields
returns-in-Blank c = ap fields_bytes c.plain.ensures ∙ rw zero_bytes (row_said c.args.row Blank c.in-Blank.is c.from-mark.ensures)

pub returns-in-Leaf-Resistor : goal.returns-in-Leaf-Resistor
unfolding part_fields
returns-in-Leaf-Resistor c = ap fields_bytes c.plain-in-Leaf-Resistor.ensures ∙ row_said c.args.row (Leaf (Resistor c.in-Leaf-Resistor.r)) (c.in-Leaf-Resistor.is ∙ ap Leaf (rw c.in-Leaf-Resistor.is at c.in-Leaf-Resistor.field-0-is)) c.from-mark.ensures

pub returns-in-Leaf-Capacitor : goal.returns-in-Leaf-Capacitor
unfolding part_fields
returns-in-Leaf-Capacitor c = ap fields_bytes c.plain-in-Leaf-Capacitor.ensures ∙ row_said c.args.row (Leaf (Capacitor c.in-Leaf-Capacitor.c)) (c.in-Leaf-Capacitor.is ∙ ap Leaf (rw c.in-Leaf-Capacitor.is at c.in-Leaf-Capacitor.field-0-is)) c.from-mark.ensures

pub returns-in-Leaf-Inductor : goal.returns-in-Leaf-Inductor
unfolding part_fields
returns-in-Leaf-Inductor c = ap fields_bytes c.plain-in-Leaf-Inductor.ensures ∙ row_said c.args.row (Leaf (Inductor c.in-Leaf-Inductor.l)) (c.in-Leaf-Inductor.is ∙ ap Leaf (rw c.in-Leaf-Inductor.is at c.in-Leaf-Inductor.field-0-is)) c.from-mark.ensures

pub returns-in-Leaf-Input : goal.returns-in-Leaf-Input
unfolding part_fields
returns-in-Leaf-Input c = ap fields_bytes c.plain-in-Leaf-Input.ensures ∙ row_said c.args.row (Leaf (Input c.in-Leaf-Input.r)) (c.in-Leaf-Input.is ∙ ap Leaf (rw c.in-Leaf-Input.is at c.in-Leaf-Input.field-0-is)) c.from-mark.ensures

pub returns-in-Leaf-Steady : goal.returns-in-Leaf-Steady
unfolding part_fields
returns-in-Leaf-Steady c =
    let v = c.in-Leaf-Steady.v in
    let is = c.in-Leaf-Steady.is ∙ ap Leaf (rw c.in-Leaf-Steady.is at c.in-Leaf-Steady.field-0-is) in
    rw (to_z-of_z w32 v (search rules))
    (ap (λ (f : Fields). fields_bytes (record f { microvolts = v })) c.plain-in-Leaf-Steady.ensures
    ∙ row_said c.args.row (Leaf (Steady c.in-Leaf-Steady.r v)) is c.from-mark.ensures)

pub returns-in-Adaptor : goal.returns-in-Adaptor
unfolding part_fields
returns-in-Adaptor c =
    let a = c.in-Adaptor.a in
    ap (λ (f : Fields). fields_bytes (record f { first = a.first; second = a.second; microvolts = to_z w32 (of_z w32 f.microvolts) })) c.plain-in-Adaptor.ensures
    ∙ ap (λ k. row_fields k a.first a.second c.from-mark.result (pos 0) (float_bytes (of_bits binary64 0))) c.join_number.ensures
    ∙ rw zero_bytes (row_said c.args.row (Adaptor a) c.in-Adaptor.is c.from-mark.ensures)
