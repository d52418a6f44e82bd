-- The sample's bytes stand in `more` alone, or the first of them in `left`.
use Rattle.std.proofs.Common.{◌-◌, ◌*◌, sym, ◌∙◌, w32, length, arith, rules}
use borrow.Author.Tests.{eqb-true}
use mir.ValLaws.{to_z-of_z}
use Rattle.circuit.specs.Take.{sample_length}
use Rattle.engine.proofs.RawBytes.{sample_after, sample_across}
use Rattle.engine.proofs.packed.Packed.at.Goals as goal

pub returns-then-is_empty : goal.returns-then-is_empty
returns-then-is_empty c =
    let p = c.args.self.now in
    let none = eqb-true (length p.left.now) 0 (sym c.is_empty.ensures ∙ c.if-is_empty.true) in
    to_z-of_z w32 c.sample_in.result (search rules) ∙ c.sample_in.ensures
    ∙ sample_after p.left.now p.more.now (sample_length * c.args.i) c.args.i (omega arith)

pub returns-then-at-self : goal.returns-then-at-self
returns-then-at-self c =
    let p = c.args.self.now in
    to_z-of_z w32 c.sample_of.result (search rules) ∙ c.sample_of.ensures
    ∙ sample_across p.left.now p.more.now c.args.i c.requires c.byte-a.ensures c.byte-b.ensures c.byte-c.ensures

pub returns : goal.returns
returns c =
    let p = c.args.self.now in
    to_z-of_z w32 c.sample_in-2.result (search rules) ∙ c.sample_in-2.ensures
    ∙ sample_after p.left.now p.more.now (sample_length * c.args.i - length p.left.now) c.args.i (omega arith)
