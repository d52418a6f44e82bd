-- A sample that is counted is whole.
use Rattle.std.proofs.Common.{w32, sym, ◌∙◌, rules}
use mir.ValLaws.{to_z-of_z}
use Rattle.engine.proofs.RawBytes.{fitting_whole, fitting_at}
use Rattle.engine.proofs.packed.PackedSamples.sample.Goals as goal

pub at-requires : goal.at-requires
at-requires c = let p = c.args.self.now in fitting_whole p.most p.left.now p.more.now c.args.i c.requires

pub returns : goal.returns
returns c =
    let p = c.args.self.now in
    to_z-of_z w32 c.at.result (search rules) ∙ c.at.ensures ∙ sym (fitting_at p.most p.left.now p.more.now c.args.i c.requires)
