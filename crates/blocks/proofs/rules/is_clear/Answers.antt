-- Each of the bytes is looked at.
use Rattle.std.proofs.Common.{◌&&◌, ◌∙◌, eqb, rules, arith}
use borrow.Author.Tests.{tests}
use Rattle.std.proofs.lemmas.Iterator.{YieldsList-from_slice}
use Rattle.std.proofs.lemmas.Iterator.Consumers.{fold_from_yields_List}
use Rattle.blocks.proofs.Chains.{part_asked}
use Rattle.blocks.proofs.rules.is_clear.Goals as goal

pub returns : goal.returns
returns c =
    fold_from_yields_List _ (λ b x. b && eqb x 0) _ _ c.fold.ensures.ran (YieldsList-from_slice _ c.iter.ensures.rest)
    (λ a x b q k. search (rules, tests))
    ∙ part_asked c.args.s.now c.args.at c.args.n _ c.requires (omega arith)
