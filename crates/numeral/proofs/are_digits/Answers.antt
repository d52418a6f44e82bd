-- Each of the bytes is looked at.
use Rattle.std.proofs.Common.{true, ◌&&◌, ◌∙◌, rules, tests}
use Rattle.std.proofs.lemmas.Iterator.{YieldsList-from_slice}
use Rattle.std.proofs.lemmas.Iterator.Consumers.{fold_from_yields_List}
use Rattle.laws.proofs.Asking.{all_asked}
use Rattle.numeral.specs.Numeral.{is_digit}
use Rattle.numeral.proofs.are_digits.Goals as goal

pub returns : goal.returns
returns c =
    fold_from_yields_List _ (λ digits b. digits && is_digit b) _ _ c.fold.ensures.ran (YieldsList-from_slice _ c.iter.ensures.rest)
    (λ a x b q k. search (rules, tests))
    ∙ all_asked is_digit c.args.text.now true
