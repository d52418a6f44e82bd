-- Two bytes from the first that is in no whole sample.
use Rattle.std.proofs.Common.{◌++◌, refl, sym, length-append}
use lib.ListN.{length-drop}
use Rattle.circuit.specs.Take.{left_over}
use Rattle.takes.proofs.Bytes.{two_from}
use Rattle.takes.proofs.left.carried_on.Goals as goal

pub returns-clause-left : goal.returns-clause-left
unfolding left_over
returns-clause-left c =
    let a = c.args in
    rw (c.byte_at.ensures, c.byte_at-2.ensures, ← length-append a.left.now a.more.now) (sym (two_from _ (a.left.now ++ a.more.now)))

pub returns-clause-count : goal.returns-clause-count
unfolding left_over
returns-clause-count c = rw (length-drop, length-append) refl
