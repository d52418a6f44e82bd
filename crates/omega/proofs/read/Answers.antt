-- One test, which is computed, holds the whole table to the cubic.
use Rattle.std.proofs.Common.{◌≡◌, true, refl}
use Rattle.circuit.specs.Omega.{cubic, entry, entry_at}
use Rattle.laws.proofs.Tables.{as_defined, entry_defined}
use Rattle.omega.specs.declared.table.TheConstants.{OMEGA}
use Rattle.omega.proofs.read.Goals as goal

tested : as_defined entry_at 0 OMEGA ≡ true
unfolding cubic entry
tested = refl

pub returns : goal.returns
returns c = entry_defined entry_at OMEGA tested c.args.n c.requires
