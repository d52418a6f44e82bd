-- Column 0 is (0, 0).
use Rattle.std.proofs.Common.{refl}
use Rattle.circuit.specs.Knee.{knee_column}
use Rattle.knee.proofs.column.column.Goals as goal

pub returns-then-j-eq0 : goal.returns-then-j-eq0
unfolding knee_column
returns-then-j-eq0 c = rw c.if-j-eq0.true refl
