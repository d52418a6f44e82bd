-- The place of each role among them, from 0 on.
use Rattle.std.specs.Prelude.{ℕ}
use Rattle.parts.specs.declared.Role.{Role}
use Rattle.parts.specs.declared.Role.TheVariants.{Reactive, Other, Input, Adaptor, Blank}

unfoldable pub index_of : Role → ℕ
index_of Reactive = 0
index_of Other = 1
index_of Input = 2
index_of Adaptor = 3
index_of Blank = 4
