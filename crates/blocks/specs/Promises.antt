-- What reading blocks promises of any bytes: the rules of the bytes, and the record of bytes that pass.
use Rattle.std.specs.Prelude.{ℕ, ◌≡◌, List, Result, IfOk}
use Rattle.circuit.specs.Numbers.{judge, handed}
use Rattle.circuit.specs.File.{file_rules, record_of}
use Rattle.circuit.specs.declared.Refusal.{Refusal}
use Rattle.circuit.specs.declared.Record.{Record}

pub record ReadsBlocks (s : List ℕ) (got : Result Record Refusal) : Type 0 where
  pub number : handed got ≡ judge file_rules s
  pub circuit : IfOk got (λ r. r ≡ record_of s)
