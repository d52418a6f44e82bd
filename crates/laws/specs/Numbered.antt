-- A rule's verdict as what is handed back.
use Rattle.std.specs.Prelude.{ℕ}
use Rattle.circuit.specs.Numbers.{Report, report, done, Verdict, passes, fails}

-- a verdict, under its rule's number
abbrev pub numbered : ℕ → Verdict → Report
numbered n passes = done
numbered n (fails p) = report n p
