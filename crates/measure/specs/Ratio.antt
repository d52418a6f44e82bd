-- The ratio as set-up fills it in.
use Rattle.std.specs.Prelude.{ℕ, cond, nat_lt, Float}
use Rattle.circuit.specs.SetUp.{joined_resistance, quotient, parts, scaled_down}
use Rattle.circuit.specs.declared.Join.{Join}
use Rattle.circuit.specs.declared.Prepared.{Prepared}

-- how many of n parts; where it is not below all of them 0, which rule 9 refuses as well
abbrev pub proper : ℕ → ℕ → ℕ
proper n g = cond (nat_lt g n) g 0

abbrev pub row : Float → ℕ → Prepared
row R g = record { resistance = R; ratio = g }

-- an adaptor over children with these resistances
abbrev pub joined_row : Join → Float → Float → Prepared
joined_row k r1 r2 = row (joined_resistance k r1 r2) (proper parts (scaled_down parts (quotient k r1 r2)))
