-- Request 4, "Tables built in the unit": Omega by the cubic of source document 002, equation 10, and the table of its values.
use Rattle.std.specs.Prelude.{ℕ, ◌^◌, ℤ, pos, ◌-ℤ◌}
use Rattle.std.proofs.Common.{arith}
use Rattle.whole.specs.Fraction.{Fraction, over, whole, ◌+F◌, ◌*F◌, floor}

-- the coefficients, as exact decimals
abbrev pub α : Fraction
α = over (pos 9451797158780131) (10 ^ 18) (omega arith)

abbrev pub β : Fraction
β = over (pos 1126446405111627) (10 ^ 16) (omega arith)

abbrev pub γ : Fraction
γ = over (pos 4451353886588814) (10 ^ 16) (omega arith)

abbrev pub ζ : Fraction
ζ = over (pos 5836596684310648) (10 ^ 16) (omega arith)

unfoldable pub cubic : Fraction → Fraction
cubic x = α *F x *F x *F x +F β *F x *F x +F γ *F x +F ζ

-- an entry counts parts of 2^24
abbrev pub omega_parts : ℕ
omega_parts = 16777216

-- the cubic at i/256, times 2^24, rounded down
unfoldable pub entry : ℤ → ℤ
entry i = floor (cubic (over i 256 (omega arith)) *F whole (pos omega_parts))

-- for each whole i from −943 to 505
abbrev pub entry_count : ℕ
entry_count = 1449

-- the table's entry n, counted from 0, is for i = n − 943
abbrev pub entry_at : ℕ → ℤ
entry_at n = entry (pos n -ℤ pos 943)
