-- Request 4 on a few knobs, found by working out the definitions: entries of Omega's table, columns, and 18 at both sides of each limit.
use Prim.Native.Nat.{ℕ}
use mathlib.Core.Path.{◌≡◌, refl, ap₂}
use mathlib.Core.List.{List, [], ◌∷◌, map}
use lib.IntN.{ℤ, pos}
use Rattle.circuit.specs.Numbers.{Report, report, done}
use Rattle.circuit.specs.Omega.{entry}
use Rattle.circuit.specs.Knee.{knob, knee_column, build_report}
use Rattle.circuit.specs.declared.Column.{Column}
use Rattle.circuit.proofs.Working.{working}
use Rattle.circuit.proofs.Circuits.{minus, column}

-- what a line finds: an entry, some columns of a curve, or what building hands back
data Found : Type 0 where
  entries : List ℤ → Found
  columns : List Column → Found
  hands : Report → Found

record Line : Type 0 where
  found : Found
  paper : Found

abbrev gives : Found → Found → Line
gives f p = record { found = f; paper = p }

-- the columns with these numbers
abbrev some : ℤ → ℤ → List ℕ → Found
some a v js = columns (map (knee_column (knob a v)) js)

abbrev build : ℤ → ℤ → Found
build a v = hands (build_report (knob a v))

knees : List Line
knees =
    -- the first and the last, the second, and those at 0 and 1
    gives (entries (map entry (minus 943 ∷ pos 505 ∷ minus 942 ∷ pos 0 ∷ pos 256 ∷ []))) (entries (pos 0 ∷ pos 33095680 ∷ pos 2 ∷ pos 9792184 ∷ pos 19308755 ∷ []))
    -- a knee of 600 mV and a thermal voltage of 25.856 mV: x steps by 2,424
    ∷ gives (some (pos 600000) (pos 25856) (0 ∷ 1 ∷ 2 ∷ 15 ∷ 30 ∷ 61 ∷ []))
    (columns (
    column (pos 0) (pos 0)
    ∷ column (pos 600000) (pos 600000)
    ∷ column (pos 602424) (pos 602420)
    ∷ column (pos 633936) (pos 632102)
    ∷ column (pos 670296) (pos 657340)
    ∷ column (pos 745440) (pos 645038)
    ∷ []
    ))
    -- the smallest knob
    ∷ gives (some (pos 1) (pos 32) (1 ∷ 2 ∷ 15 ∷ 61 ∷ []))
    (columns (column (pos 1) (pos 1) ∷ column (pos 4) (pos 4) ∷ column (pos 43) (pos 41) ∷ column (pos 181) (pos 57) ∷ []))
    -- a and V at least 1, and V a multiple of 32
    ∷ gives (build (pos 1) (pos 32)) (hands done)
    ∷ gives (build (pos 0) (pos 32)) (hands (report 18 0))
    ∷ gives (build (minus 1) (pos 32)) (hands (report 18 0))
    ∷ gives (build (pos 1) (pos 0)) (hands (report 18 0))
    ∷ gives (build (pos 1) (minus 32)) (hands (report 18 0))
    ∷ gives (build (pos 1) (pos 31)) (hands (report 18 0))
    ∷ gives (build (pos 1) (pos 33)) (hands (report 18 0))
    -- the last x, at its limit and one past it, by the knee and by the thermal voltage
    ∷ gives (build (pos 67108684) (pos 32)) (hands done)
    ∷ gives (build (pos 67108685) (pos 32)) (hands (report 18 0))
    ∷ gives (build (pos 4) (pos 11930464)) (hands done)
    ∷ gives (build (pos 5) (pos 11930464)) (hands (report 18 0))
    ∷ gives (build (pos 1) (pos 11930496)) (hands (report 18 0))
    ∷ []

knees_built : map (λ (l : Line). l.found) knees ≡ map (λ (l : Line). l.paper) knees
unfolding working knees
knees_built = ap₂ ◌∷◌ refl refl
