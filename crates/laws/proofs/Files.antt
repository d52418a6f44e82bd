-- Files worked out on the definitions: numbers 1 to 3 of a file, 1 of a buffer to write, and two listings from bytes to text.
use Prim.Native.Nat.{◌+◌, ◌-◌}
use mathlib.Core.Path.{◌≡◌, refl, ap₂}
use mathlib.Core.List.{List, [], ◌∷◌, ◌++◌, map}
use lib.ListN.{set}
use Rattle.circuit.specs.Numbers.{report, done}
use Rattle.circuit.specs.File.{file_length, block_length, bytes, block, zeros, file_of, read_report, write_report}
use Rattle.circuit.specs.Text.{text}
use Rattle.circuit.specs.Listing.{listing}
use Rattle.circuit.proofs.Working.{working}
use Rattle.circuit.proofs.Circuits.{versioned, reversing, case1}
use Rattle.circuit.proofs.Refusals.{Line, gives}

files : List Line
files =
    gives (read_report []) (report 1 0)
    ∷ gives (read_report (zeros (file_length + 1))) (report 1 0)
    ∷ gives (write_report (record { circuit = case1; buffer = zeros (file_length - 1) })) (report 1 0)
    ∷ gives (write_report (record { circuit = case1; buffer = zeros file_length })) done
    ∷ gives (write_report (record { circuit = versioned 3 case1; buffer = zeros (file_length - 1) })) (report 1 0)
    ∷ gives (write_report (record { circuit = versioned 3 case1; buffer = zeros file_length })) (report 3 0)
    ∷ gives (read_report (block 0 [] ++ zeros block_length ++ zeros block_length)) (report 2 1)
    -- version 0 and version 3, whose heading sets a byte that nothing uses; the same at version 2
    ∷ gives (read_report (block 0 [] ++ block 1 [] ++ block 2 [])) (report 3 0)
    ∷ gives (read_report (block 0 (bytes 2 3 ++ zeros 4 ++ bytes 1 1) ++ block 1 [] ++ block 2 [])) (report 3 0)
    ∷ gives (read_report (block 0 (bytes 2 2 ++ zeros 4 ++ bytes 1 1) ++ block 1 [] ++ block 2 [])) (report 4 0)
    -- case 1 with its adaptor marked, and with its resistor
    ∷ gives (read_report (file_of (reversing 2 case1))) (report 4 0)
    ∷ gives (read_report (file_of (reversing 1 case1))) done
    ∷ []

-- with its first line apart, the table is worked out once, and not once for each side
files_refused : map (λ (l : Line). l.found) files ≡ map (λ (l : Line). l.paper) files
unfolding working files
files_refused = ap₂ ◌∷◌ refl refl

-- case 1, whole
case_1_listed : listing (file_of case1) ≡ text "rows 3 tap 1\n0 input -\n1 resistor -\n2 parallel 12582912\n"
unfolding working
case_1_listed = refl

-- a byte of row 0 turned over
damaged_listed : listing (set (file_of case1) block_length 5) ≡ text "refused 2 at 1\n"
unfolding working
damaged_listed = refl
