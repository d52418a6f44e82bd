-- Every number from 3 to 15, with its place, at an input that gets it, and beside a limit an input that just passes, worked out. Numbers 1 to 3
-- of a file are in crates/laws/proofs/Files.antt.
use Prim.Native.Nat.{ℕ, ◌-◌}
use mathlib.Core.Path.{◌≡◌, refl, ap₂}
use mathlib.Core.Bool.{Bool, true, false}
use mathlib.Core.List.{List, [], ◌∷◌, ◌++◌, map}
use lib.ListN.{length, set, replicate}
use lib.IntN.{ℤ, pos, negsuc}
use lib.Ieee.{Float, nan, inf, fin}
use Rattle.circuit.specs.Numbers.{Report, report, done, fails}
use Rattle.circuit.specs.Counting.{table}
use Rattle.circuit.specs.Record.{column_limit}
use Rattle.circuit.specs.SetUp.{set_up_report}
use Rattle.circuit.specs.Run.{call, fresh_waves, ran}
use Rattle.circuit.specs.File.{clear_row, unused_bytes_rule, zeros}
use Rattle.circuit.specs.declared.Join.TheVariants.{Series, Parallel}
use Rattle.circuit.specs.declared.Part.{Part}
use Rattle.circuit.specs.declared.Part.TheVariants.{Blank}
use Rattle.circuit.specs.declared.Column.{Column}
use Rattle.circuit.specs.declared.CurveKind.TheVariants.{Unset, Single, Pair}
use Rattle.circuit.specs.declared.Record.{Record}
use Rattle.circuit.proofs.Working.{working}
use Rattle.circuit.proofs.Circuits.{minus, ohms, input, resistor, inductor, steady, joins, column, circuit, versioned, reversing, curve_k, case1, case8, curved, calling, fresh}

-- ---- changed records

-- case 1 with another rate and other counts, and with a column after the curve's
case1_with : ℕ → ℕ → ℕ → List Column → Record
case1_with rate count width more = record {
  version = 1;
  rate = rate;
  count = count;
  tap = case1.tap;
  rows = case1.rows;
  kind = case1.kind;
  width = width;
  columns = curve_k ++ more ++ replicate (column_limit - length (curve_k ++ more)) (column (pos 0) (pos 0));
  resistance = case1.resistance;
}

at_rate : ℕ → Record
at_rate rate = case1_with rate 3 3 []

counting : ℕ → Record
counting count = case1_with 48000 count 3 []

-- a pair with n level columns
level : ℕ → Record
level n = curved Pair (table (λ i. column (pos i) (pos 0)) n)

-- parts at 48,000 Hz with curve K and a curve resistance
parts : List Part → ℕ → Float → Record
parts ps tap q = circuit ps tap Pair curve_k q

-- two resistances in parallel with the input first
pair : Float → Float → Float → Record
pair a b q = parts (input a ∷ resistor b ∷ joins Parallel 0 1 ∷ []) 1 q

-- input and four steady sources of 2^24 µV in series: the top's wave is the sample and 2^26
stack : Record
stack =
    parts
    (input (ohms 1000)
    ∷ steady (ohms 1000) (pos 16777216)
    ∷ joins Series 0 1
    ∷ steady (ohms 1000) (minus 16777216)
    ∷ joins Series 2 3
    ∷ steady (ohms 1000) (pos 16777216)
    ∷ joins Series 4 5
    ∷ steady (ohms 1000) (minus 16777216)
    ∷ joins Series 6 7
    ∷ [])
    0 (ohms 5000)

sampling : ℤ → Report
sampling x = (fresh stack (x ∷ [])).handed_back

-- input 750 Ω and a part in parallel, with a diode that sends back what it gets
straight : Part → ℕ → Record
straight p q = circuit (input (ohms 750) ∷ p ∷ joins Parallel 0 1 ∷ []) 0 Pair (column (pos 0) (pos 0) ∷ column (pos 67108864) (pos 67108864) ∷ []) (ohms q)

-- what a call hands back, and what the paper says
pub record Line : Type 0 where
  pub found : Report
  pub paper : Report

abbrev pub gives : Report → Report → Line
gives f p = record { found = f; paper = p }

-- one byte of the heading that nothing uses set
spoiled : List ℕ
spoiled = 6 ∷ 7 ∷ 12 ∷ 15 ∷ 24 ∷ []

spoiled_refused : map (λ (at : ℕ). unused_bytes_rule (set (zeros 25) at 128)) spoiled ≡ map (λ (at : ℕ). fails 0) spoiled
unfolding working spoiled
spoiled_refused = refl

-- whether a row of a kind uses every byte of it that is set
row : ℕ → List ℕ → Bool
row kind others = clear_row kind 0 (kind ∷ others)

-- each kind with the bytes that it uses, the first of them reversed, and then with one more: a resistor's first child, an input's mark of 2, a
-- capacitor's microvolts, a steady source's second child, an adaptor's microvolts, and −0.0 for an adaptor's value
rows-spoiled :
    row 1 (0 ∷ 0 ∷ 1 ∷ 0 ∷ 0 ∷ 0 ∷ 0 ∷ 1 ∷ 1 ∷ 1 ∷ 1 ∷ 1 ∷ 1 ∷ 1 ∷ 1 ∷ [])
    ∷ row 5 (0 ∷ 0 ∷ 0 ∷ 1 ∷ 1 ∷ 1 ∷ 1 ∷ 1 ∷ 1 ∷ 1 ∷ 1 ∷ 1 ∷ 1 ∷ 1 ∷ 1 ∷ [])
    ∷ row 7 (1 ∷ 1 ∷ 0 ∷ 0 ∷ 0 ∷ 0 ∷ 0 ∷ 0 ∷ 0 ∷ 0 ∷ 0 ∷ 0 ∷ 0 ∷ 0 ∷ 0 ∷ [])
    ∷ row 1 (1 ∷ 0 ∷ 0 ∷ 0 ∷ 0 ∷ 0 ∷ 0 ∷ 1 ∷ 1 ∷ 1 ∷ 1 ∷ 1 ∷ 1 ∷ 1 ∷ 1 ∷ [])
    ∷ row 4 (0 ∷ 0 ∷ 2 ∷ 0 ∷ 0 ∷ 0 ∷ 0 ∷ 1 ∷ 1 ∷ 1 ∷ 1 ∷ 1 ∷ 1 ∷ 1 ∷ 1 ∷ [])
    ∷ row 2 (0 ∷ 0 ∷ 0 ∷ 1 ∷ 0 ∷ 0 ∷ 0 ∷ 1 ∷ 1 ∷ 1 ∷ 1 ∷ 1 ∷ 1 ∷ 1 ∷ 1 ∷ [])
    ∷ row 5 (0 ∷ 1 ∷ 0 ∷ 1 ∷ 1 ∷ 1 ∷ 1 ∷ 1 ∷ 1 ∷ 1 ∷ 1 ∷ 1 ∷ 1 ∷ 1 ∷ 1 ∷ [])
    ∷ row 6 (1 ∷ 1 ∷ 0 ∷ 0 ∷ 0 ∷ 0 ∷ 1 ∷ 0 ∷ 0 ∷ 0 ∷ 0 ∷ 0 ∷ 0 ∷ 0 ∷ 0 ∷ [])
    ∷ row 7 (1 ∷ 1 ∷ 0 ∷ 0 ∷ 0 ∷ 0 ∷ 0 ∷ 0 ∷ 0 ∷ 0 ∷ 0 ∷ 0 ∷ 0 ∷ 0 ∷ 128 ∷ [])
    ∷ []
    ≡ true ∷ true ∷ true ∷ false ∷ false ∷ false ∷ false ∷ false ∷ false ∷ []
unfolding working row
rows-spoiled = refl

-- numbers 3 to 11 of a record
records : List Line
records =
    gives (set_up_report (versioned 0 case1)) (report 3 0)
    ∷ gives (set_up_report (versioned 2 case1)) done
    ∷ gives (set_up_report (versioned 3 case1)) (report 3 0)
    ∷ gives (set_up_report (versioned 3 (counting 32))) (report 3 0)
    ∷ gives (set_up_report (versioned 2 (counting 32))) (report 4 0)
    ∷ gives (set_up_report (counting 32)) (report 4 0)
    ∷ gives (set_up_report (counting 0)) (report 4 0)
    ∷ gives (set_up_report (counting 2)) (report 4 0)
    ∷ gives (set_up_report (parts (input (ohms 1000) ∷ Blank ∷ joins Parallel 0 1 ∷ []) 0 (ohms 750))) (report 4 0)
    ∷ gives (set_up_report (curved Unset curve_k)) (report 4 0)
    ∷ gives (set_up_report (level 1)) (report 4 0)
    ∷ gives (set_up_report (level 2)) done
    ∷ gives (set_up_report (level 62)) done
    ∷ gives (set_up_report (case1_with 48000 3 63 [])) (report 4 0)
    -- a column past the count that is not (0, 0)
    ∷ gives (set_up_report (case1_with 48000 3 3 (column (pos 0) (pos 1) ∷ []))) (report 4 0)
    -- request 6: a mark on a leaf, on an adaptor and on a blank row
    ∷ gives (set_up_report (reversing 1 case1)) done
    ∷ gives (set_up_report (reversing 2 case1)) (report 4 0)
    ∷ gives (set_up_report (reversing 3 case1)) (report 4 0)
    ∷ gives (set_up_report (at_rate 7999)) (report 5 0)
    ∷ gives (set_up_report (at_rate 8000)) done
    ∷ gives (set_up_report (at_rate 768000)) done
    ∷ gives (set_up_report (at_rate 768001)) (report 5 0)
    -- children not lower; a row used twice and one not at all; an even count; no input, two inputs; a tap on an adaptor and past the rows
    ∷ gives (set_up_report (parts (input (ohms 1000) ∷ resistor (ohms 3000) ∷ joins Parallel 0 2 ∷ []) 1 (ohms 750))) (report 6 2)
    ∷ gives (set_up_report (parts (input (ohms 1000) ∷ resistor (ohms 3000) ∷ joins Parallel 0 255 ∷ []) 1 (ohms 750))) (report 6 2)
    ∷ gives (set_up_report (parts (input (ohms 1000) ∷ resistor (ohms 3000) ∷ joins Parallel 0 0 ∷ []) 1 (ohms 750))) (report 6 0)
    ∷ gives (set_up_report (parts (input (ohms 1000) ∷ resistor (ohms 3000) ∷ []) 1 (ohms 750))) (report 6 0)
    ∷ gives (set_up_report (parts (resistor (ohms 1000) ∷ resistor (ohms 3000) ∷ joins Parallel 0 1 ∷ []) 1 (ohms 750))) (report 6 255)
    ∷ gives (set_up_report (parts (input (ohms 1000) ∷ input (ohms 3000) ∷ joins Parallel 0 1 ∷ []) 1 (ohms 750))) (report 6 255)
    ∷ gives (set_up_report (parts (input (ohms 1000) ∷ resistor (ohms 3000) ∷ joins Parallel 0 1 ∷ []) 2 (ohms 750))) (report 6 255)
    ∷ gives (set_up_report (parts (input (ohms 1000) ∷ resistor (ohms 3000) ∷ joins Parallel 0 1 ∷ []) 3 (ohms 750))) (report 6 255)
    -- both zeros, below zero, no number, infinite; steady microvolts
    ∷ gives (set_up_report (pair (ohms 1000) (ohms 0) (ohms 750))) (report 7 1)
    ∷ gives (set_up_report (pair (fin true 0 (pos 0)) (ohms 3000) (ohms 750))) (report 7 0)
    ∷ gives (set_up_report (pair (fin true 1 (pos 0)) nan (ohms 750))) (report 7 0)
    ∷ gives (set_up_report (pair (ohms 1000) nan (ohms 750))) (report 7 1)
    ∷ gives (set_up_report (pair (ohms 1000) (inf false) (ohms 750))) (report 7 1)
    ∷ gives (set_up_report (parts (input (ohms 1000) ∷ steady (ohms 3000) (minus 16777217) ∷ joins Parallel 0 1 ∷ []) 1 (ohms 750))) (report 7 1)
    ∷ gives (set_up_report (parts (input (ohms 1000) ∷ steady (ohms 3000) (minus 16777216) ∷ joins Parallel 0 1 ∷ []) 1 (ohms 750))) done
    ∷ gives (set_up_report (parts (input (ohms 1000) ∷ steady (ohms 3000) (pos 16777217) ∷ joins Parallel 0 1 ∷ []) 1 (ohms 750))) (report 7 1)
    -- 2^31 Ω; a subnormal; an inductor that overflows; the limits themselves, and just past them
    ∷ gives (set_up_report (pair (ohms 1000) (ohms 2147483648) (ohms 750))) (report 8 1)
    ∷ gives (set_up_report (pair (fin false 1 (negsuc 1073)) (ohms 3000) (ohms 750))) (report 8 0)
    ∷ gives (set_up_report (parts (input (ohms 250) ∷ inductor (fin false 1 (pos 1023)) ∷ joins Parallel 0 1 ∷ []) 1 (ohms 750))) (report 8 1)
    ∷ gives (set_up_report (parts (input (ohms 1073741824) ∷ []) 255 (ohms 1073741824))) done
    ∷ gives (set_up_report (parts (input (ohms 1073741825) ∷ []) 255 (ohms 1073741824))) (report 8 0)
    ∷ gives (set_up_report (parts (input (fin false 1 (negsuc 9)) ∷ []) 0 (fin false 1 (negsuc 9)))) done
    ∷ gives (set_up_report (parts (input (fin false 1023 (negsuc 19)) ∷ []) 0 (fin false 1 (negsuc 9)))) (report 8 0)
    -- 2^24 / (2^24 + 1), below one part; one part, and all but one
    ∷ gives (set_up_report (pair (ohms 16777216) (ohms 1) (ohms 1))) (report 9 2)
    ∷ gives (set_up_report (pair (ohms 16777215) (ohms 1) (ohms 1))) done
    ∷ gives (set_up_report (pair (ohms 1) (ohms 16777215) (ohms 1))) done
    -- x too large, x that does not rise, a pair that does not start at (0, 0), a single that misses it
    ∷ gives (set_up_report (curved Pair (column (pos 0) (pos 0) ∷ column (pos 67108865) (pos 0) ∷ []))) (report 10 1)
    ∷ gives (set_up_report (curved Pair (column (pos 0) (pos 0) ∷ column (pos 67108864) (pos 0) ∷ []))) done
    ∷ gives (set_up_report (curved Pair (column (pos 0) (pos 0) ∷ column (pos 5) (pos 1) ∷ column (pos 5) (pos 1) ∷ []))) (report 10 2)
    ∷ gives (set_up_report (curved Pair (column (pos 1) (pos 0) ∷ column (pos 5) (pos 1) ∷ []))) (report 10 0)
    ∷ gives (set_up_report (curved Single (column (minus 3) (minus 1) ∷ column (pos 5) (pos 1) ∷ []))) (report 10 0)
    ∷ gives (set_up_report (curved Single (column (minus 3) (minus 1) ∷ column (pos 0) (pos 0) ∷ []))) done
    -- for a port of 750 Ω: 1025/1024 and 1023/1024 of it, and 1/512 Ω past each; no number, and an infinite one
    ∷ gives (set_up_report (pair (ohms 1000) (ohms 3000) (fin false 384375 (negsuc 8)))) done
    ∷ gives (set_up_report (pair (ohms 1000) (ohms 3000) (fin false 48047 (negsuc 5)))) (report 11 0)
    ∷ gives (set_up_report (pair (ohms 1000) (ohms 3000) (fin false 383625 (negsuc 8)))) done
    ∷ gives (set_up_report (pair (ohms 1000) (ohms 3000) (fin false 47953 (negsuc 5)))) (report 11 0)
    ∷ gives (set_up_report (pair (ohms 1000) (ohms 3000) nan)) (report 11 0)
    ∷ gives (set_up_report (pair (ohms 1000) (ohms 3000) (inf false))) (report 11 0)
    ∷ []

-- with its first line apart, a table is worked out once, and not once for each side
records_refused : map (λ (l : Line). l.found) records ≡ map (λ (l : Line). l.paper) records
unfolding working records case1_with at_rate counting level parts pair
records_refused = ap₂ ◌∷◌ refl refl

-- numbers 3 and 12 to 15 of a run
runs : List Line
runs =
    gives (ran (calling (versioned 3 case1) (set fresh_waves 1 (pos 1)) [])).handed_back (report 3 0)
    -- a wave at a resistor, a reactive row's past the limit and at it, a blank row's
    ∷ gives (ran (calling case1 (set fresh_waves 1 (pos 1)) [])).handed_back (report 12 1)
    ∷ gives (ran (calling case8 (set fresh_waves 1 (minus 67108865)) [])).handed_back (report 12 1)
    ∷ gives (ran (calling case8 (set fresh_waves 1 (minus 67108864)) [])).handed_back done
    ∷ gives (ran (calling case8 (set fresh_waves 1 (pos 67108865)) [])).handed_back (report 12 1)
    ∷ gives (ran (calling case8 (set fresh_waves 30 (pos 1)) [])).handed_back (report 12 30)
    ∷ gives (ran (call case1 fresh_waves (pos 1 ∷ []) [])).handed_back (report 13 0)
    ∷ gives (ran (call case1 fresh_waves [] (pos 1 ∷ []))).handed_back (report 13 0)
    ∷ gives (fresh case1 (pos 16777216 ∷ [])).handed_back done
    ∷ gives (fresh case1 (pos 1 ∷ pos 2 ∷ minus 16777217 ∷ [])).handed_back (report 14 2)
    -- the top's wave at the limit and one above it; both 14 and 15
    ∷ gives (sampling (pos 0)) done
    ∷ gives (sampling (pos 1)) (report 15 0)
    ∷ gives (sampling (pos 16777217)) (report 14 0)
    -- the wave that reaches the input at the limit, and above it with the top's wave below
    ∷ gives (ran (calling (straight (inductor (fin false 1 (negsuc 6))) 375) (set fresh_waves 1 (pos 67108864)) (pos 0 ∷ []))).handed_back done
    ∷ gives (ran (calling (straight (inductor (fin false 1 (negsuc 7))) 250) (set fresh_waves 1 (pos 67108864)) (minus 16777216 ∷ []))).handed_back (report 15 0)
    ∷ []

runs_refused : map (λ (l : Line). l.found) runs ≡ map (λ (l : Line). l.paper) runs
unfolding working runs stack sampling straight parts fresh
runs_refused = ap₂ ◌∷◌ refl refl
