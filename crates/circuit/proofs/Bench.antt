-- "Bench table": the cases marked M, one table under one statement, found by working out the definitions. Beside it the shortcuts of the old
-- units, each at a case that tells it from the rule, and a case for each operand of a sample that no marked case tells from another.
use Prim.Native.Nat.{ℕ}
use mathlib.Core.Path.{◌≡◌, refl, ap₂}
use mathlib.Core.Bool.{Bool, true, false}
use mathlib.Core.List.{List, [], ◌∷◌, ◌++◌, map}
use lib.Dec.{eqb}
use lib.ListN.{length, set, get_or}
use lib.IntN.{ℤ, pos, negsuc, ◌-ℤ◌, ◌*ℤ◌, nat_abs}
use lib.Ieee.{Float, fin}
use Rattle.whole.specs.Fraction.{Fraction, whole}
use Rattle.circuit.specs.Numbers.{Report, report, done}
use Rattle.circuit.specs.SetUp.{nothing, set_up_report, set_up_rows}
use Rattle.circuit.specs.Curve.{line, reflected, segment}
use Rattle.circuit.specs.Sample.{unrounded, output}
use Rattle.circuit.specs.Run.{Ran, call, fresh_waves, ran}
use Rattle.circuit.specs.File.{block_length, bytes, check_of, zeros}
use Rattle.circuit.specs.Knee.{knob, with_knee}
use Rattle.circuit.specs.declared.Join.{Join}
use Rattle.circuit.specs.declared.Join.TheVariants.{Series, Parallel}
use Rattle.circuit.specs.declared.CurveKind.TheVariants.{Single, Pair}
use Rattle.circuit.specs.declared.Record.{Record}
use Rattle.circuit.proofs.Working.{working}
use Rattle.circuit.proofs.Circuits.{minus, ohms, column, alone, case1, case6, case8, capacitive, curved, sourced, versioned, reversing, fresh}

-- what a case finds: the top's ratio and port resistance; a run's report, how many samples it has done, its outputs in half microvolts and
-- what row 1 stores; the diode's answers; segments; whether something is so; a report; a check
data Found : Type 0 where
  top : ℕ → Float → Found
  plays : Report → ℕ → List ℤ → ℤ → Found
  answers : List ℤ → Found
  lights : List ℕ → Found
  is : Bool → Found
  hands : Report → Found
  checks : ℕ → Found

-- the top of three rows is row 2
prepared : Record → Found
prepared r = top (get_or (set_up_rows r) 2 nothing).ratio (get_or (set_up_rows r) 2 nothing).resistance

played : Ran → Found
played p = plays p.handed_back p.samples p.output (get_or p.waves 1 (pos 0))

-- done, each of the samples, from a fresh state
plainly : List ℤ → ℤ → Found
plainly outputs stored = plays done (length outputs) outputs stored

answered : Record → List ℤ → Found
answered r waves = answers (map (reflected r) waves)

-- the segments of waves, and the one that a run tells
lit : Record → List ℤ → Found
lit r waves = lights (map (segment r) waves)

shown : Ran → Found
shown p = lights (p.segment ∷ [])

light : ℕ → Found
light n = lights (n ∷ [])

-- the unrounded output for a sample from a fresh state is n / d
unrounded_is : Record → ℤ → ℤ → ℕ → Found
unrounded_is r x n d =
    let q : Fraction = output unrounded (line r) r (λ j. whole (pos 0)) x in
    is (eqb (nat_abs (q.num *ℤ pos d -ℤ n *ℤ pos q.den)) 0)

record Line : Type 0 where
  bench : ℕ
  found : Found
  paper : Found

abbrev case : ℕ → Found → Found → Line
case n f p = record { bench = n; found = f; paper = p }

marked : List Line
marked =
    case 1 (prepared case1) (top 12582912 (ohms 750))
    ∷ case 2 (played (fresh case1 (pos 4000 ∷ []))) (plainly (pos 2000 ∷ []) (pos 0))
    ∷ case 3 (played (fresh case1 (minus 4000 ∷ []))) (plainly (minus 2000 ∷ []) (pos 0))
    ∷ case 4 (played (fresh case1 (pos 1 ∷ []))) (plainly (pos 0 ∷ []) (pos 0))
    ∷ case 4 (unrounded_is case1 (pos 1) (pos 3) 2) (is true)
    ∷ case 5 (played (fresh case1 (minus 1 ∷ []))) (plainly (minus 2 ∷ []) (pos 0))
    ∷ case 6 (prepared (case6 1)) (top 4194304 (ohms 4000))
    ∷ case 6 (played (fresh (case6 1) (pos 4000 ∷ []))) (plainly (minus 4500 ∷ []) (pos 0))
    ∷ case 7 (played (fresh (case6 255) (pos 4000 ∷ []))) (plainly (minus 2000 ∷ []) (pos 0))
    ∷ case 8 (played (fresh case8 (pos 4000 ∷ []))) (plainly (pos 2000 ∷ []) (minus 2000))
    ∷ case 8 (played (fresh case8 (pos 4000 ∷ pos 0 ∷ []))) (plainly (pos 2000 ∷ minus 1000 ∷ []) (minus 1000))
    ∷ case 9 (answered (curved Pair (column (pos 0) (pos 0) ∷ column (pos 3) (pos 2) ∷ [])) (pos 1 ∷ pos 2 ∷ minus 2 ∷ [])) (answers (pos 0 ∷ pos 1 ∷ minus 1 ∷ []))
    ∷ case 10 (hands (set_up_report (curved Pair (column (pos 0) (pos 0) ∷ column (pos 3) (pos 4) ∷ [])))) (hands (report 10 1))
    ∷ case 10 (hands (set_up_report (curved Pair (column (pos 0) (pos 0) ∷ column (pos 3) (pos 3) ∷ [])))) (hands done)
    ∷ case 11 (checks (check_of 2 (zeros block_length))) (checks 3)
    ∷ []

-- every marked case finds what the paper says; with its first line apart, a table is worked out once, and not once for each side
marked_cases : map (λ (l : Line). l.found) marked ≡ map (λ (l : Line). l.paper) marked
unfolding working marked prepared played plainly answered unrounded_is fresh
marked_cases = ap₂ ◌∷◌ refl refl

-- ---- shortcuts seen in the old units, and the ends of the line by document 01's first rule, each at a case where it would answer something else;
-- R1 in the parallel quotient breaks case 1

shortcuts : List Line
shortcuts =
    -- rounding the slope part before adding y would give 1, and 2 left of the first column
    case 0 (answered (curved Pair (column (pos 0) (pos 0) ∷ column (pos 1) (pos 1) ∷ column (pos 4) (minus 1) ∷ [])) (pos 2 ∷ [])) (answers (pos 0 ∷ []))
    ∷ case 0 (answered (curved Pair (column (pos 0) (pos 0) ∷ column (pos 4) (pos 4) ∷ column (pos 7) (pos 2) ∷ [])) (pos 9 ∷ minus 9 ∷ [])) (answers (pos 0 ∷ pos 0 ∷ []))
    ∷ case 0 (answered (curved Single (column (minus 9) (pos 2) ∷ column (minus 6) (pos 4) ∷ column (pos 0) (pos 0) ∷ [])) (minus 10 ∷ [])) (answers (pos 1 ∷ []))
    -- past the last column, falling one for one whatever the last slope: the same with curve K, but 1, −6 and −3 where the last slope is 0, 1/5 and −2/3
    ∷ case 0 (answered case1 (pos 4000 ∷ minus 4000 ∷ [])) (answers (minus 2000 ∷ pos 2000 ∷ []))
    ∷ case 0 (answered (curved Pair (column (pos 0) (pos 0) ∷ column (pos 4) (pos 4) ∷ column (pos 9) (pos 4) ∷ [])) (pos 12 ∷ minus 12 ∷ [])) (answers (pos 4 ∷ minus 4 ∷ []))
    ∷ case 0 (answered (curved Pair (column (pos 0) (pos 0) ∷ column (pos 4) (pos 4) ∷ column (pos 9) (pos 5) ∷ [])) (pos 20 ∷ minus 20 ∷ [])) (answers (pos 7 ∷ minus 7 ∷ []))
    ∷ case 0 (answered (curved Pair (column (pos 0) (pos 0) ∷ column (pos 4) (pos 4) ∷ column (pos 7) (pos 2) ∷ [])) (pos 12 ∷ minus 12 ∷ [])) (answers (minus 1 ∷ pos 1 ∷ []))
    -- left of a single's first column, going down one for one whatever the first slope: the same where it is 1, but −14, −3 and −9 where it is 0, −1 and 1/2
    ∷ case 0 (answered (curved Single (column (minus 4) (minus 4) ∷ column (pos 0) (pos 0) ∷ [])) (minus 11 ∷ [])) (answers (minus 11 ∷ []))
    ∷ case 0 (answered (curved Single (column (minus 9) (minus 3) ∷ column (minus 4) (minus 3) ∷ column (pos 0) (pos 0) ∷ [])) (minus 20 ∷ [])) (answers (minus 3 ∷ []))
    ∷ case 0 (answered (curved Single (column (minus 4) (pos 4) ∷ column (pos 0) (pos 0) ∷ [])) (minus 11 ∷ [])) (answers (pos 11 ∷ []))
    ∷ case 0 (answered (curved Single (column (minus 4) (minus 2) ∷ column (pos 0) (pos 0) ∷ [])) (minus 11 ∷ [])) (answers (minus 5 ∷ []))
    -- wave 0 gives 0, with a built curve too: the cubic, carried on to wave 0, would give 66 there
    ∷ case 0 (answered case1 (pos 0 ∷ [])) (answers (pos 0 ∷ []))
    ∷ case 0 (answered (with_knee case1 (knob (pos 25856) (pos 25856))) (pos 0 ∷ pos 25856 ∷ [])) (answers (pos 0 ∷ pos 25856 ∷ []))
    -- a refused sample stores nothing: the wave, the count and the output are those of the sample before it, and the next output is untouched
    ∷ case 0 (played (fresh case8 (pos 4000 ∷ pos 16777217 ∷ []))) (plays (report 14 1) 1 (pos 2000 ∷ pos 7 ∷ []) (minus 2000))
    ∷ []

-- the rule's answer, and not the shortcut's
shortcuts_avoided : map (λ (l : Line). l.found) shortcuts ≡ map (λ (l : Line). l.paper) shortcuts
unfolding working shortcuts answered played fresh
shortcuts_avoided = ap₂ ◌∷◌ refl refl

-- ---- request 5: what version 2 rounds, beside version 1 and its shortcuts; each first in version 1

-- by 3/4 in parallel and by 1/4 in series
version : ℕ → Join → ℕ → Record
version v k tap = versioned v (sourced k tap (elim k [ Series ↦ ohms 4000 | Parallel ↦ ohms 750 ]))

versions : List Line
versions =
    -- 3/4 and −3/4 of a microvolt
    case 0 (played (fresh case1 (pos 1 ∷ minus 1 ∷ []))) (plainly (pos 0 ∷ minus 2 ∷ []) (pos 0))
    ∷ case 0 (played (fresh (versioned 2 case1) (pos 1 ∷ minus 1 ∷ []))) (plainly (pos 0 ∷ pos 0 ∷ []) (pos 0))
    -- u is 599 1/4: h alone toward zero would give 600
    ∷ case 0 (played (fresh (version 1 Parallel 1) (pos 599 ∷ []))) (plainly (pos 1198 ∷ []) (pos 0))
    ∷ case 0 (played (fresh (version 2 Parallel 1) (pos 599 ∷ []))) (plainly (pos 1198 ∷ []) (pos 0))
    -- b1 is 450 1/2 and a3 is −899: version 1 sends 451 and 448, and from an unrounded b1 the second child would get 448 too
    ∷ case 0 (played (fresh (version 1 Series 0) (pos 501 ∷ []))) (plainly (pos 952 ∷ []) (pos 0))
    ∷ case 0 (played (fresh (version 1 Series 1) (pos 501 ∷ []))) (plainly (pos 1048 ∷ []) (pos 0))
    ∷ case 0 (played (fresh (version 2 Series 0) (pos 501 ∷ []))) (plainly (pos 951 ∷ []) (pos 0))
    ∷ case 0 (played (fresh (version 2 Series 1) (pos 501 ∷ []))) (plainly (pos 1049 ∷ []) (pos 0))
    ∷ []

versions_told : map (λ (l : Line). l.found) versions ≡ map (λ (l : Line). l.paper) versions
unfolding working versions version played plainly fresh
versions_told = ap₂ ◌∷◌ refl refl

-- ---- request 6: reversed leaves, each beside the same leaf as it was

reversals : List Line
reversals =
    -- case 6 with the meter's sign
    case 6 (played (fresh (reversing 1 (case6 1)) (pos 4000 ∷ []))) (plainly (pos 4500 ∷ []) (pos 0))
    -- an input alone: the leaf has 4000 and −2000, the diode −4000 and 2000
    ∷ case 0 (played (fresh (alone 0) (pos 4000 ∷ []))) (plainly (pos 2000 ∷ []) (pos 0))
    ∷ case 0 (played (fresh (reversing 0 (alone 0)) (pos 4000 ∷ []))) (plainly (pos 2000 ∷ []) (pos 0))
    ∷ case 0 (played (fresh (alone 255) (pos 4000 ∷ []))) (plainly (pos 2000 ∷ []) (pos 0))
    ∷ case 0 (played (fresh (reversing 0 (alone 255)) (pos 4000 ∷ []))) (plainly (minus 2000 ∷ []) (pos 0))
    -- a capacitor stores −86, then −84, and an inductor 2000, then 1000
    ∷ case 0 (played (fresh (reversing 1 capacitive) (pos 4000 ∷ pos 0 ∷ []))) (plainly (minus 86 ∷ minus 170 ∷ []) (minus 84))
    ∷ case 8 (played (fresh (reversing 1 case8) (pos 4000 ∷ pos 0 ∷ []))) (plainly (minus 2000 ∷ pos 1000 ∷ []) (pos 1000))
    -- a steady source works against the input
    ∷ case 0 (played (fresh (reversing 1 (sourced Series 0 (ohms 4000))) (pos 4000 ∷ []))) (plainly (pos 6800 ∷ []) (pos 0))
    ∷ case 0 (played (fresh (reversing 1 (sourced Series 1 (ohms 4000))) (pos 4000 ∷ []))) (plainly (pos 4800 ∷ []) (pos 0))
    ∷ case 0 (played (fresh (reversing 1 (sourced Series 255 (ohms 4000))) (pos 4000 ∷ []))) (plainly (minus 2000 ∷ []) (pos 0))
    ∷ []

reversals_told : map (λ (l : Line). l.found) reversals ≡ map (λ (l : Line). l.paper) reversals
unfolding working reversals played plainly fresh
reversals_told = ap₂ ◌∷◌ refl refl

-- ---- request 7: the segments of waves, and the segment of a run's last finished sample

-- a single with columns at −9, −6 and 0
leftward : Record
leftward = curved Single (column (minus 9) (pos 2) ∷ column (minus 6) (pos 4) ∷ column (pos 0) (pos 0) ∷ [])

-- curve K has its columns at 0, 1000 and 2000, and case 1 sends three quarters of a sample to the diode
segments : List Line
segments =
    -- a column is passed at its own x; a pair's wave by its magnitude
    case 0 (lit case1 (pos 0 ∷ pos 999 ∷ pos 1000 ∷ pos 1999 ∷ pos 2000 ∷ pos 67108864 ∷ [])) (lights (1 ∷ 1 ∷ 2 ∷ 2 ∷ 3 ∷ 3 ∷ []))
    ∷ case 0 (lit case1 (minus 1 ∷ minus 999 ∷ minus 1000 ∷ minus 1999 ∷ minus 2000 ∷ [])) (lights (1 ∷ 1 ∷ 2 ∷ 2 ∷ 3 ∷ []))
    -- 0 left of a single's first column
    ∷ case 0 (lit leftward (minus 10 ∷ minus 9 ∷ minus 7 ∷ minus 6 ∷ minus 1 ∷ pos 0 ∷ pos 6 ∷ [])) (lights (0 ∷ 1 ∷ 1 ∷ 2 ∷ 2 ∷ 3 ∷ 3 ∷ []))
    -- of several samples the last one's
    ∷ case 0 (shown (fresh case1 (pos 4000 ∷ []))) (light 3)
    ∷ case 0 (shown (fresh case1 (pos 4000 ∷ pos 1334 ∷ []))) (light 2)
    ∷ case 0 (shown (fresh case1 (pos 4000 ∷ pos 1334 ∷ minus 1332 ∷ []))) (light 1)
    -- where a sample is refused, the one's before it
    ∷ case 0 (shown (fresh case1 (pos 4000 ∷ pos 100 ∷ pos 16777217 ∷ []))) (light 1)
    ∷ case 0 (shown (fresh case1 (pos 100 ∷ pos 4000 ∷ minus 16777217 ∷ pos 100 ∷ []))) (light 3)
    -- no sample, and a first one that is refused
    ∷ case 0 (shown (fresh case1 [])) (light 255)
    ∷ case 0 (shown (fresh case1 (pos 16777217 ∷ pos 4000 ∷ []))) (light 255)
    -- refused with 13, with 12 and with 3
    ∷ case 0 (shown (ran (call case1 fresh_waves (pos 4000 ∷ []) []))) (light 255)
    ∷ case 0 (shown (ran (call case1 (set fresh_waves 1 (pos 1)) (pos 4000 ∷ []) (pos 7 ∷ [])))) (light 255)
    ∷ case 0 (shown (fresh (versioned 3 case1) (pos 4000 ∷ []))) (light 255)
    ∷ []

segments_told : map (λ (l : Line). l.found) segments ≡ map (λ (l : Line). l.paper) segments
unfolding working segments leftward lit shown light fresh
segments_told = ap₂ ◌∷◌ refl refl

-- ---- operands: a sample with a wave from each child, tapped at either and at the top; a capacitor's sign; the last word of a check

operands : List Line
operands =
    case 0 (played (fresh (sourced Parallel 0 (ohms 750)) (pos 4000 ∷ []))) (plainly (pos 2000 ∷ []) (pos 0))
    ∷ case 0 (played (fresh (sourced Parallel 1 (ohms 750)) (pos 4000 ∷ []))) (plainly (pos 2000 ∷ []) (pos 0))
    ∷ case 0 (played (fresh (sourced Parallel 255 (ohms 750)) (pos 4000 ∷ []))) (plainly (pos 2000 ∷ []) (pos 0))
    ∷ case 0 (played (fresh (sourced Series 0 (ohms 4000)) (pos 4000 ∷ []))) (plainly (pos 6200 ∷ []) (pos 0))
    ∷ case 0 (played (fresh (sourced Series 1 (ohms 4000)) (pos 4000 ∷ []))) (plainly (minus 4200 ∷ []) (pos 0))
    ∷ case 0 (played (fresh (sourced Series 255 (ohms 4000)) (pos 4000 ∷ []))) (plainly (minus 2000 ∷ []) (pos 0))
    -- 2^-20 F at 48,000 Hz is 2^20 / 96,000 Ω, in parallel with 1000 Ω; it stores 86, then 84
    ∷ case 0 (prepared capacitive) (top 181271 (fin false 760309726696435 (negsuc 45)))
    ∷ case 0 (played (fresh capacitive (pos 4000 ∷ pos 0 ∷ []))) (plainly (pos 86 ∷ pos 170 ∷ []) (pos 84))
    -- a check counts the last of its 127 words, and nothing after it
    ∷ case 0 (checks (check_of 2 (zeros 504 ++ bytes 4 5 ++ bytes 4 9))) (checks 8)
    ∷ []

operands_told : map (λ (l : Line). l.found) operands ≡ map (λ (l : Line). l.paper) operands
unfolding working operands prepared played plainly fresh
operands_told = ap₂ ◌∷◌ refl refl
