-- The bench's circuits, as records. Rows are numbered in the order named, and the first named is the first child.
use Prim.Native.Nat.{ℕ, ◌-◌}
use mathlib.Core.Bool.{true, false}
use mathlib.Core.List.{List, [], ◌∷◌, ◌++◌}
use lib.ListN.{length, set, replicate}
use lib.IntN.{ℤ, pos, negsuc, neg_ℤ}
use lib.Ieee.{Float, fin, binary64, of_int}
use Rattle.circuit.specs.Record.{row_limit, column_limit, blank_row, part_at}
use Rattle.circuit.specs.Run.{Call, Ran, call, fresh_waves, ran}
use Rattle.circuit.specs.declared.Element.TheVariants.{Resistor, Capacitor, Inductor, Input, Steady}
use Rattle.circuit.specs.declared.Join.{Join}
use Rattle.circuit.specs.declared.Join.TheVariants.{Series, Parallel}
use Rattle.circuit.specs.declared.Part.{Part}
use Rattle.circuit.specs.declared.Part.TheVariants.{Leaf, Adaptor}
use Rattle.circuit.specs.declared.Row.{Row}
use Rattle.circuit.specs.declared.Column.{Column}
use Rattle.circuit.specs.declared.CurveKind.{CurveKind}
use Rattle.circuit.specs.declared.CurveKind.TheVariants.{Pair}
use Rattle.circuit.specs.declared.Record.{Record}

-- ---- numbers, parts and columns

abbrev pub minus : ℕ → ℤ
minus n = neg_ℤ (pos n)

abbrev pub ohms : ℕ → Float
ohms n = of_int binary64 (pos n)

abbrev pub input : Float → Part
input r = Leaf (Input r)

abbrev pub resistor : Float → Part
resistor r = Leaf (Resistor r)

abbrev pub capacitor : Float → Part
capacitor c = Leaf (Capacitor c)

abbrev pub steady : Float → ℤ → Part
steady r v = Leaf (Steady r v)

abbrev pub inductor : Float → Part
inductor l = Leaf (Inductor l)

abbrev pub joins : Join → ℕ → ℕ → Part
joins k a b = Adaptor (record { join = k; first = a; second = b })

abbrev pub column : ℤ → ℤ → Column
column x y = record { x = x; y = y }

-- ---- a record of parts and columns, blank after them

abbrev rows_of : List Part → List Row
rows_of [] = []
rows_of (p ∷ ps) = record { part = p; reversed = false } ∷ rows_of ps

-- of version 1
abbrev pub circuit : List Part → ℕ → CurveKind → List Column → Float → Record
circuit ps tap kind cs q = record {
  version = 1;
  rate = 48000;
  count = length ps;
  tap = tap;
  rows = rows_of ps ++ replicate (row_limit - length ps) blank_row;
  kind = kind;
  width = length cs;
  columns = cs ++ replicate (column_limit - length cs) (column (pos 0) (pos 0));
  resistance = q;
}

-- a record in another version and with other rows
abbrev remade : ℕ → List Row → Record → Record
remade version rows r = record {
  version = version;
  rate = r.rate;
  count = r.count;
  tap = r.tap;
  rows = rows;
  kind = r.kind;
  width = r.width;
  columns = r.columns;
  resistance = r.resistance;
}

abbrev pub versioned : ℕ → Record → Record
versioned version r = remade version r.rows r

-- with row j reversed
abbrev pub reversing : ℕ → Record → Record
reversing j r = remade r.version (set r.rows j (record { part = part_at r j; reversed = true })) r

-- ---- the bench's curve and circuits

abbrev pub curve_k : List Column
curve_k = column (pos 0) (pos 0) ∷ column (pos 1000) (pos 1000) ∷ column (pos 2000) (pos 0) ∷ []

-- input 1000 Ω alone
abbrev pub alone : ℕ → Record
alone tap = circuit (input (ohms 1000) ∷ []) tap Pair curve_k (ohms 1000)

-- input 1000 Ω and resistor 3000 Ω, joined
abbrev pub divider : Join → ℕ → Float → Record
divider k tap q = circuit (input (ohms 1000) ∷ resistor (ohms 3000) ∷ joins k 0 1 ∷ []) tap Pair curve_k q

-- input 1000 Ω and a steady source of 600 µV behind 3000 Ω, joined
abbrev pub sourced : Join → ℕ → Float → Record
sourced k tap q = circuit (input (ohms 1000) ∷ steady (ohms 3000) (pos 600) ∷ joins k 0 1 ∷ []) tap Pair curve_k q

abbrev pub case1 : Record
case1 = divider Parallel 1 (ohms 750)

abbrev pub case6 : ℕ → Record
case6 tap = divider Series tap (ohms 4000)

-- 0.0078125 H is 1/128; 187.5 Ω is 375/2
abbrev pub case8 : Record
case8 =
    circuit (input (ohms 250) ∷ inductor (fin false 1 (negsuc 6)) ∷ joins Parallel 0 1 ∷ []) 1 Pair curve_k (fin false 375 (negsuc 0))

-- 2^-20 F
abbrev pub capacitive : Record
capacitive =
    circuit (input (ohms 1000) ∷ capacitor (fin false 1 (negsuc 19)) ∷ joins Parallel 0 1 ∷ []) 1 Pair curve_k (fin false 173 (negsuc 3))

-- case 1 with other columns
abbrev pub curved : CurveKind → List Column → Record
curved kind cs = circuit (input (ohms 1000) ∷ resistor (ohms 3000) ∷ joins Parallel 0 1 ∷ []) 1 kind cs (ohms 750)

-- ---- a run from a fresh state, its output in a buffer of sevens

abbrev pub calling : Record → List ℤ → List ℤ → Call
calling r waves xs = call r waves xs (replicate (length xs) (pos 7))

unfoldable pub fresh : Record → List ℤ → Ran
fresh r xs = ran (calling r fresh_waves xs)
