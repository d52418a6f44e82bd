-- A take, worked out on the definitions: samples and outputs as bytes, a call that takes a sample in two pieces, and every number that a take
-- hands back, in its order.
use Prim.Native.Nat.{ℕ, ◌+◌, ◌^◌}
use mathlib.Core.Path.{◌≡◌, refl, ap₂}
use mathlib.Core.List.{List, [], ◌∷◌, map}
use lib.ListN.{set, replicate}
use lib.IntN.{pos}
use Rattle.circuit.specs.Numbers.{Report, report, done}
use Rattle.circuit.specs.Run.{fresh_waves, stopped}
use Rattle.circuit.specs.Take.{samples_of, left_over, output_bytes, take_of, fresh_take, Feeding, feeding, available, taken, fed, ended}
use Rattle.circuit.specs.declared.Carried.{Carried}
use Rattle.circuit.specs.declared.Record.{Record}
use Rattle.circuit.proofs.Working.{working}
use Rattle.circuit.proofs.Circuits.{minus, case1, curved}

-- ---- bytes

samples_read : samples_of (160 ∷ 15 ∷ 0 ∷ 255 ∷ 255 ∷ 255 ∷ 255 ∷ 255 ∷ 127 ∷ 0 ∷ 0 ∷ 128 ∷ 9 ∷ []) ≡ pos 4000 ∷ minus 1 ∷ pos 8388607 ∷ minus 8388608 ∷ []
unfolding working
samples_read = refl

bytes_left : left_over (160 ∷ 15 ∷ 0 ∷ 8 ∷ 9 ∷ []) ≡ 8 ∷ 9 ∷ []
unfolding working
bytes_left = refl

outputs_written : output_bytes (pos 2000 ∷ minus 1000 ∷ []) ≡ 208 ∷ 7 ∷ 0 ∷ 0 ∷ 24 ∷ 252 ∷ 255 ∷ 255 ∷ []
unfolding working
outputs_written = refl

-- ---- what is carried

-- bytes left over, samples done and a refusal held, and nothing stored
abbrev carrying : ℕ → ℕ → ℕ → Carried
carrying count n held = record { state = record { waves = fresh_waves }; left = 8 ∷ 9 ∷ []; count = count; done = n; held = held }

-- one byte left over and four new ones, in a room of four: a whole sample, and two bytes after it
abbrev calling : Feeding
calling = feeding case1 (carrying 1 40 0) (1 ∷ 2 ∷ 3 ∷ 4 ∷ []) (7 ∷ 7 ∷ 7 ∷ 7 ∷ [])

sample_joined : available calling ≡ 8 ∷ 1 ∷ 2 ∷ 3 ∷ 4 ∷ []
sample_joined = refl

-- the sample is done, with output 5, in segment 2
done_taken : taken calling (record { number = 0; outputs = pos 5 ∷ []; segments = 2 ∷ []; waves = [] })
    ≡ record {
      handed_back = done;
      samples = 1;
      segment = 2;
      carried = record { state = record { waves = [] }; left = 3 ∷ 4 ∷ []; count = 2; done = 41; held = 0 };
      room = 5 ∷ 0 ∷ 0 ∷ 0 ∷ [];
    }
unfolding working
done_taken = refl

-- it is refused: its index counts from the start of the take, the bytes after it are dropped, and its output's place is as it was
refused_taken : taken calling (stopped 15 [])
    ≡ record {
      handed_back = report 15 40;
      samples = 0;
      segment = 255;
      carried = record { state = record { waves = [] }; left = 0 ∷ 0 ∷ []; count = 0; done = 40; held = 15 };
      room = 7 ∷ 7 ∷ 7 ∷ 7 ∷ [];
    }
unfolding working
refused_taken = refl

-- ---- numbers, in their order

record Line : Type 0 where
  found : Report
  paper : Report

abbrev gives : Report → Report → Line
gives f p = record { found = f; paper = p }

-- a call with so many bytes, and room for so many
feeds : Record → Carried → ℕ → ℕ → Report
feeds r c bytes room = (fed (feeding r c (replicate bytes 1) (replicate room 7))).handed_back

ends : Record → Carried → Report
ends r c = ended (take_of r c)

-- a wave stored past the rows in use, three bytes left over and a refusal held
stray : Carried
stray = record { state = record { waves = set fresh_waves 30 (pos 1) }; left = 8 ∷ 9 ∷ []; count = 3; done = 0; held = 15 }

numbers : List Line
numbers =
    -- 3 to 11, then the rows of 12, then what is carried beside the waves
    gives (feeds (curved case1.kind []) stray 3 0) (report 4 0)
    ∷ gives (feeds case1 stray 3 0) (report 12 30)
    ∷ gives (feeds case1 (carrying 3 0 15) 3 0) (report 12 255)
    ∷ gives (feeds case1 (carrying 0 0 14) 0 0) (report 12 255)
    ∷ gives (feeds case1 (carrying 0 (2 ^ 62 + 1) 15) 0 0) (report 12 255)
    -- the refusal held, whatever the room
    ∷ gives (feeds case1 (carrying 2 (2 ^ 62) 15) 1 4) (report 15 (2 ^ 62))
    ∷ gives (feeds case1 (carrying 2 6 15) 1 0) (report 15 6)
    -- room for a sample that is not whole, and none for one that is
    ∷ gives (feeds case1 (carrying 1 (2 ^ 62) 0) 1 4) (report 16 0)
    ∷ gives (feeds case1 (carrying 1 6 0) 2 0) (report 16 0)
    ∷ gives (feeds case1 (carrying 2 6 0) 0 0) done
    -- the ending: the same but for 16, and then the bytes left over
    ∷ gives (ends case1 (carrying 3 0 15)) (report 12 255)
    ∷ gives (ends case1 (carrying 2 6 15)) (report 15 6)
    ∷ gives (ends case1 (carrying 1 6 0)) (report 17 6)
    ∷ gives (ends case1 fresh_take) done
    ∷ []

-- with its first line apart, the table is worked out once, and not once for each side
numbers_handed : map (λ (l : Line). l.found) numbers ≡ map (λ (l : Line). l.paper) numbers
unfolding working numbers feeds ends stray
numbers_handed = ap₂ ◌∷◌ refl refl
