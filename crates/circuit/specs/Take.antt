-- Request 1, "Raw takes through the unit": samples of three bytes in, outputs of four bytes out, cut at any byte. What is carried from call to
-- call, rules 12, 15, 16 and 17 of a take, and what a call and the ending hand back, carry on and leave.
use Rattle.std.specs.Prelude.{ℕ, ◌+◌, ◌*◌, ◌/◌, ◌%◌, ◌^◌, ◌&&◌, ◌||◌, cond, List, [], ◌∷◌, ◌++◌, map, eqb, leb, ltb, length, take, drop, ℤ, pos, ◌-ℤ◌}
use Rattle.circuit.specs.Counting.{table}
use Rattle.circuit.specs.Numbers.{Report, Rule, Verdict, rule, judge, of, unless}
use Rattle.circuit.specs.Record.{no_row}
use Rattle.circuit.specs.Run.{fresh_waves, Played, play, Charged, charged_rules, no_segment, last_or, report_after}
use Rattle.circuit.specs.File.{number_at, signed_bytes, zeros, concat}
use Rattle.circuit.specs.declared.Carried.{Carried}
use Rattle.circuit.specs.declared.Record.{Record}

-- bytes of a sample and of an output
abbrev pub sample_length : ℕ
sample_length = 3

abbrev pub output_length : ℕ
output_length = 4

-- bytes of a sample that is not whole yet
abbrev pub left_limit : ℕ
left_limit = 2

-- whole samples of a take
abbrev pub take_limit : ℕ
take_limit = 2 ^ 62

-- ---- samples from bytes, outputs to bytes

-- signed, three bytes; one microvolt is one step
abbrev pub signed : ℕ → ℤ
signed n = cond (ltb n (2 ^ 23)) (pos n) (pos n -ℤ pos (2 ^ 24))

abbrev pub sample_at : ℕ → List ℕ → ℤ
sample_at i s = signed (number_at sample_length (sample_length * i) s % 2 ^ 24)

-- the whole samples, and the bytes left over after them
unfoldable pub samples_of : List ℕ → List ℤ
samples_of s = table (λ i. sample_at i s) (length s / sample_length)

unfoldable pub left_over : List ℕ → List ℕ
left_over s = drop (sample_length * (length s / sample_length)) s

-- half microvolts, signed
unfoldable pub output_bytes : List ℤ → List ℕ
output_bytes vs = concat (map signed_bytes vs)

-- ---- a take under way: its circuit, and what is carried from call to call

pub record UnderWay : Type 0 where
  pub circuit : Record
  pub carried : Carried

abbrev pub take_of : Record → Carried → UnderWay
take_of r c = record { circuit = r; carried = c }

abbrev pub stored : UnderWay → Charged
stored t = record { circuit = t.circuit; waves = t.carried.state.waves }

-- the start of a take
unfoldable pub fresh_take : Carried
fresh_take = record { state = record { waves = fresh_waves }; left = zeros left_limit; count = 0; done = 0; held = 0 }

-- 12 has three more causes, at no row
unfoldable pub carried_rule : Carried → Verdict
carried_rule c = unless (leb c.count left_limit && (eqb c.held 0 || eqb c.held 15) && leb c.done take_limit) no_row

-- 15: a sample was refused in an earlier call; its index is the number of samples done
unfoldable pub held_rule : Carried → Verdict
held_rule c = unless (eqb c.held 0) c.done

-- 3 to 12, and the refusal that is held
unfoldable pub take_rules : List (Rule UnderWay)
take_rules = of stored charged_rules ++ (rule 12 (λ t. carried_rule t.carried) ∷ rule 15 (λ t. held_rule t.carried) ∷ [])

-- ---- a call: the take, its bytes, and what the room for its outputs holds before

pub record Feeding : Type 0 where
  pub circuit : Record
  pub carried : Carried
  pub bytes : List ℕ
  pub room : List ℕ

abbrev pub feeding : Record → Carried → List ℕ → List ℕ → Feeding
feeding r c bytes room = record { circuit = r; carried = c; bytes = bytes; room = room }

abbrev pub under_way : Feeding → UnderWay
under_way f = take_of f.circuit f.carried

-- the bytes now available: those left over before, and the new ones
abbrev pub available : Feeding → List ℕ
available f = take f.carried.count f.carried.left ++ f.bytes

-- 16
unfoldable pub room_rule : Feeding → Verdict
room_rule f = unless (eqb (length f.room) (output_length * length (samples_of (available f)))) 0

unfoldable pub feed_rules : List (Rule Feeding)
feed_rules = of under_way take_rules ++ (rule 16 room_rule ∷ [])

-- ---- what a call hands back and carries on, and the room afterwards

-- the segment is that of the last sample that this call finished; a take carries none on
pub record Fed : Type 0 where
  pub handed_back : Report
  pub samples : ℕ
  pub segment : ℕ
  pub carried : Carried
  pub room : List ℕ

-- after a refused sample no byte is left over
abbrev pub left_after : Feeding → Played → List ℕ
left_after f p = cond (eqb p.number 0) (left_over (available f)) []

abbrev pub carried_on : Feeding → Played → Carried
carried_on f p = record {
  state = record { waves = p.waves };
  left = take left_limit (left_after f p ++ zeros left_limit);
  count = length (left_after f p);
  done = f.carried.done + length p.outputs;
  held = p.number;
}

-- the place of a refused sample is its index from the start of the take
abbrev pub taken : Feeding → Played → Fed
taken f p = record {
  handed_back = report_after (f.carried.done + length p.outputs) p.number;
  samples = length p.outputs;
  segment = last_or no_segment p.segments;
  carried = carried_on f p;
  room = output_bytes p.outputs ++ drop (output_length * length p.outputs) f.room;
}

abbrev pub nothing_taken : Feeding → Report → Fed
nothing_taken f n = record { handed_back = n; samples = 0; segment = no_segment; carried = f.carried; room = f.room }

unfoldable pub fed : Feeding → Fed
fed f =
    let first = judge feed_rules f in
    cond (eqb first.number 0) (taken f (play f.circuit f.carried.state.waves (samples_of (available f)))) (nothing_taken f first)

-- ---- the ending, which carries nothing on

-- 17
unfoldable pub end_rule : Carried → Verdict
end_rule c = unless (eqb c.count 0) c.done

unfoldable pub end_rules : List (Rule UnderWay)
end_rules = take_rules ++ (rule 17 (λ t. end_rule t.carried) ∷ [])

unfoldable pub ended : UnderWay → Report
ended t = judge end_rules t
