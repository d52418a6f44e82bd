-- A run over raw bytes: their whole samples, three bytes each, as many as the room has places for, with outputs of four bytes.
use Rattle.std.specs.Prelude.{ℕ, ◌*◌, ◌/◌, ◌≡◌, cond, List, ◌++◌, eqb, length, take, drop, ℤ}
use Rattle.circuit.specs.Numbers.{Report, judge, handed}
use Rattle.circuit.specs.Promises.{shown_segment}
use Rattle.circuit.specs.Run.{Played, play, Charged, charged_rules, no_segment, last_or, report_after}
use Rattle.circuit.specs.Take.{output_length, samples_of, output_bytes}
use Rattle.circuit.specs.declared.Progress.{Progress}
use Rattle.circuit.specs.declared.Record.{Record}

pub record RawCall : Type 0 where
  pub circuit : Record
  pub waves : List ℤ
  pub bytes : List ℕ
  pub room : List ℕ

abbrev pub raw_call : Record → List ℤ → List ℕ → List ℕ → RawCall
raw_call r waves bytes room = record { circuit = r; waves = waves; bytes = bytes; room = room }

abbrev pub raw_charged : RawCall → Charged
raw_charged c = record { circuit = c.circuit; waves = c.waves }

-- the whole samples, but no more than so many
abbrev pub fitting : ℕ → List ℕ → List ℤ
fitting most bytes = take most (samples_of bytes)

-- those that there is room for
abbrev pub raw_input : RawCall → List ℤ
raw_input c = fitting (length c.room / output_length) c.bytes

pub record RanRaw : Type 0 where
  pub handed_back : Report
  pub samples : ℕ
  pub segment : ℕ
  pub waves : List ℤ
  pub room : List ℕ

abbrev pub raw_worked : RawCall → Played → RanRaw
raw_worked c p = record {
  handed_back = report_after (length p.outputs) p.number;
  samples = length p.outputs;
  segment = last_or no_segment p.segments;
  waves = p.waves;
  room = output_bytes p.outputs ++ drop (output_length * length p.outputs) c.room;
}

abbrev pub raw_turned_away : RawCall → Report → RanRaw
raw_turned_away c n = record { handed_back = n; samples = 0; segment = no_segment; waves = c.waves; room = c.room }

unfoldable pub ran_raw : RawCall → RanRaw
ran_raw c =
    let first = judge charged_rules (raw_charged c) in
    cond (eqb first.number 0) (raw_worked c (play c.circuit c.waves (raw_input c))) (raw_turned_away c first)

-- what a raw run promises, with what the room holds afterwards
pub record RunsRaw (c : RawCall) (p : Progress) (after : List ℕ) : Type 0 where
  pub number : handed p.answer ≡ (ran_raw c).handed_back
  pub samples : p.done ≡ (ran_raw c).samples
  pub segment : p.segment ≡ shown_segment (ran_raw c).segment
  pub waves : p.state.waves ≡ (ran_raw c).waves
  pub room : after ≡ (ran_raw c).room
