-- What the public functions promise: of all that goes in, what is handed back and what every lent buffer holds afterwards.
use Rattle.std.specs.Prelude.{ℕ, ◌≡◌, List, ◌++◌, map, ℤ, Float, length, drop, Result, IfOk, ⊤, eqb, cond, Option, None, Some}
use Rattle.circuit.specs.Numbers.{judge, handed}
use Rattle.circuit.specs.SetUp.{set_up_report, set_up_rows}
use Rattle.circuit.specs.Run.{Charged, charged_rules, Call, ran, no_segment}
use Rattle.circuit.specs.File.{read_report, read_record, WriteCall, write_report, buffer_after}
use Rattle.circuit.specs.Listing.{listing}
use Rattle.circuit.specs.Take.{UnderWay, Feeding, fed, ended}
use Rattle.circuit.specs.Knee.{build_report, built_kind, built_width, built_columns, Turning, turn_report, buffer_turned}
use Rattle.circuit.specs.declared.Knob.{Knob}
use Rattle.circuit.specs.declared.Refusal.{Refusal}
use Rattle.circuit.specs.declared.Record.{Record}
use Rattle.circuit.specs.declared.Prepared.{Prepared}
use Rattle.circuit.specs.declared.Checked.{Checked}
use Rattle.circuit.specs.declared.Opened.{Opened}
use Rattle.circuit.specs.declared.Listed.{Listed}
use Rattle.circuit.specs.declared.Progress.{Progress}
use Rattle.circuit.specs.declared.Feed.{Feed}
use Rattle.circuit.specs.declared.Built.{Built}

-- set-up of a record: its rows, prepared, where nothing is refused
pub record SetsUp (r : Record) (s : Result (List Prepared) Refusal) : Type 0 where
  pub number : handed s ≡ set_up_report r
  pub rows : IfOk s (λ rows. rows ≡ set_up_rows r)

-- prepared rows as lists
abbrev pub resistances_of : List Prepared → List Float
resistances_of = map (λ q. q.resistance)

abbrev pub ratios_of : List Prepared → List ℕ
ratios_of = map (λ q. q.ratio)

-- set-up, with its rows as lists
pub record Finds (r : Record) (s : Result (List Prepared) Refusal) : Type 0 where
  pub number : handed s ≡ set_up_report r
  pub resistances : IfOk s (λ rows. resistances_of rows ≡ resistances_of (set_up_rows r))
  pub ratios : IfOk s (λ rows. ratios_of rows ≡ ratios_of (set_up_rows r))

-- 3 to 12 of a circuit with its stored waves, and what set-up prepares
pub record Charges (k : Charged) (s : Checked) : Type 0 where
  pub number : handed s.answer ≡ judge charged_rules k
  pub rows : s.rows ≡ set_up_rows k.circuit

-- reading a file's bytes
pub record Reads (bytes : List ℕ) (s : Result Record Refusal) : Type 0 where
  pub number : handed s ≡ read_report bytes
  pub circuit : IfOk s (λ r. r ≡ read_record bytes)

-- opening a file's bytes: what reading gives, and set-up's rows
pub record Opens (bytes : List ℕ) (s : Result Opened Refusal) : Type 0 where
  pub number : handed s ≡ read_report bytes
  pub circuit : IfOk s (λ o. o.circuit ≡ read_record bytes)
  pub rows : IfOk s (λ o. o.rows ≡ set_up_rows (read_record bytes))

-- writing, with what the buffer holds afterwards
pub record Writes (c : WriteCall) (s : Result ⊤ Refusal) (after : List ℕ) : Type 0 where
  pub number : handed s ≡ write_report c
  pub buffer : after ≡ buffer_after c

-- the segment that is shown: none where no sample was finished, which the paper's number 255 says
abbrev pub shown_segment : ℕ → Option ℕ
shown_segment n = cond (eqb n no_segment) None (Some n)

abbrev pub segment_number : Option ℕ → ℕ
segment_number None = no_segment
segment_number (Some n) = n

-- a run, with what the output holds afterwards
pub record Runs (c : Call) (p : Progress) (after : List ℤ) : Type 0 where
  pub number : handed p.answer ≡ (ran c).handed_back
  pub samples : p.done ≡ (ran c).samples
  pub segment : p.segment ≡ shown_segment (ran c).segment
  pub waves : p.state.waves ≡ (ran c).waves
  pub output : after ≡ (ran c).output

-- listing a file's bytes: what reading answers, the length of the text, and what the buffer holds afterwards; bytes after the text stay
-- as they were
pub record Lists (bytes before : List ℕ) (l : Listed) (after : List ℕ) : Type 0 where
  pub number : handed l.answer ≡ read_report bytes
  pub size : l.length ≡ length (listing bytes)
  pub text : after ≡ listing bytes ++ drop (length (listing bytes)) before

-- a call of a take, with what the room holds afterwards
pub record Feeds (f : Feeding) (s : Feed) (after : List ℕ) : Type 0 where
  pub number : handed s.answer ≡ (fed f).handed_back
  pub samples : s.done ≡ (fed f).samples
  pub segment : s.segment ≡ shown_segment (fed f).segment
  pub carried : s.carried ≡ (fed f).carried
  pub room : after ≡ (fed f).room

-- the ending of a take
pub record Ends (t : UnderWay) (s : Result ⊤ Refusal) : Type 0 where
  pub number : handed s ≡ ended t

-- a curve built from a knob
pub record Builds (k : Knob) (s : Result Built Refusal) : Type 0 where
  pub number : handed s ≡ build_report k
  pub kind : IfOk s (λ b. b.kind ≡ built_kind k)
  pub width : IfOk s (λ b. b.width ≡ built_width k)
  pub columns : IfOk s (λ b. b.columns ≡ built_columns k)

-- a circuit file with its curve built anew, with what the buffer holds afterwards
pub record Turns (t : Turning) (s : Result ⊤ Refusal) (after : List ℕ) : Type 0 where
  pub number : handed s ≡ turn_report t
  pub buffer : after ≡ buffer_turned t
