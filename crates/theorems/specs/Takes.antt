-- A take cut at any byte: a call for each piece of its bytes, each from what the one before it carried on, and then the ending. What it comes
-- to is one run over all the whole samples; and after a refused sample nothing more happens.
use Rattle.std.specs.Prelude.{ℕ, ◌+◌, ◌*◌, ◌≡◌, cond, List, [], ◌∷◌, ◌++◌, eqb, length, take, drop, ℤ}
use Rattle.circuit.specs.Numbers.{Report, report}
use Rattle.circuit.specs.Run.{call, ran}
use Rattle.circuit.specs.File.{zeros}
use Rattle.circuit.specs.Take.{output_length, left_limit, samples_of, left_over, output_bytes, take_of, Feeding, feeding, available, Fed, nothing_taken, fed, ended}
use Rattle.circuit.specs.declared.Carried.{Carried}
use Rattle.circuit.specs.declared.Record.{Record}
use Rattle.theorems.specs.Pieces.{later}

-- the bytes of a call, of any number, and what the room for its outputs holds before
pub record TakePiece : Type 0 where
  pub bytes : List ℕ
  pub room : List ℕ

unfoldable pub all_bytes : List TakePiece → List ℕ
all_bytes [] = []
all_bytes (p ∷ ps) = p.bytes ++ all_bytes ps

unfoldable pub all_room : List TakePiece → List ℕ
all_room [] = []
all_room (p ∷ ps) = p.room ++ all_room ps

-- ---- a call for each piece

-- What the last call and the ending hand back, the samples of all the calls, the segment of the last call that finished a sample, what is carried
-- at the end, and the rooms of all the calls. Each call is the last one of the pieces up to its own.
pub record Outcome : Type 0 where
  pub handed_back : Report
  pub ending : Report
  pub samples : ℕ
  pub segment : ℕ
  pub carried : Carried
  pub room : List ℕ

abbrev pub last_call : Record → Fed → Outcome
last_call r f = record {
  handed_back = f.handed_back;
  ending = ended (take_of r f.carried);
  samples = f.samples;
  segment = f.segment;
  carried = f.carried;
  room = f.room;
}

infixr 5 ◌ahead◌
abbrev pub ◌ahead◌ : Fed → Outcome → Outcome
f ahead rest = record {
  handed_back = rest.handed_back;
  ending = rest.ending;
  samples = f.samples + rest.samples;
  segment = cond (eqb rest.samples 0) f.segment rest.segment;
  carried = rest.carried;
  room = f.room ++ rest.room;
}

abbrev pub piece_call : Record → Carried → TakePiece → Feeding
piece_call r c p = feeding r c p.bytes p.room

-- a first piece and those after it
unfoldable pub in_calls : Record → Carried → TakePiece → List TakePiece → Outcome
in_calls r c p [] = last_call r (fed (piece_call r c p))
in_calls r c p (q ∷ qs) = let f = fed (piece_call r c p) in f ahead in_calls r f.carried q qs

-- until a sample is refused, the room of each call is four bytes for each whole sample then available
abbrev pub Roomy : Record → Carried → List TakePiece → Type 0
Roomy r c [] = Unit {0}
Roomy r c (p ∷ ps) =
    (c.held ≡ 0 → length p.room ≡ output_length * length (samples_of (available (piece_call r c p)))) × Roomy r (fed (piece_call r c p)).carried ps

-- ---- one run

-- the bytes left over before, and all the new ones
abbrev pub joined : Carried → List ℕ → List ℕ
joined c bytes = take c.count c.left ++ bytes

-- A run over all the whole samples. The place of a refused one is its index from the start of the take, and every byte after it is dropped;
-- where none is refused, bytes left over are 17 at the end.
unfoldable pub in_one_run : Record → Carried → List ℕ → List ℕ → List ℤ → Outcome
in_one_run r c bytes room output =
    let run = ran (call r c.state.waves (samples_of (joined c bytes)) output) in
    let told = later c.done run.handed_back in
    let left = cond (eqb told.number 0) (left_over (joined c bytes)) [] in
    record {
      handed_back = told;
      ending = cond (eqb (length left) 0) told (report 17 (c.done + run.samples));
      samples = run.samples;
      segment = run.segment;
      carried = record {
        state = record { waves = run.waves };
        left = take left_limit (left ++ zeros left_limit);
        count = length left;
        done = c.done + run.samples;
        held = told.number;
      };
      room = output_bytes (take run.samples run.output) ++ drop (output_length * run.samples) room;
    }

-- ---- after a refused sample

-- every call, whatever its bytes and its room, and the ending hand back `told`; the call takes and writes nothing, so that the next is such a call
pub record Settled (r : Record) (c : Carried) (told : Report) : Type 0 where
  pub calls : (bytes room : List ℕ) → fed (feeding r c bytes room) ≡ nothing_taken (feeding r c bytes room) told
  pub ending : ended (take_of r c) ≡ told
