-- The samples of a run over a plan: what they come to, for every circuit that the plan is of.
use Rattle.std.specs.Prelude.{◌≡◌, List, ◌++◌, ℤ, length, drop}
use Rattle.circuit.specs.Numbers.{passes, handed}
use Rattle.circuit.specs.Promises.{shown_segment}
use Rattle.circuit.specs.Run.{Played, play, stored_waves_rule, no_segment, last_or, report_after}
use Rattle.circuit.specs.declared.Prepared.{Prepared}
use Rattle.circuit.specs.declared.Progress.{Progress}
use Rattle.circuit.specs.declared.Record.{Record}
use Rattle.engine.specs.declared.play.Stop.{Stop}
use Rattle.engine.specs.declared.plan.Plan.{Plan}
use Rattle.engine.specs.Sample.{Ready, Fixed, Loaded}

-- `front` is written over the first of what was there before, and what is after it is as it was
abbrev pub in_front : {A : Type 0} → List A → List A → List A
in_front front before = front ++ drop (length front) before

module _ {A : Type 0} (shown : List ℤ → List A) where
  -- why no more samples are done, how many are, and the segment of the last; what `shown` makes of their outputs is written, and the waves after
  -- them are loaded
  pub record Ends (r : Record) (p : Played) (before : List A) (s : Stop) (ups : List ℤ) (out : List A) : Type 0 where
    pub number : handed s.answer ≡ report_after (length p.outputs) p.number
    pub samples : s.done ≡ length p.outputs
    pub segment : s.segment ≡ shown_segment (last_or no_segment p.segments)
    pub written : out ≡ in_front (shown p.outputs) before
    pub loaded : Loaded r p.waves ups

  -- the samples xs come to what the definition plays
  pub record Plays (p : Plan) (ups xs : List ℤ) (before : List A) (s : Stop) (after : List ℤ) (out : List A) : Type 0 where
    pub plays : (r : Record) (ws : List ℤ) → Fixed p r → Loaded r ws ups → Ends r (play r ws xs) before s after out

  -- what a run hands back of the samples, and with the waves after them
  pub record Comes (p : Played) (before : List A) (s : Progress) (out : List A) : Type 0 where
    pub number : handed s.answer ≡ report_after (length p.outputs) p.number
    pub samples : s.done ≡ length p.outputs
    pub segment : s.segment ≡ shown_segment (last_or no_segment p.segments)
    pub waves : s.state.waves ≡ p.waves
    pub written : out ≡ in_front (shown p.outputs) before

-- the rows after set-up and the stored waves, of a circuit that 3 to 12 do not refuse
pub record Playable (r : Record) (prepared : List Prepared) (ws : List ℤ) : Type 0 where
  pub ready : Ready r prepared
  pub waves : stored_waves_rule r ws ≡ passes
