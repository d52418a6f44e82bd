-- A sample or a run beside another, of another circuit or from other waves: its outputs are those of the other, each changed by `turn`, its
-- waves are those of the other, changed by `carry`, its segments are those of the other, and it is refused where the other is and with the same
-- number.
use Rattle.std.specs.Prelude.{ℕ, ◌<◌, ◌≡◌, List, map, take, get_or, ℤ, pos}
use Rattle.circuit.specs.Numbers.{handed}
use Rattle.circuit.specs.Sample.{Sampled, refused, finished}
use Rattle.circuit.specs.Run.{Played, Ran}
use Rattle.circuit.specs.declared.Progress.{Progress}

module _ (turn : ℤ → ℤ) (carry : List ℤ → List ℤ) where
  abbrev pub changed : Sampled → Sampled
  changed (refused n) = refused n
  changed (finished v s next) = finished (turn v) s (carry next)

  abbrev pub changed_play : Played → Played
  changed_play p = record { number = p.number; outputs = map turn p.outputs; segments = p.segments; waves = carry p.waves }

  -- two runs: the same number, place, samples done and segment; the waves, and the outputs of the samples done, changed
  pub record Changed (a b : Ran) : Type 0 where
    pub handed_back : b.handed_back ≡ a.handed_back
    pub samples : b.samples ≡ a.samples
    pub segment : b.segment ≡ a.segment
    pub waves : b.waves ≡ carry a.waves
    pub outputs : take b.samples b.output ≡ map turn (take a.samples a.output)

  -- the same in a run's words, with what the two outputs hold afterwards
  pub record Answers (p q : Progress) (out out' : List ℤ) : Type 0 where
    pub number : handed q.answer ≡ handed p.answer
    pub samples : q.done ≡ p.done
    pub segment : q.segment ≡ p.segment
    pub waves : q.state.waves ≡ carry p.state.waves
    pub outputs : (i : ℕ) → i < p.done → get_or out' i (pos 0) ≡ turn (get_or out i (pos 0))
