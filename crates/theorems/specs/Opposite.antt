-- Positive and negative hits, which request 5 makes alike: a run beside the run of the opposite samples from the opposite waves.
use Rattle.std.specs.Prelude.{ℕ, ◌<◌, ◌≡◌, List, map, get_or, ℤ, pos, ◌+ℤ◌, neg_ℤ}
use Rattle.circuit.specs.Numbers.{handed}
use Rattle.circuit.specs.Record.{part_at}
use Rattle.circuit.specs.Sample.{Rounding}
use Rattle.circuit.specs.Run.{Ran}
use Rattle.circuit.specs.declared.Element.TheVariants.{Resistor, Capacitor, Inductor, Input, Steady}
use Rattle.circuit.specs.declared.Part.{Part}
use Rattle.circuit.specs.declared.Part.TheVariants.{Blank, Leaf, Adaptor}
use Rattle.circuit.specs.declared.CurveKind.TheVariants.{Pair}
use Rattle.circuit.specs.declared.Record.{Record}
use Rattle.circuit.specs.declared.Progress.{Progress}
use Rattle.theorems.specs.Changed.{Changed}

-- ---- what turns over

-- opposite waves are rounded to opposite values
pub record Odd (ρ : Rounding) : Type 0 where
  pub u : (g : ℕ) (a1 a2 : ℤ) → ρ.u g (neg_ℤ a1) (neg_ℤ a2) ≡ neg_ℤ (ρ.u g a1 a2)
  pub b1 : (g : ℕ) (a1 a2 a3 : ℤ) → ρ.b1 g (neg_ℤ a1) (neg_ℤ a2) (neg_ℤ a3) ≡ neg_ℤ (ρ.b1 g a1 a2 a3)

-- a steady source is 0
unfoldable pub Silent : Part → Type 0
Silent Blank = Unit {0}
Silent (Leaf (Resistor r)) = Unit {0}
Silent (Leaf (Capacitor c)) = Unit {0}
Silent (Leaf (Inductor l)) = Unit {0}
Silent (Leaf (Input r)) = Unit {0}
Silent (Leaf (Steady r v)) = v ≡ pos 0
Silent (Adaptor a) = Unit {0}

-- version 2 with a pair: its rounding and its diode turn over
pub record Even (r : Record) : Type 0 where
  pub version : r.version ≡ 2
  pub kind : r.kind ≡ Pair

-- and no steady source but at 0
pub record Balanced (r : Record) : Type 0 where
  pub even : Even r
  pub silent : (j : ℕ) → Silent (part_at r j)

-- ---- beside it

abbrev pub opposite : List ℤ → List ℤ
opposite = map neg_ℤ

-- two runs: the same number, place, samples done and segment; opposite waves, and opposite outputs of the samples done
abbrev pub Opposed : Ran → Ran → Type 0
Opposed = Changed neg_ℤ opposite

-- the same in a run's words: each output of the one and that of the other add up to nothing
pub record Nulls (p q : Progress) (out inverse : List ℤ) : Type 0 where
  pub number : handed q.answer ≡ handed p.answer
  pub samples : q.done ≡ p.done
  pub segment : q.segment ≡ p.segment
  pub waves : q.state.waves ≡ opposite p.state.waves
  pub silence : (i : ℕ) → i < p.done → get_or out i (pos 0) +ℤ get_or inverse i (pos 0) ≡ pos 0
