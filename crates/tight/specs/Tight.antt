-- That no whole bound below 2N + 1 will do, for any version and any N that a circuit can have.
use Rattle.std.specs.Prelude.{ℕ, ◌<◌, ◌≡◌, List, ℤ}
use Rattle.whole.specs.Fraction.{Fraction}
use Rattle.whole.specs.Nearness.{Near}
use Rattle.circuit.specs.Numbers.{done}
use Rattle.circuit.specs.Record.{adaptors_of}
use Rattle.circuit.specs.SetUp.{set_up_report}
use Rattle.circuit.specs.Sample.{finished, stored_at, sampled}
use Rattle.circuit.specs.Run.{fresh_waves}
use Rattle.circuit.specs.declared.Record.{Record}
use Rattle.laws.specs.Accepted.{Sized}
use Rattle.theorems.specs.Limit.{least_limit, exact_output, exact_kept}

-- a is within no whole number below E of q
pub record Beyond (E : ℕ) (a : ℤ) (q : Fraction) : Type 0 where
  pub beyond : (F : ℕ) → F < E → Near F a q → ⊥

-- An accepted circuit of a version and n adaptors, and a sample from a fresh state that strays as far as any may: its output, and the wave that a row
-- stores. With no adaptor the only row is the input, which stores nothing.
pub record Strays (version n : ℕ) : Type 0 where
  pub circuit : Record
  pub versioned : circuit.version ≡ version
  pub sized : Sized circuit
  pub accepted : set_up_report circuit ≡ done
  pub adaptors : adaptors_of circuit ≡ n
  pub sample : ℤ
  pub out : ℤ
  pub segment : ℕ
  pub next : List ℤ
  pub works : sampled circuit fresh_waves sample ≡ finished out segment next
  pub output : Beyond (least_limit n) out (exact_output circuit fresh_waves sample)
  pub row : ℕ
  pub stored : 0 < n → Beyond (least_limit n) (stored_at next row) (exact_kept circuit fresh_waves sample row)
