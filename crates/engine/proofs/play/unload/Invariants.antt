-- The stored waves of the rows below i are taken out, and the others are 0.
use Rattle.std.proofs.Common.{◌≡◌, ℕ, ◌<◌, ◌≤◌, length, pos}
use Rattle.circuit.specs.Record.{row_limit}
use Rattle.circuit.specs.Sample.{stored_at}
use Rattle.engine.proofs.Loading.{out_of}
use Rattle.engine.proofs.play.unload.Given as goal

abbrev pub invariant-loop-i : goal.invariant-loop-i
invariant-loop-i l = record {
  long : length l.state.waves ≡ row_limit;
  taken : (j : ℕ) → j < l.i → stored_at l.state.waves j ≡ out_of l.r l.slots l.up j;
  rest : (j : ℕ) → l.i ≤ j → stored_at l.state.waves j ≡ pos 0;
}
