-- What is read lies within the buffer, which keeps its length, and is what the reader has given so far; each turn but the last reads at least a
-- byte.
use Rattle.std.proofs.Common.{◌≡◌, ◌-◌, ◌≤◌, length, take}
use Rattle.std.specs.Io.KnownBytes.{Consumes}
use Rattle.streams.proofs.read_full.Given as goal

abbrev pub invariant-loop-count : goal.invariant-loop-count
invariant-loop-count g l = record {
  inside : l.count ≤ length l.bytes;
  taken : Consumes (g.R.Read.remaining l.initial.from) (g.R.Read.remaining l.from) (take l.count l.bytes);
  size : length l.bytes ≡ length l.initial.bytes;
}

abbrev pub decreases-loop-count : goal.decreases-loop-count
decreases-loop-count g l = length l.bytes - l.count
