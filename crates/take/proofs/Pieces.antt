-- What a piece needs of the promise of a call of a take: the outputs lie within the room, and no more bytes are carried on than can be left
-- over.
use Prim.Native.Nat.{ℕ, ◌*◌, ◌≤◌}
use native.Mathlib.Omega.{arith}
use mathlib.Core.Bool.{Bool, true, false, cond}
use mathlib.Core.List.{List, []}
use lib.Dec.{eqb}
use lib.ListN.{length, length-append}
use Rattle.circuit.specs.Numbers.{Report, judge}
use Rattle.circuit.specs.Run.{Played, play}
use Rattle.circuit.specs.Take.{output_length, left_limit, samples_of, left_over, Feeding, available, feed_rules, Fed, taken, nothing_taken, fed}
use Rattle.circuit.specs.Promises.{Feeds}
use Rattle.circuit.specs.declared.Feed.{Feed}
use Rattle.laws.proofs.Bytes.{length-left_over, length-output_bytes}

module _ (f : Feeding) (p : Played) (n : Report) where
  abbrev either : Bool → Fed
  either b = cond b (taken f p) (nothing_taken f n)

  inside : (b : Bool) → output_length * (either b).samples ≤ length (either b).room
  inside true = rw (length-append, length-output_bytes) (omega arith)
  inside false = omega arith

  few_over : (whole : Bool) → length (cond whole (left_over (available f)) []) ≤ left_limit
  few_over true = length-left_over (available f)
  few_over false = omega arith

  few : f.carried.count ≤ left_limit → (b : Bool) → (either b).carried.count ≤ left_limit
  few h true = few_over (eqb p.number 0)
  few h false = h

module _ {f : Feeding} {s : Feed} {after : List ℕ} (h : Feeds f s after) where
  abbrev first : Report
  first = judge feed_rules f

  abbrev played : Played
  played = play f.circuit f.carried.state.waves (samples_of (available f))

  pub outputs_inside : output_length * s.done ≤ length after
  unfolding fed
  outputs_inside = rw (h.samples, h.room) (inside f played first (eqb first.number 0))

  pub few_left : f.carried.count ≤ left_limit → s.carried.count ≤ left_limit
  unfolding fed
  few_left few-before = rw h.carried (few f played first few-before (eqb first.number 0))
