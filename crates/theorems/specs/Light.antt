-- What a conduction light shows (request 7): the segments of a curve, and the segment that a run hands back.
use Rattle.std.specs.Prelude.{ℕ, suc, ◌<◌, ◌≤◌, ◌≡◌, get_or, ℤ, pos, neg_ℤ, nat_abs, ◌<ℤ◌, ◌≤ℤ◌, Option, None, Some}
use Rattle.whole.specs.Fraction.{whole}
use Rattle.circuit.specs.Record.{column_limit, column_at}
use Rattle.circuit.specs.Curve.{piece, toward_zero, reflected, segment}
use Rattle.circuit.specs.Sample.{rounded, risen, stored_at}
use Rattle.circuit.specs.Run.{Call, no_segment}
use Rattle.circuit.specs.declared.CurveKind.TheVariants.{Single, Pair}
use Rattle.circuit.specs.declared.Record.{Record}
use Rattle.theorems.specs.Limit.{waves_after}

-- the wave sent back is the value of the segment's line, rounded toward zero, and for a pair's negative wave minus that at its opposite
pub record Used (r : Record) : Type 0 where
  pub single : r.kind ≡ Single → (a : ℤ) → reflected r a ≡ toward_zero (piece r (segment r a) (whole a))
  pub pair : r.kind ≡ Pair → (a : ℤ) → pos 0 ≤ℤ a → reflected r a ≡ toward_zero (piece r (segment r a) (whole a))
  pub mirrored : r.kind ≡ Pair → (a : ℤ) → a <ℤ pos 0 → reflected r a ≡ neg_ℤ (toward_zero (piece r (segment r a) (whole (neg_ℤ a))))

pub record Graded (r : Record) : Type 0 where
  -- 0 left of a single's first column, and nowhere else
  pub first : r.kind ≡ Single → (a : ℤ) → a <ℤ (column_at r 0).x → segment r a ≡ 0
  pub only : (a : ℤ) → segment r a ≡ 0 → (r.kind ≡ Single) × (a <ℤ (column_at r 0).x)
  -- it never falls as the wave rises, and for a pair as its magnitude does
  pub single : r.kind ≡ Single → (a b : ℤ) → a ≤ℤ b → segment r a ≤ segment r b
  pub pair : r.kind ≡ Pair → (a b : ℤ) → nat_abs a ≤ nat_abs b → segment r a ≤ segment r b
  -- no more than there can be columns, so that 255 is no segment
  pub most : (a : ℤ) → segment r a ≤ column_limit

-- ---- a run

-- the wave that sample i of a call sends to the diode
abbrev pub hit : Call → ℕ → ℤ
hit c i = risen (rounded c.circuit) c.circuit (stored_at (waves_after c i)) (get_or c.input i (pos 0))

-- a call that has done so many samples, and the segment that it tells
pub record Shows (c : Call) (samples told : ℕ) : Type 0 where
  pub none : samples ≡ 0 → told ≡ no_segment
  pub last : (i : ℕ) → samples ≡ suc i → told ≡ segment c.circuit (hit c i)
  -- so 255 is told only where no sample is done
  pub apart : 0 < samples → told ≤ column_limit

-- the same in a run's words, which has no segment to show where no sample is done
pub record Lit (c : Call) (samples : ℕ) (shown : Option ℕ) : Type 0 where
  pub none : samples ≡ 0 → shown ≡ None
  pub last : (i : ℕ) → samples ≡ suc i → shown ≡ Some (segment c.circuit (hit c i))
