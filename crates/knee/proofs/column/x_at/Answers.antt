-- The product keeps 180·2^31, whatever the thermal voltage is.
use Rattle.std.proofs.Common.{◌≡◌, ℕ, ◌*◌, ◌≤◌, ℤ, pos, ◌+ℤ◌, ◌*ℤ◌, w32, w64, to_z, to_z-of_z, arith}
use Rattle.std.specs.Int.Signed.{shr_z}
use mir.Val.{SFits}
use mir.ValLaws.{to_z_pos}
use Rattle.whole.specs.Integers.{at, ◌⊞◌}
use Rattle.whole.specs.Order.{zarith, Abs, abs_mul}
use Rattle.whole.specs.Quotients.{floor_rounds, rounds_bound}
use Rattle.whole.specs.Signed.{zfits, shr_fits, wide_same}
use Rattle.knee.proofs.Knobs.{held}
use Rattle.knee.proofs.column.x_at.Goals as goal

module _ (a v : ℤ) (k : ℕ) (A : SFits w32 a) (B : SFits w32 v) (h : k ≤ 60) where
  threes : to_z w64 (k * 3) ≡ pos (k * 3)
  threes = to_z_pos w64 (k * 3) (omega arith)

  size : Abs (pos (k * 3) *ℤ v) (180 * 67108864 * 32)
  size =
      let g : Abs (pos (k * 3)) 180 = omega zarith in
      let t : Abs v (67108864 * 32) = omega zfits in
      abs_mul g t

  scaled : SFits w64 (pos (k * 3) *ℤ v)
  scaled = let s = size in omega zfits

  far : SFits w64 (a +ℤ shr_z (pos (k * 3) *ℤ v) 32)
  far =
      let q = shr_z (pos (k * 3) *ℤ v) 32 in
      let s : Abs q (180 * 67108864) = rounds_bound (floor_rounds (pos (k * 3) *ℤ v) 32 (omega arith)) size in
      omega (zfits, at a ⊞ at q)

pub overflow_add-result : goal.overflow_add-result
overflow_add-result c =
    let b = c.args.knob in
    let h = held b _ c.well_formed.0 in
    let p = scaled b.knee b.thermal c.args.k h.knee h.thermal c.requires in
    rw (threes b.knee b.thermal c.args.k h.knee h.thermal c.requires, wide_same h.thermal, wide_same h.knee, to_z-of_z p, to_z-of_z (shr_fits 32 p))
    (far b.knee b.thermal c.args.k h.knee h.thermal c.requires)

pub returns : goal.returns
returns c =
    let b = c.args.knob in
    let h = held b _ c.well_formed.0 in
    let p = scaled b.knee b.thermal c.args.k h.knee h.thermal c.requires in
    rw (
      threes b.knee b.thermal c.args.k h.knee h.thermal c.requires,
      wide_same h.thermal,
      wide_same h.knee,
      to_z-of_z p,
      to_z-of_z (shr_fits 32 p),
      to_z-of_z (far b.knee b.thermal c.args.k h.knee h.thermal c.requires),
    )
