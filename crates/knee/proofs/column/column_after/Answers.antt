-- Where the knob is not refused, x and y keep the limit of a column, and so does every step to them.
use Rattle.std.proofs.Common.{◌≡◌, ◌-◌, ◌*◌, ℤ, pos, ◌*ℤ◌, ◌-ℤ◌, w32, w64, to_z, of_z, to_z-of_z, ap, ◌∙◌, arith}
use Rattle.std.specs.Prelude.{min}
use Rattle.std.specs.Int.Signed.{shr_z}
use Rattle.std.proofs.Math.Facts.{sfits_widen}
use mir.Val.{SFits}
use Rattle.whole.specs.Integers.{at, ◌⊞◌, ◌⊟◌, ◌⊠◌}
use Rattle.whole.specs.Signed.{zfits, returned}
use Rattle.circuit.specs.Omega.{omega_parts, entry_count, entry_at}
use Rattle.circuit.specs.Knee.{x_at, lag_at, knee_column}
use Rattle.circuit.specs.declared.Knob.{Knob}
use Rattle.laws.proofs.Knee.{Placed, turned, placed}
use Rattle.knee.proofs.Knobs.{held}
use Rattle.knee.proofs.column.column_after.Goals as goal
use Rattle.knee.proofs.column.column_after.Goals.{After-lag}

-- the steps to y, by where x and y are
module _ (x l : ℤ) (p : Placed x (x -ℤ pos 2 *ℤ l)) where
  x_fits : SFits w32 x
  x_fits = let right = p.right in let small = p.small in omega zfits

  y_fits : SFits w32 (x -ℤ pos 2 *ℤ l)
  y_fits =
      let y = x -ℤ pos 2 *ℤ l in
      let small = p.small in
      let below = p.below in
      let above = p.above in
      omega (zfits, at x ⊞ at y)

  twice_fits : SFits w64 (pos 2 *ℤ l)
  twice_fits =
      let small = p.small in
      let below = p.below in
      let above = p.above in
      omega (zfits, at (pos 2) ⊠ at l, at x ⊟ at (pos 2) ⊠ at l, at x ⊞ (at x ⊟ at (pos 2) ⊠ at l))

module _ (c : After-lag) where
  abbrev b : Knob
  b = c.args.s.knob

  abbrev x : ℤ
  x = x_at b c.args.k

  abbrev l : ℤ
  l = lag_at b c.args.k

  place : Placed x (x -ℤ pos 2 *ℤ l)
  place = placed b (turned b c.args.s.passed) c.args.k c.requires

  x_told : to_z w64 (of_z w64 c.x_at-x.result) ≡ x
  x_told =
      let at = c.x_at-x in
      returned at.result at.type_inv ∙ at.ensures

  lag_told : to_z w64 (of_z w64 c.lag.result) ≡ l
  lag_told =
      let inside : min (24 * c.args.k) (entry_count - 1) ≡ 24 * c.args.k = omega (arith, c.requires) in
      let told = rw (to_z-of_z (held b _ c.well_formed.0.1.1.0).thermal, c.entry-w.ensures) at c.lag.ensures in
      returned c.lag.result c.lag.type_inv ∙ told ∙ ap (λ n. shr_z (b.thermal *ℤ entry_at n) omega_parts) inside

  wide_y : SFits w64 (x -ℤ pos 2 *ℤ l)
  wide_y = sfits_widen tt (y_fits x l place)

pub overflow_sub-y : goal.overflow_sub-y
overflow_sub-y c = rw (x_told c, lag_told c, to_z-of_z (twice_fits (x c) (l c) (place c))) (wide_y c)

pub overflow_cast-result-2 : goal.overflow_cast-result-2
overflow_cast-result-2 c = rw (x_told c, lag_told c, to_z-of_z (twice_fits (x c) (l c) (place c)), to_z-of_z (wide_y c)) (y_fits (x c) (l c) (place c))

pub returns : goal.returns
unfolding knee_column
returns c = rw (
  x_told c,
  lag_told c,
  to_z-of_z (twice_fits (x c) (l c) (place c)),
  to_z-of_z (wide_y c),
  to_z-of_z (x_fits (x c) (l c) (place c)),
  to_z-of_z (y_fits (x c) (l c) (place c)),
)
