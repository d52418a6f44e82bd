-- The three bytes stand in the upper part of an i32, which is 256 times the sample, and the shift divides it again.
use Rattle.std.specs.Prelude.{◌≡◌, refl, Bool, true, false, cond, ℕ, suc, ◌+◌, ◌-◌, ◌*◌, ◌/◌, ◌%◌, ◌^◌, ◌<◌, ltb, [], ◌∷◌, pos, negsuc, ◌-ℤ◌}
use Rattle.std.proofs.Common.{ap, ◌∙◌, arith, ltb-true, ltb-false}
use Rattle.std.proofs.Math.Facts.{to_z_pos, to_z-neg, to_z-of_z, sfits_to_z}
use Rattle.std.specs.Int.{w32}
use Rattle.std.specs.Int.Signed.{shr_z}
use mir.Val.{to_z, Fits}
use Rattle.whole.specs.Integers.{at, ◌⊟◌}
use Rattle.whole.specs.Order.{zarith}
use Rattle.whole.specs.Signed.{shr_fits}
use Rattle.circuit.specs.File.{number_of}
use Rattle.circuit.specs.Take.{signed}
use Rattle.circuit.proofs.sample_of.Goals as goal

shifted : (n : ℕ) → n < 2 ^ 24 → shr_z (to_z w32 (256 * n)) 256 ≡ signed n
shifted n l = by (ltb n (2 ^ 23)) refl
  where
    by : (low : Bool) → ltb n (2 ^ 23) ≡ low → shr_z (to_z w32 (256 * n)) 256 ≡ cond low (pos n) (pos n -ℤ pos (2 ^ 24))
    by true e =
        let small : 256 * n < 2 ^ 31 = omega (arith, ltb-true n (2 ^ 23) e) in
        ap (λ z. shr_z z 256) (to_z_pos w32 small) ∙ ap pos (let back : 256 * n / 256 ≡ n = omega arith in back)
    by false e =
        let k = 2 ^ 32 - suc (256 * n) in
        let large = ltb-false n (2 ^ 23) e in
        let bits : 256 * n ≡ 2 ^ 32 - suc k = omega arith in
        let few : k < 2 ^ 31 = omega (arith, large) in
        let part : k / 256 ≡ 2 ^ 24 - suc n = omega arith in
        ap (λ m. shr_z (to_z w32 m) 256) bits ∙ ap (λ z. shr_z z 256) (to_z-neg w32 k few) ∙ ap negsuc part
        ∙ omega (zarith, at (pos n) ⊟ at (pos (2 ^ 24)), large)

pub returns : goal.returns
unfolding number_of
returns c =
    let n = c.args.a + 256 * c.args.b + 65536 * c.args.c in
    let bits : 0 + c.args.a * 256 + c.args.b * 65536 + c.args.c * 16777216 ≡ 256 * n = omega arith in
    let same : number_of (c.args.a ∷ c.args.b ∷ c.args.c ∷ []) % 2 ^ 24 ≡ n = omega arith in
    let fits : Fits w32 (256 * n) = record { fits = omega arith } in
    let whole = c.from_le_bytes.ensures ∙ ap (to_z w32) bits in
    rw (whole, to_z-of_z (sfits_to_z fits), to_z-of_z (shr_fits 256 (sfits_to_z fits)), same) (shifted n (omega arith))
