-- The bytes left over before, with new ones after them: how many there are, and two of them from a place on.
use Prim.Native.Nat.{ℕ, ◌+◌, ◌≤◌}
use native.Mathlib.Nat.{add-zero}
use mathlib.Core.Path.{◌≡◌, refl, ap, ◌∙◌}
use mathlib.Core.List.{List, [], ◌∷◌, ◌++◌}
use lib.ListN.{length, get_or, take, drop, length-append}
use lib.Seq.{length-take-le, get_or-drop}
use mir.Val.{Val}
use denote.Shadow.{shadow}
use Rattle.circuit.specs.File.{zeros}
use Rattle.circuit.specs.Take.{left_limit}
use Rattle.circuit.specs.declared.Carried.{Carried}
use Rattle.circuit.specs.contracts.Carried as Types

-- an array of two, as its type gives
pub left_sized : (c : Carried) (vs : List Val) → shadow ((Types.the_row).own_val c vs) → length c.left ≡ left_limit
left_sized c vs h = h.1.1.1.0.1.0.1

pub both_length : (left more : List ℕ) (count : ℕ) → count ≤ length left → length (take count left ++ more) ≡ count + length more
both_length left more count h = length-append (take count left) more ∙ ap (λ n. n + length more) (length-take-le count left h)

-- two bytes, with zeros where there are fewer
two_bytes : (s : List ℕ) → take 2 (s ++ zeros 2) ≡ get_or s 0 0 ∷ get_or s 1 0 ∷ []
two_bytes [] = refl
two_bytes (a ∷ []) = refl
two_bytes (a ∷ b ∷ s) = refl

pub two_from : (at : ℕ) (s : List ℕ) → take 2 (drop at s ++ zeros 2) ≡ get_or s at 0 ∷ get_or s (at + 1) 0 ∷ []
two_from at s = two_bytes (drop at s) ∙ rw (get_or-drop at s 0 0, get_or-drop at s 1 0, add-zero at)
