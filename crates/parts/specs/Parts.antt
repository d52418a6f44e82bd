-- What one part of a circuit is to a run.
use Rattle.std.specs.Prelude.{ℕ, Bool, true, false, cond, ℤ, pos, negsuc, neg_ℤ}
use Rattle.circuit.specs.Curve.{wave_limit}
use Rattle.circuit.specs.Run.{is_reactive}
use Rattle.circuit.specs.declared.CurveKind.{CurveKind}
use Rattle.circuit.specs.declared.CurveKind.TheVariants.{Unset, Single, Pair}
use Rattle.circuit.specs.declared.Element.{Element}
use Rattle.circuit.specs.declared.Element.TheVariants.{Resistor, Capacitor, Inductor, Input, Steady}
use Rattle.circuit.specs.declared.Part.{Part}
use Rattle.circuit.specs.declared.Part.TheVariants.{Blank, Leaf, Adaptor}

-- what a row is to a run, by the role's index: 0 a reactive leaf, 1 another leaf, 2 the input, 3 an adaptor, 4 a blank row
unfoldable pub role_of : Part → ℕ
role_of Blank = 4
role_of (Leaf (Resistor r)) = 1
role_of (Leaf (Capacitor c)) = 0
role_of (Leaf (Inductor l)) = 0
role_of (Leaf (Input r)) = 2
role_of (Leaf (Steady r v)) = 1
role_of (Adaptor a) = 3

-- what the waves of a leaf are turned by between it and the tree: −1 is the other sign
abbrev pub facing_of : Bool → ℤ
facing_of true = negsuc 0
facing_of false = pos 0

-- What a row's wave is turned by on its way into the tree: the input's sample by its mark. A capacitor sends what came down to its row and an
-- inductor the opposite of that, whatever the mark: a reversed leaf's wave changes sign coming down and again going up.
abbrev pub turn_of : Part → Bool → ℤ
turn_of Blank reversed = pos 0
turn_of (Leaf (Resistor r)) reversed = pos 0
turn_of (Leaf (Capacitor c)) reversed = pos 0
turn_of (Leaf (Inductor l)) reversed = negsuc 0
turn_of (Leaf (Input r)) reversed = facing_of reversed
turn_of (Leaf (Steady r v)) reversed = pos 0
turn_of (Adaptor a) reversed = pos 0

-- a reactive leaf's stored wave; any other has none
abbrev pub taken_out : Element → ℤ → ℤ
taken_out e w = cond (is_reactive e) w (pos 0)

abbrev pub part_taken : Part → ℤ → ℤ
part_taken Blank w = pos 0
part_taken (Leaf e) w = taken_out e w
part_taken (Adaptor a) w = pos 0

-- waves below the mirror are answered by the opposite of the answer to their opposite: of a pair all that are negative, of a single none
unfoldable pub mirror_of : CurveKind → ℤ
mirror_of Unset = pos 0
mirror_of Single = neg_ℤ (pos wave_limit)
mirror_of Pair = pos 0
