-- A number and a place belong to one refusal only.
use Prim.Native.Nat.{◌-◌}
use mathlib.Core.Path.{◌≡◌, refl, sym, ◌∙◌, ap}
use mathlib.Core.List.{[], ◌∷◌}
use lib.ListN.{get_or}
use Rattle.circuit.specs.Numbers.{Report, told}
use Rattle.circuit.specs.declared.Refusal.{Refusal}
use Rattle.circuit.specs.declared.Refusal.TheVariants.{Length, Check, Version, Form, Rate, Tree, Value, Resistance, Ratio, Curve, Fit, Waves, Lengths, Sample, Overload, Room, LeftOver, Voltage}

-- the refusal that a report stands for, by its number from 1 on
abbrev refusal_of : Report → Refusal
refusal_of n =
    get_or
    (Length
    ∷ Check n.place
    ∷ Version
    ∷ Form
    ∷ Rate
    ∷ Tree n.place
    ∷ Value n.place
    ∷ Resistance n.place
    ∷ Ratio n.place
    ∷ Curve n.place
    ∷ Fit
    ∷ Waves n.place
    ∷ Lengths
    ∷ Sample n.place
    ∷ Overload n.place
    ∷ Room
    ∷ LeftOver n.place
    ∷ Voltage
    ∷ [])
    (n.number - 1) Length

told_back : (e : Refusal) → refusal_of (told e) ≡ e
unfolding told
told_back Length = refl
told_back (Check block) = refl
told_back Version = refl
told_back Form = refl
told_back Rate = refl
told_back (Tree row) = refl
told_back (Value row) = refl
told_back (Resistance row) = refl
told_back (Ratio row) = refl
told_back (Curve column) = refl
told_back Fit = refl
told_back (Waves row) = refl
told_back Lengths = refl
told_back (Sample index) = refl
told_back (Overload index) = refl
told_back Room = refl
told_back (LeftOver samples) = refl
told_back Voltage = refl

pub one_refusal : {n : Report} (e d : Refusal) → told e ≡ n → told d ≡ n → e ≡ d
one_refusal e d p q = sym (told_back e) ∙ ap refusal_of (p ∙ sym q) ∙ told_back d
