-- What changes sign between a reversed leaf and its slot: by its mark, as the definitions have it, and by a number, as code turns it.
use Prim.Native.Nat.{ℕ}
use mathlib.Core.Path.{◌≡◌, refl, ap}
use mathlib.Core.Bool.{Bool, true, false}
use mathlib.Core.Logic.{inl, inr}
use mathlib.Core.List.{[], ◌∷◌}
use lib.IntN.{ℤ, pos, negsuc, ◌+ℤ◌, neg_ℤ, neg_ℤ-neg_ℤ}
use Rattle.whole.specs.Order.{Abs, abs_neg, nat_abs-neg}
use Rattle.whole.specs.Ring.{var, ◌⊕◌, ⊖, ring}
use Rattle.circuit.specs.Counting.{within}
use Rattle.circuit.specs.Record.{is_input}
use Rattle.circuit.specs.Sample.{Rounding, whole_waves, turned}
use Rattle.circuit.specs.declared.Element.TheVariants.{Resistor, Capacitor, Inductor, Input, Steady}
use Rattle.circuit.specs.declared.Part.{Part}
use Rattle.circuit.specs.declared.Part.TheVariants.{Blank, Leaf, Adaptor}
use Rattle.parts.specs.Parts.{facing_of, turn_of}
use Rattle.engine.specs.Sample.{Turn, turned_by}

-- ---- by a number

pub turn_as : {s t : ℤ} → s ≡ t → Turn t → Turn s
turn_as e h = rw e h

pub facing_turn : (b : Bool) → Turn (facing_of b)
facing_turn true = inr refl
facing_turn false = inl refl

pub part_turn : (p : Part) (b : Bool) → Turn (turn_of p b)
part_turn Blank b = inl refl
part_turn (Leaf (Resistor v)) b = inl refl
part_turn (Leaf (Capacitor v)) b = inl refl
part_turn (Leaf (Inductor v)) b = inr refl
part_turn (Leaf (Input v)) b = facing_turn b
part_turn (Leaf (Steady v m)) b = inl refl
part_turn (Adaptor a) b = inl refl

pub turned_size : (t : ℤ) {a : ℤ} {m : ℕ} → Abs (turned_by t a) m → Abs a m
turned_size (pos n) h = h
turned_size (negsuc n) {a} h = record { bound = rw (nat_abs-neg a) at h.bound }

pub turned_keeps : (t : ℤ) {a : ℤ} {m : ℕ} → Abs a m → Abs (turned_by t a) m
turned_keeps (pos n) h = h
turned_keeps (negsuc n) h = abs_neg h

-- ---- by a mark

module _ (ρ : Rounding) where
  pub facing_turned : (b : Bool) (a : ℤ) → turned_by (facing_of b) a ≡ turned (whole_waves ρ) b a
  facing_turned true a = refl
  facing_turned false a = refl

  pub turned_range : (b : Bool) {a : ℤ} {m : ℕ} → Abs a m → Abs (turned (whole_waves ρ) b a) m
  turned_range true h = abs_neg h
  turned_range false h = h

  pub turned_within : (b : Bool) (m : ℕ) (a : ℤ) → within m (turned (whole_waves ρ) b a) ≡ within m a
  turned_within true m a = rw (nat_abs-neg a)
  turned_within false m a = refl

  pub turned_back : (b : Bool) (a : ℤ) → turned (whole_waves ρ) b (turned (whole_waves ρ) b a) ≡ a
  turned_back true a = neg_ℤ-neg_ℤ a
  turned_back false a = refl

  -- what an inductor sends
  pub turned_opposite : (b : Bool) (a : ℤ) → turned (whole_waves ρ) b (neg_ℤ (turned (whole_waves ρ) b a)) ≡ neg_ℤ a
  turned_opposite true a = ap neg_ℤ (neg_ℤ-neg_ℤ a)
  turned_opposite false a = refl

  -- what the tap reads: the leaf's own two waves
  pub turned_sum : (b : Bool) (own down : ℤ)
      → turned (whole_waves ρ) b (turned (whole_waves ρ) b own +ℤ down) ≡ own +ℤ turned (whole_waves ρ) b down
  turned_sum true own down = ring (own ∷ down ∷ []) (⊖ (⊖ (var 0) ⊕ var 1)) (var 0 ⊕ ⊖ (var 1)) refl
  turned_sum false own down = refl

  -- the input's sample
  pub input_turned : (p : Part) (b : Bool) (x : ℤ) → is_input p ≡ true → turned_by (turn_of p b) x ≡ turned (whole_waves ρ) b x
  input_turned Blank b x e = cc
  input_turned (Leaf (Resistor v)) b x e = cc
  input_turned (Leaf (Capacitor v)) b x e = cc
  input_turned (Leaf (Inductor v)) b x e = cc
  input_turned (Leaf (Input v)) b x e = facing_turned b x
  input_turned (Leaf (Steady v m)) b x e = cc
  input_turned (Adaptor a) b x e = cc
