-- The roles of parts: the input, the adaptors and the blank rows each have one for themselves.
use Prim.Native.Nat.{ℕ, ◌+◌, ◌<◌}
use native.Mathlib.Omega.{arith}
use borrow.Author.Tests.{eqb-false}
use mathlib.Core.Path.{◌≡◌, refl, sym, ◌∙◌}
use mathlib.Core.Bool.{true, false, true≢false}
use lib.Dec.{eqb}
use Rattle.circuit.specs.Counting.{one}
use Rattle.circuit.specs.Record.{is_blank, is_input, is_adaptor}
use Rattle.circuit.specs.declared.Element.TheVariants.{Resistor, Capacitor, Inductor, Input, Steady}
use Rattle.circuit.specs.declared.Adaptor.{Adaptor as Joined}
use Rattle.circuit.specs.declared.Part.{Part}
use Rattle.circuit.specs.declared.Part.TheVariants.{Blank, Leaf, Adaptor}
use Rattle.laws.specs.Accepted.{Child}
use Rattle.parts.specs.Parts.{role_of}

pub record Role (p : Part) : Type 0 where
  pub few : role_of p < 5
  pub once : one (eqb (role_of p) 0) + one (eqb (role_of p) 1) + one (eqb (role_of p) 2) + one (eqb (role_of p) 3) + one (eqb (role_of p) 4) ≡ 1
  pub input : eqb (role_of p) 2 ≡ is_input p
  pub adaptor : eqb (role_of p) 3 ≡ is_adaptor p
  pub blank : eqb (role_of p) 4 ≡ is_blank p

pub role : (p : Part) → Role p
unfolding role_of
role Blank = record { few = omega arith; once = refl; input = refl; adaptor = refl; blank = refl }
role (Leaf (Resistor x)) = record { few = omega arith; once = refl; input = refl; adaptor = refl; blank = refl }
role (Leaf (Capacitor x)) = record { few = omega arith; once = refl; input = refl; adaptor = refl; blank = refl }
role (Leaf (Inductor x)) = record { few = omega arith; once = refl; input = refl; adaptor = refl; blank = refl }
role (Leaf (Input x)) = record { few = omega arith; once = refl; input = refl; adaptor = refl; blank = refl }
role (Leaf (Steady x v)) = record { few = omega arith; once = refl; input = refl; adaptor = refl; blank = refl }
role (Adaptor a) = record { few = omega arith; once = refl; input = refl; adaptor = refl; blank = refl }

pub role_few : (p : Part) → is_blank p ≡ false → role_of p < 4
role_few p e = let other = eqb-false (role_of p) 4 ((role p).blank ∙ e) in omega (arith, (role p).few)

pub joined : (p : Part) → is_adaptor p ≡ true → (a : Joined) × (p ≡ Adaptor a)
joined Blank e = absurd (true≢false (sym e))
joined (Leaf x) e = absurd (true≢false (sym e))
joined (Adaptor a) e = (a, refl)

pub parent_role : (p : Part) (c : ℕ) → Child p c → role_of p ≡ 3
unfolding Child role_of
parent_role Blank c h = absurd h
parent_role (Leaf x) c h = absurd h
parent_role (Adaptor a) c h = refl
