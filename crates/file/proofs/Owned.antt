-- What owning a record tells, in the words of `Held`. The facts are the type's own, field by field; a caller has them as `c.well_formed`.
use mathlib.Core.Path.{◌≡◌, sym, subst}
use Prim.Native.Nat.{ℕ, zero, suc}
use mathlib.Core.Bool.{true}
use mathlib.Core.List.{List, [], ◌∷◌}
use lib.Dec.{T, lit<}
use lib.ListN.{get_or}
use lib.IntN.{pos}
use lib.Ieee.{Float, binary64, fits}
use mir.Val.{Val}
use base.Fml.{Fml}
use denote.Array.{each}
use denote.Shadow.{shadow}
use Rattle.circuit.specs.contracts.Record as Types
use Rattle.circuit.specs.contracts.Row as Rows
use Rattle.circuit.specs.contracts.Part as Parts
use Rattle.circuit.specs.contracts.Element as Elements
use Rattle.circuit.specs.contracts.Column as Columns
use Rattle.circuit.specs.Record.{blank_row}
use Rattle.circuit.specs.declared.Element.{Element}
use Rattle.circuit.specs.declared.Element.TheVariants.{Resistor, Capacitor, Inductor, Input, Steady}
use Rattle.circuit.specs.declared.Part.{Part}
use Rattle.circuit.specs.declared.Part.TheVariants.{Blank, Leaf, Adaptor}
use Rattle.circuit.specs.declared.Row.{Row}
use Rattle.circuit.specs.declared.Column.{Column}
use Rattle.circuit.specs.declared.Record.{Record}
use Rattle.laws.proofs.Sizes.{sized}
use Rattle.file.specs.Held.{HeldElement, HeldPart, HeldColumn, Held}

-- ---- rows

float_held : (x : Float) → fits binary64 x ≡ true → T (fits binary64 x)
float_held x e = subst T (sym e) tt

element_held : (e : Element) (vs : List Val) → shadow ((Elements.the_row).own_val e vs) → HeldElement e
element_held (Resistor r) vs h = float_held r h.1.1.1.1.0.1
element_held (Capacitor c) vs h = float_held c h.1.1.1.1.0.1
element_held (Inductor l) vs h = float_held l h.1.1.1.1.0.1
element_held (Input r) vs h = float_held r h.1.1.1.1.0.1
element_held (Steady r v) vs h = (float_held r h.1.1.1.1.0.1, record { sfits = h.1.1.1.1.1.0.1 })

part_held : (p : Part) (vs : List Val) → shadow ((Parts.the_row).own_val p vs) → HeldPart p
part_held Blank vs h = tt
part_held (Leaf e) vs h = element_held e h.1.1.0.0 h.1.1.1.1.0
part_held (Adaptor a) vs h = let f = h.1.1.1.1.0.1.1 in (f.1.0.1, f.1.1.0.1)

row_held : (w : Row) (vs : List Val) → shadow ((Rows.the_row).own_val w vs) → HeldPart w.part
row_held w vs h = part_held w.part h.0.0 h.1.1.0

-- ---- columns

column_held : (c : Column) (vs : List Val) → shadow ((Columns.the_row).own_val c vs) → HeldColumn c
column_held c vs h = record { x = record { sfits = h.1.1.0.1 }; y = record { sfits = h.1.1.1.0.1 } }

origin_held : HeldColumn (record { x = pos 0; y = pos 0 })
origin_held = record { x = record { sfits = lit< tt }; y = record { sfits = lit< tt } }

-- ---- arrays

-- what owning an element tells of it, of every element of an array that is owned, and of z past its end
module _ {A : Type 0} (own : A → List Val → Fml) (P : A → Type 0) (told : (a : A) (vs : List Val) → shadow (own a vs) → P a) (z : A) (past : P z) where
  each_held : (xs : List A) (us : List Val) → shadow (each A own xs us) → (j : ℕ) → P (get_or xs j z)
  each_held [] us h j = past
  each_held (x ∷ xs) [] h j = absurd h
  each_held (x ∷ xs) (u ∷ us) h zero = told x (u ∷ []) h.0
  each_held (x ∷ xs) (u ∷ us) h (suc j) = each_held xs us h.1 j

-- ---- all of it

pub held : (r : Record) (vs : List Val) → shadow ((Types.the_row).own_val r vs) → Held r
held r vs h =
    let version = h.1.1 in
    let rate = version.1 in
    let count = rate.1 in
    let tap = count.1 in
    let kind = tap.1.1 in
    let columns = kind.1.1 in
    record {
      sized = sized r vs h;
      version = version.0.1;
      rate = rate.0.1;
      count = count.0.1;
      tap = tap.0.1;
      width = kind.1.0.1;
      resistance = float_held r.resistance columns.1.0.1;
      parts = each_held (Rows.the_row).own_val (λ w. HeldPart w.part) row_held blank_row tt r.rows tap.1.0.0 tap.1.0.1.1;
      columns = each_held (Columns.the_row).own_val HeldColumn column_held (record { x = pos 0; y = pos 0 }) origin_held r.columns columns.0.0 columns.0.1.1;
    }
