-- What every value of the code has by its type, said of the definitions' plain numbers and lists, so that laws over the definitions can ask
-- for it: an array has its length, an i32 and an f64 are in their range.
use Rattle.std.specs.Prelude.{ℕ, ◌^◌, ◌<◌, T}
use Rattle.std.specs.Float.{binary64}
use Rattle.std.specs.Float.Ieee.{fits}
use Rattle.std.specs.Int.{w32}
use Rattle.std.proofs.Common.{SFits}
use Rattle.circuit.specs.Record.{part_at, column_at}
use Rattle.circuit.specs.declared.Element.{Element}
use Rattle.circuit.specs.declared.Element.TheVariants.{Resistor, Capacitor, Inductor, Input, Steady}
use Rattle.circuit.specs.declared.Part.{Part}
use Rattle.circuit.specs.declared.Part.TheVariants.{Blank, Leaf, Adaptor}
use Rattle.circuit.specs.declared.Column.{Column}
use Rattle.circuit.specs.declared.Record.{Record}
use Rattle.laws.specs.Accepted.{Sized}

abbrev pub HeldElement : Element → Type 0
HeldElement (Resistor r) = T (fits binary64 r)
HeldElement (Capacitor c) = T (fits binary64 c)
HeldElement (Inductor l) = T (fits binary64 l)
HeldElement (Input r) = T (fits binary64 r)
HeldElement (Steady r v) = T (fits binary64 r) × SFits w32 v

abbrev pub HeldPart : Part → Type 0
HeldPart Blank = Unit {0}
HeldPart (Leaf e) = HeldElement e
HeldPart (Adaptor a) = (a.first < 256) × (a.second < 256)

pub record HeldColumn (c : Column) : Type 0 where
  pub x : SFits w32 c.x
  pub y : SFits w32 c.y

pub record Held (r : Record) : Type 0 where
  pub sized : Sized r
  pub version : r.version < 2 ^ 16
  pub rate : r.rate < 2 ^ 32
  pub count : r.count < 256
  pub tap : r.tap < 256
  pub width : r.width < 256
  pub resistance : T (fits binary64 r.resistance)
  pub parts : (j : ℕ) → HeldPart (part_at r j)
  pub columns : (i : ℕ) → HeldColumn (column_at r i)
