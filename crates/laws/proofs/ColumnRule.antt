-- The column rule's two forms agree: neighbours that lie no further apart in y than in x say the same of every two columns, where x rises.
-- From one column on, y differs from its y by no more than x does, by steps.
use Prim.Native.Nat.{ℕ, zero, suc, ◌+◌, ◌<◌, ◌≤◌}
use native.Mathlib.Nat.{le_of_suc-le-suc, not-suc-le-zero, eq-or-lt_of_le}
use native.Mathlib.Decide.{dec_lt}
use native.Mathlib.Omega.{arith}
use mathlib.Core.Path.{◌≡◌, subst}
use mathlib.Core.Logic.{◌↔◌, ⊎_elim}
use lib.IntN.{ℤ, ◌-ℤ◌, nat_abs}
use lib.Signed.{◌≤ℤ◌, ≤ℤ_refl}
use Rattle.whole.specs.Integers.{at, ◌⊟◌}
use Rattle.whole.specs.Order.{zarith, abs_parts}
use Rattle.circuit.specs.Numbers.{passes}
use Rattle.circuit.specs.Record.{column_at, form_rule}
use Rattle.circuit.specs.Curve.{column_rule}
use Rattle.circuit.specs.declared.Column.{Column}
use Rattle.circuit.specs.declared.Record.{Record}
use Rattle.laws.specs.Accepted.{Beside, Drawn}
use Rattle.laws.specs.ColumnRule.{Acceptable}
use Rattle.laws.proofs.Formed.{formed}
use Rattle.laws.proofs.Columns.{columns_drawn, drawn_passes}

-- ---- two columns

swapped : (a b : ℤ) → nat_abs (a -ℤ b) ≡ nat_abs (b -ℤ a)
swapped a b = omega (arith, at a ⊟ at b, at b ⊟ at a, abs_parts (a -ℤ b), abs_parts (b -ℤ a))

-- the way from a to c by b is no shorter, and as long where b lies between
by_way : (a b c : ℤ) → nat_abs (c -ℤ a) ≤ nat_abs (c -ℤ b) + nat_abs (b -ℤ a)
by_way a b c = omega (arith, at c ⊟ at a, at c ⊟ at b, at b ⊟ at a, abs_parts (c -ℤ a), abs_parts (c -ℤ b), abs_parts (b -ℤ a))

in_order : (a b c : ℤ) → a ≤ℤ b → b ≤ℤ c → nat_abs (c -ℤ b) + nat_abs (b -ℤ a) ≤ nat_abs (c -ℤ a)
in_order a b c h k = omega (zarith, at c ⊟ at a, at c ⊟ at b, at b ⊟ at a, abs_parts (c -ℤ a), abs_parts (c -ℤ b), abs_parts (b -ℤ a))

-- n lies right of o or where it does, and no further from it in y than in x
pub record Ahead (o n : Column) : Type 0 where
  pub right : o.x ≤ℤ n.x
  pub gentle : nat_abs (n.y -ℤ o.y) ≤ nat_abs (n.x -ℤ o.x)

ahead_self : (o : Column) → Ahead o o
ahead_self o = record { right = ≤ℤ_refl o.x; gentle = omega (arith, at o.y ⊟ at o.y, abs_parts (o.y -ℤ o.y)) }

ahead_on : (o m n : Column) → Ahead o m → Beside m n → Ahead o n
ahead_on o m n h b =
    let rise = b.rises in
    let on = h.right in
    let step = b.gentle in
    let more = h.gentle in
    let y = by_way o.y m.y n.y in
    let x = in_order o.x m.x n.x on (omega zarith) in
    record { right = omega zarith; gentle = omega arith }

module _ (r : Record) where
  -- column i + k from column i
  pub ahead : ((i : ℕ) → suc i < r.width → Beside (column_at r i) (column_at r (suc i)))
      → (j i : ℕ) → i ≤ j → j < r.width → Ahead (column_at r i) (column_at r j)
  ahead b j i l h = ⊎_elim (λ e. subst (λ k. Ahead (column_at r i) (column_at r k)) e (ahead_self (column_at r i))) (λ m. on j m h) (eq-or-lt_of_le l)
    where
      on : (j : ℕ) → i < j → j < r.width → Ahead (column_at r i) (column_at r j)
      on zero m h = absurd (not-suc-le-zero m)
      on (suc j) m h =
          ahead_on (column_at r i) (column_at r j) (column_at r (suc j))
          (⊎_elim (λ e. subst (λ k. Ahead (column_at r i) (column_at r k)) e (ahead_self (column_at r i))) (λ n. on j n (omega arith)) (eq-or-lt_of_le (le_of_suc-le-suc m)))
          (b j h)

  drawn_acceptable : Drawn r → Acceptable r
  drawn_acceptable d =
      record { two = d.two; rises = λ i l. (d.beside i l).rises; apart = λ i j l h. by i j l h (dec_lt i j); crosses = d.crosses; small = d.small }
    where
      by : (i j : ℕ) → i < r.width → j < r.width → Dec (i < j)
          → nat_abs ((column_at r j).y -ℤ (column_at r i).y) ≤ nat_abs ((column_at r j).x -ℤ (column_at r i).x)
      by i j l h (yes m) = (ahead d.beside j i (omega arith) h).gentle
      by i j l h (no m) =
          let back = (ahead d.beside i j (omega arith) l).gentle in
          let x = swapped (column_at r j).x (column_at r i).x in
          let y = swapped (column_at r j).y (column_at r i).y in
          omega arith

  acceptable_drawn : Acceptable r → Drawn r
  acceptable_drawn a = record {
    two = a.two;
    beside = λ i l. record { rises = a.rises i l; gentle = a.apart i (suc i) (omega arith) l };
    crosses = a.crosses;
    small = a.small;
  }

  pub curve_accepted : form_rule r ≡ passes → (column_rule r ≡ passes) ↔ Acceptable r
  curve_accepted e = (λ h. drawn_acceptable (columns_drawn r (formed r e) h), λ a. drawn_passes r (acceptable_drawn a))
