-- A list that a loop fills at the rows' slots: each row below i has its value in its slot, and keeps it when row i is placed.
use Prim.Native.Nat.{ℕ, ◌+◌, ◌<◌, ◌≤◌}
use native.Mathlib.Omega.{arith}
use borrow.Author.Count.{below_none}
use mathlib.Core.Path.{◌≡◌, sym, ap, ◌∙◌}
use mathlib.Core.List.{List}
use lib.ListN.{length, get_or, set, length-set}
use Rattle.circuit.specs.Record.{row_limit}
use Rattle.circuit.specs.declared.Record.{Record}
use Rattle.engine.specs.Plan.{slot_of, Seated}
use Rattle.engine.proofs.Fill.{stored_more}
use Rattle.engine.proofs.Slots.{low, same_row}

-- ---- slots

-- slots of so many rows, in range and each its own
pub record Own (slots : List ℕ) (count : ℕ) : Type 0 where
  pub short : count ≤ row_limit
  pub low : (j : ℕ) → j < count → get_or slots j 0 < row_limit
  pub own : (i j : ℕ) → i < count → j < count → get_or slots i 0 ≡ get_or slots j 0 → i ≡ j

pub seated_own : {r : Record} {slots : List ℕ} → Seated r slots → Own slots r.count
seated_own {r} h =
    let s = h.slotted in
    record {
      short = h.accepted.short;
      low = λ j l. rw (h.slot j l) (omega (arith, low r h.accepted j l, s.few));
      own = λ i j l m q. same_row s i j l m (sym (h.slot i l) ∙ q ∙ h.slot j m);
    }

-- ---- values in slots

-- f j is the value of row j; the first n rows are placed
pub record Placed {A : Type 0} (d : A) (slots : List ℕ) (f : ℕ → A) (n : ℕ) (l : List A) : Type 0 where
  pub long : length l ≡ row_limit
  pub at : (j : ℕ) → j < n → get_or l (get_or slots j 0) d ≡ f j

module _ {A : Type 0} {d : A} {slots : List ℕ} {f : ℕ → A} {l : List A} where
  pub placed_start : length l ≡ row_limit → Placed d slots f 0 l
  placed_start e = record { long = e; at = below_none _ }

  pub placed_more : {count i s : ℕ} {v : A} → Own slots count → i < count → s ≡ get_or slots i 0 → v ≡ f i
      → Placed d slots f i l → Placed d slots f (i + 1) (set l s v)
  placed_more {count} {i} {s} {v} h inside e value p = record {
    long = length-set l s v ∙ p.long;
    at =
        stored_more (λ j x. x ≡ f j) d (λ j. get_or slots j 0) l i s v (sym e) (omega (arith, h.low i inside, p.long)) p.at
        (λ j m q. value ∙ ap f (h.own i j inside (omega arith) (sym e ∙ sym q)));
  }

-- what the circuit then has, whose rows stand in these slots
pub placed_all : {A : Type 0} {d : A} {r : Record} {slots : List ℕ} {f : ℕ → A} {l : List A} → Seated r slots → Placed d slots f r.count l
    → (j : ℕ) → j < r.count → get_or l (slot_of r j) d ≡ f j
placed_all {d = d} {l = l} h p j m = ap (λ s. get_or l s d) (sym (h.slot j m)) ∙ p.at j m
