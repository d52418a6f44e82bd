-- Counts over the rows: of uses, up to two, in one list for all rows; and of a test, which counts once at most.
use Prim.Native.Nat.{ℕ, zero, suc, ◌+◌, ◌<◌, min}
use native.Mathlib.Nat.{add-zero, add_assoc}
use native.Mathlib.Numerals.{add-one}
use native.Mathlib.Omega.{arith}
use mathlib.Core.Path.{◌≡◌, refl, sym, ap, ◌∙◌}
use mathlib.Core.Bool.{Bool, true, false, cond}
use mathlib.Core.List.{List}
use borrow.Author.Tests.{eqb-true, eqb-false, lt-ltb}
use lib.Dec.{eqb, ltb}
use lib.ListN.{length, get_or, set, length-set, get_or-replicate}
use lib.Seq.{get_or-set_same, get_or-set_other}
use Rattle.circuit.specs.Counting.{one, total}
use Rattle.circuit.specs.Record.{row_limit, row_in, names}
use Rattle.circuit.specs.declared.Part.{Part}
use Rattle.circuit.specs.declared.Part.TheVariants.{Blank, Leaf, Adaptor}
use Rattle.circuit.specs.declared.Row.{Row}
use Rattle.wiring.specs.Uses.{use_more, uses_by, uses_in}

-- ---- uses

-- row j has f j uses, counted up to two
pub record Uses (f : ℕ → ℕ) (us : List ℕ) : Type 0 where
  pub size : length us ≡ row_limit
  pub each : (j : ℕ) → j < row_limit → get_or us j 0 ≡ min 2 (f j)

one_use : (k : ℕ) (f : ℕ → ℕ) (us : List ℕ) → Uses f us → Uses (λ j. f j + one (eqb k j)) (use_more k us)
one_use k f us h = record { size = sized (ltb k row_limit); each = λ j l. at j l (eqb k j) refl }
  where
    with_more : Bool → List ℕ
    with_more b = cond b (set us k (min 2 (get_or us k 0 + 1))) us

    sized : (b : Bool) → length (with_more b) ≡ row_limit
    sized true = length-set us k _ ∙ h.size
    sized false = h.size

    kept : (j : ℕ) → (k ≡ j → ⊥) → (b : Bool) → get_or (with_more b) j 0 ≡ get_or us j 0
    kept j n true = get_or-set_other us k j _ 0 (λ e. n (sym e))
    kept j n false = refl

    at : (j : ℕ) → j < row_limit → (t : Bool) → eqb k j ≡ t → get_or (with_more (ltb k row_limit)) j 0 ≡ min 2 (f j + one (eqb k j))
    at j l true e =
        let same = eqb-true k j e in
        let in_rows : k < row_limit = omega arith in
        let more : min 2 (get_or us j 0 + 1) ≡ min 2 (f j + 1) = omega (arith, h.each j l) in
        rw (lt-ltb k row_limit in_rows, e, same) (get_or-set_same us j _ 0 (omega (arith, h.size)) ∙ more)
    at j l false e =
        let none : get_or us j 0 ≡ min 2 (f j + 0) = omega (arith, h.each j l) in
        rw e (kept j (eqb-false k j e) (ltb k row_limit) ∙ none)

by_part : (p : Part) (f : ℕ → ℕ) (us : List ℕ) → Uses f us → Uses (λ j. f j + names p j) (uses_by p us)
by_part Blank f us h = record { size = h.size; each = λ j l. rw (add-zero (f j)) (h.each j l) }
by_part (Leaf e) f us h = record { size = h.size; each = λ j l. rw (add-zero (f j)) (h.each j l) }
by_part (Adaptor a) f us h =
    let twice = one_use a.second _ _ (one_use a.first f us h) in
    record { size = twice.size; each = λ j l. rw (← add_assoc (f j) (one (eqb a.first j)) (one (eqb a.second j))) (twice.each j l) }

pub counted : (rows : List Row) (n : ℕ) → Uses (λ k. total (λ j. names (row_in rows j).part k) n) (uses_in rows n)
unfolding total uses_in
counted rows zero = record { size = refl; each = λ j l. get_or-replicate row_limit j 0 0 l }
counted rows (suc n) = by_part (row_in rows n).part _ (uses_in rows n) (counted rows n)

pub uses_next : (rows : List Row) (i : ℕ) {us : List ℕ} → us ≡ uses_in rows i → uses_by (row_in rows i).part us ≡ uses_in rows (i + 1)
unfolding uses_in
uses_next rows i e = rw (add-one i) (ap (uses_by (row_in rows i).part) e)
