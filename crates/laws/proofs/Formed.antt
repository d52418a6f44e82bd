-- What rules 4 and 6 give, row by row: which rows are blank, that children are lower, and that each row but the last has one adaptor above it
-- and no more. A row past the record's array reads as blank, so most of it holds for every number.
use Prim.Native.Nat.{ℕ, suc, ◌+◌, ◌-◌, ◌<◌, ◌≤◌}
use native.Mathlib.Nat.{lt_of_lt_of_le}
use native.Mathlib.Decide.{dec_lt}
use native.Mathlib.Omega.{arith}
use borrow.Author.Tests.{leb-true, ltb-true, eqb-true, le-leb, lt-leb, eq-eqb, not-false}
use mathlib.Core.Path.{◌≡◌, refl, sym, ap, ◌∙◌, subst}
use mathlib.Core.Logic.{◌⊎◌, inl, inr}
use mathlib.Core.Bool.{Bool, true, false, beq, and-eq-true_iff, true≢false}
use lib.Dec.{eqb, leb}
use lib.ListN.{get_or-eq_default}
use Rattle.circuit.specs.Counting.{one}
use Rattle.circuit.specs.Numbers.{passes}
use Rattle.circuit.specs.Record.{row_limit, column_limit, blank_row, part_at, is_blank, is_set, form_rule, not_lower, children_rule, names, uses, used_once_rule}
use Rattle.circuit.specs.declared.Part.{Part}
use Rattle.circuit.specs.declared.Part.TheVariants.{Blank, Leaf, Adaptor}
use Rattle.circuit.specs.declared.Record.{Record}
use Rattle.laws.specs.Accepted.{Sized, Child, Lower, Apart, Parent}
use Rattle.laws.proofs.Counting as Counting

-- ---- rule 4

pub record Formed (r : Record) : Type 0 where
  pub some : 0 < r.count
  pub short : r.count ≤ row_limit
  pub narrow : 2 ≤ r.width
  pub wide : r.width ≤ column_limit
  pub set : is_set r.kind ≡ true
  pub rows : (j : ℕ) → j < row_limit → is_blank (part_at r j) ≡ leb r.count j

beq_true : (a b : Bool) → beq a b ≡ true → a ≡ b
beq_true true true e = refl
beq_true true false e = sym e
beq_true false true e = e
beq_true false false e = refl

pub formed : (r : Record) → form_rule r ≡ passes → Formed r
unfolding form_rule
formed r e =
    let tests = Counting.unless_passes _ 0 e in
    let first = (and-eq-true_iff _ _).0 tests in
    let second = (and-eq-true_iff _ _).0 first.0 in
    let third = (and-eq-true_iff _ _).0 second.0 in
    let fourth = (and-eq-true_iff _ _).0 third.0 in
    let count = (and-eq-true_iff (leb 1 r.count) (leb r.count row_limit)).0 fourth.0 in
    let width = (and-eq-true_iff (leb 2 r.width) (leb r.width column_limit)).0 fourth.1 in
    record {
      some = leb-true 1 r.count count.0;
      short = leb-true r.count row_limit count.1;
      narrow = leb-true 2 r.width width.0;
      wide = leb-true r.width column_limit width.1;
      set = third.1;
      rows = λ j l. beq_true _ _ ((and-eq-true_iff _ _).0 (Counting.every_true _ row_limit second.1 j l)).0;
    }

is_blank_lem : (p : Part) → is_blank p ≡ true → p ≡ Blank
is_blank_lem Blank e = refl
is_blank_lem (Leaf x) e = absurd (true≢false (sym e))
is_blank_lem (Adaptor a) e = absurd (true≢false (sym e))

module _ (r : Record) (f : Formed r) where
  pub rows_present : (j : ℕ) → j < r.count → is_blank (part_at r j) ≡ false
  rows_present j l = f.rows j (lt_of_lt_of_le l f.short) ∙ lt-leb r.count j l

  pub rows_blank : Sized r → (j : ℕ) → r.count ≤ j → part_at r j ≡ Blank
  rows_blank s j l = by (dec_lt j row_limit)
    where
      by : Dec (j < row_limit) → part_at r j ≡ Blank
      by (yes h) = is_blank_lem (part_at r j) (f.rows j h ∙ le-leb r.count j l)
      by (no h) = ap (λ x. x.part) (get_or-eq_default r.rows blank_row (let size = s.rows in omega arith))

-- ---- rule 6: children are lower

lower_of : (j : ℕ) (p : Part) → not_lower j p ≡ false → Lower j p
unfolding Lower
lower_of j Blank e = tt
lower_of j (Leaf x) e = tt
lower_of j (Adaptor a) e =
    let both = (and-eq-true_iff _ _).0 (not-false _ e) in
    (ltb-true a.first j both.0, ltb-true a.second j both.1)

pub rows_lower : (r : Record) → Sized r → Formed r → children_rule r ≡ passes → (j : ℕ) → Lower j (part_at r j)
unfolding children_rule
rows_lower r s f e j = by (dec_lt j r.count)
  where
    by : Dec (j < r.count) → Lower j (part_at r j)
    by (yes h) = lower_of j (part_at r j) (Counting.lowest_passes _ r.count e j h)
    by (no h) = subst (Lower j) (sym (rows_blank r f s j (omega arith))) (lower_of j Blank refl)

-- ---- rule 6: each row but the last is a child exactly once

names_one : (a c : ℕ) → c ≡ a → one (eqb a c) ≡ 1
names_one a c e = ap one (eq-eqb a c (sym e))

-- a child is named, and what is named is a child
named : (p : Part) (c : ℕ) → Child p c → 0 < names p c
unfolding Child
named Blank c h = absurd h
named (Leaf x) c h = absurd h
named (Adaptor a) c (inl e) = let first = names_one a.first c e in omega arith
named (Adaptor a) c (inr e) = let second = names_one a.second c e in omega arith

child : (p : Part) (c : ℕ) → 0 < names p c → Child p c
unfolding Child
child Blank c h = omega arith
child (Leaf x) c h = omega arith
child (Adaptor a) c h = by (eqb a.first c) refl (eqb a.second c) refl h
  where
    by : (v : Bool) → eqb a.first c ≡ v → (w : Bool) → eqb a.second c ≡ w → 0 < one v + one w → (c ≡ a.first) ⊎ (c ≡ a.second)
    by true e w d h = inl (sym (eqb-true a.first c e))
    by false e true d h = inr (sym (eqb-true a.second c d))
    by false e false d h = absurd (let none : ⊥ = omega arith in none)

-- a child is lower
pub child_lower : (j : ℕ) (p : Part) (c : ℕ) → Lower j p → Child p c → c < j
unfolding Child Lower
child_lower j Blank c l h = absurd h
child_lower j (Leaf x) c l h = absurd h
child_lower j (Adaptor a) c l (inl e) = subst (λ m. m < j) (sym e) l.0
child_lower j (Adaptor a) c l (inr e) = subst (λ m. m < j) (sym e) l.1

-- an adaptor that names no child twice has two children
apart_of : (p : Part) → ((k : ℕ) → Child p k → names p k ≤ 1) → Apart p
unfolding Apart Child
apart_of Blank h = tt
apart_of (Leaf x) h = tt
apart_of (Adaptor a) h = λ e.
    let least = h a.first (inl refl) in
    let first = names_one a.first a.first refl in
    let second = names_one a.second a.first e in
    omega arith

no_child : (p : Part) (c : ℕ) → p ≡ Blank → Child p c → ⊥
unfolding Child
no_child p c e h = subst (λ q. Child q c) e h

module _ (r : Record) (s : Sized r) (f : Formed r) (lower : (j : ℕ) → Lower j (part_at r j)) (e : used_once_rule r ≡ passes) where
  -- only rows below the count have children
  parent_inside : (p c : ℕ) → Child (part_at r p) c → p < r.count
  parent_inside p c h = by (dec_lt p r.count)
    where
      by : Dec (p < r.count) → p < r.count
      by (yes l) = l
      by (no l) = absurd (no_child (part_at r p) c (rows_blank r f s p (omega arith)) h)

  pub used_once_lem : (k : ℕ) → suc k < r.count → uses r k ≡ 1
  unfolding used_once_rule
  used_once_lem k l = eqb-true (uses r k) 1 (not-false _ (Counting.lowest_passes _ (r.count - 1) e k (omega arith)))

  -- a child of a row below the count is used once
  child_once : (p c : ℕ) → Child (part_at r p) c → uses r c ≡ 1
  child_once p c h =
      let inside = parent_inside p c h in
      let less = child_lower p (part_at r p) c (lower p) h in
      used_once_lem c (omega arith)

  not_two : (p q c : ℕ) → Child (part_at r p) c → Child (part_at r q) c → p < q → ⊥
  unfolding uses
  not_two p q c h i l =
      let once = child_once p c h in
      let first = named (part_at r p) c h in
      let second = named (part_at r q) c i in
      let two = Counting.total_two (λ j. names (part_at r j) c) r.count p q l (parent_inside q c i) in
      omega arith

  pub rows_once : (p q c : ℕ) → Child (part_at r p) c → Child (part_at r q) c → p ≡ q
  rows_once p q c h i =
      let less = not_two p q c h i in
      let more = not_two q p c i h in
      omega arith

  pub rows_apart : (p : ℕ) → Apart (part_at r p)
  unfolding uses
  rows_apart p = apart_of (part_at r p)
      (λ k h. let once = child_once p k h in
      let here = Counting.total_has (λ j. names (part_at r j) k) r.count p (parent_inside p k h) in
      omega arith)

  pub rows_used : (k : ℕ) → suc k < r.count → (p : ℕ) × Parent r p k
  unfolding uses
  rows_used k l =
      let once = used_once_lem k l in
      let w = Counting.total_some (λ j. names (part_at r j) k) r.count (omega arith) in
      (w.0, record { inside = w.1; child = child (part_at r w.0) k w.2 })
