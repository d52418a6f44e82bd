-- The rows of an accepted circuit stand in slots of their own: role by role, and within a role in the order of the rows.
use Prim.Native.Nat.{ℕ, zero, suc, ◌+◌, ◌-◌, ◌<◌, ◌≤◌}
use native.Mathlib.Nat.{le_refl, le_of_suc-le-suc, eq-or-lt_of_le}
use native.Mathlib.Decide.{dec_lt}
use native.Mathlib.Omega.{arith}
use borrow.Author.Tests.{eq-eqb, ne_eqb}
use mathlib.Core.Path.{◌≡◌, refl, sym, ap, ◌∙◌}
use mathlib.Core.Logic.{⊎_elim}
use lib.Dec.{eqb}
use Rattle.circuit.specs.Counting.{total, one}
use Rattle.circuit.specs.Numbers.{Verdict, passes, fails, lowest}
use Rattle.circuit.specs.Record.{part_at, inputs, adaptors_of}
use Rattle.circuit.specs.declared.Adaptor.{Adaptor as Joined}
use Rattle.circuit.specs.declared.Part.TheVariants.{Blank, Adaptor}
use Rattle.circuit.specs.declared.Record.{Record}
use Rattle.laws.specs.Accepted.{Child, Accepted}
use Rattle.laws.proofs.Counting as Counting
use Rattle.laws.proofs.Formed.{child_lower}
use Rattle.parts.specs.Parts.{role_of}
use Rattle.engine.specs.Plan.{floor, rank, base, slot_in, slot_of, top_slot, Slotted}
use Rattle.engine.proofs.Ranks.{rank_rises, rank_at}
use Rattle.engine.proofs.Roles.{role, role_few, parent_role}

module _ (r : Record) (acc : Accepted r) where
  -- a row that is not blank is in use
  pub in_use : (j : ℕ) → (part_at r j ≡ Blank → ⊥) → j < r.count
  in_use j h = elim (dec_lt j r.count) [ yes l ↦ l | no f ↦ absurd (h (acc.blank j (omega arith))) ]

  abbrev role_at : ℕ → ℕ
  role_at j = role_of (part_at r j)

  -- how many rows a role has, and its first slot
  abbrev many : ℕ → ℕ
  many c = rank r.rows c r.count

  abbrev first : ℕ → ℕ
  first = base r.rows r.count

  -- ---- how many there are

  every_row : (n : ℕ) → n ≤ r.count → rank r.rows 0 n + rank r.rows 1 n + rank r.rows 2 n + rank r.rows 3 n ≡ n
  unfolding rank total
  every_row zero l = refl
  every_row (suc n) l =
      let own = role (part_at r n) in
      omega (arith, every_row n (omega arith), own.once, ap one (own.blank ∙ acc.present n (omega arith)))

  one_input_lem : many 2 ≡ 1
  unfolding rank inputs
  one_input_lem = Counting.total_same _ _ r.count (λ j l. ap one (role (part_at r j)).input) ∙ acc.one_input

  all_adaptors : many 3 ≡ adaptors_of r
  unfolding rank adaptors_of
  all_adaptors = Counting.total_same _ _ r.count (λ j l. ap one (role (part_at r j)).adaptor)

  -- as many leaves besides the input as adaptors
  other_leaves : many 0 + many 1 ≡ adaptors_of r
  other_leaves = omega (arith, every_row r.count (le_refl r.count), one_input_lem, all_adaptors, acc.odd)

  few : adaptors_of r ≤ floor
  few = omega (arith, acc.short, acc.odd)

  -- ---- the slots of a role

  slot_at : (c j : ℕ) → role_at j ≡ c → slot_of r j ≡ first c + rank r.rows c j
  unfolding slot_in
  slot_at c j e = rw e

  lies : (c j : ℕ) → j < r.count → role_at j ≡ c → (first c ≤ slot_of r j) × (slot_of r j < first c + many c)
  lies c j l e = omega (arith, slot_at c j e, rank_rises r.rows c j r.count l e)

  -- below those of the next role, and of every higher one
  next : (c : ℕ) → c < 3 → first c + many c ≤ first (suc c)
  unfolding base
  next zero l = omega arith
  next (suc zero) l = omega (arith, other_leaves, few)
  next (suc (suc zero)) l = omega (arith, one_input_lem)
  next (suc (suc (suc c))) l = absurd (omega arith)

  higher : (c d : ℕ) → c < d → d < 4 → first c + many c ≤ first d
  higher c zero l h = absurd (omega arith)
  higher c (suc d) l h = ⊎_elim
      (λ e. rw e (next d (omega arith)))
      (λ m. omega (arith, higher c d m (omega arith), next d (omega arith)))
      (eq-or-lt_of_le (le_of_suc-le-suc l))

  -- and none above the top's
  pub low : (j : ℕ) → j < r.count → slot_of r j ≤ top_slot r
  unfolding base
  low j l =
      let most = role_few (part_at r j) (acc.present j l) in
      elim (dec_lt (role_at j) 3) [
        | yes h ↦ omega (arith, lies (role_at j) j l refl, higher (role_at j) 3 h (omega arith))
        | no f ↦ omega (arith, lies 3 j l (omega arith), all_adaptors)
      ]

  -- ---- the order of the slots: by role, then by row

  by_role : (i j : ℕ) → i < r.count → j < r.count → role_at i < role_at j → slot_of r i < slot_of r j
  by_role i j l m h =
      let apart = higher (role_at i) (role_at j) h (role_few (part_at r j) (acc.present j m)) in
      omega (arith, lies (role_at i) i l refl, lies (role_at j) j m refl)

  by_row : (i j : ℕ) → i < j → role_at i ≡ role_at j → slot_of r i < slot_of r j
  by_row i j l e = omega (arith, slot_at (role_at j) i e, slot_at (role_at j) j refl, rank_rises r.rows (role_at j) i j l e)

  own : (i j : ℕ) → i < j → j < r.count → slot_of r i ≡ slot_of r j → ⊥
  own i j l m e = elim (dec_lt (role_at i) (role_at j)) [
    | yes h ↦ omega (arith, by_role i j (omega arith) m h)
    | no f ↦ elim (dec_lt (role_at j) (role_at i)) [
      | yes h ↦ omega (arith, by_role j i m (omega arith) h)
      | no g ↦ omega (arith, by_row i j l (omega arith))
    ]
  ]

  -- ---- the row in a slot

  -- what a search for it came to
  abbrev place : Verdict → ℕ
  place passes = 0
  place (fails j) = j

  pub row_at : ℕ → ℕ
  row_at s = place (lowest (λ j. eqb (slot_of r j) s) r.count)

  back : (j : ℕ) → j < r.count → row_at (slot_of r j) ≡ j
  unfolding row_at
  back j l =
      let before = Counting.passes_lowest _ j (λ k m. ne_eqb _ _ (own k j m l)) in
      ap place (Counting.lowest_stop _ r.count j before l (eq-eqb (slot_of r j) _ refl))

  -- a row does stand in slot s
  abbrev Stands : ℕ → Type 0
  Stands s = (row_at s < r.count) × (slot_of r (row_at s) ≡ s)

  onto : (c s : ℕ) → first c ≤ s → s < first c + many c → Stands s × (role_at (row_at s) ≡ c)
  onto c s l h =
      let w = rank_at r.rows c r.count (s - first c) (omega arith) in
      let at : slot_of r w.0 ≡ s = omega (arith, slot_at c w.0 w.2, w.3) in
      let e : row_at s ≡ w.0 = ap row_at (sym at) ∙ back w.0 w.1 in
      rw e ((w.1, at), w.2)

  leaf : (s : ℕ) → s < adaptors_of r → Stands s
  unfolding base
  leaf s l = elim (dec_lt s (many 0)) [
    | yes h ↦ (onto 0 s (omega arith) (omega arith)).0
    | no f ↦ (onto 1 s (omega arith) (omega (arith, other_leaves))).0
  ]

  source : Stands floor
  unfolding base
  source = (onto 2 floor (omega arith) (omega (arith, one_input_lem))).0

  pub joint_at : (k : ℕ) → k < adaptors_of r → Stands (suc floor + k) × (role_at (row_at (suc floor + k)) ≡ 3)
  unfolding base
  joint_at k l = onto 3 (suc floor + k) (omega arith) (omega (arith, all_adaptors))

  -- ---- adaptors stand above their children, so the last row is the top

  above : (p c : ℕ) → Child (part_at r p) c → slot_of r c < slot_of r p
  unfolding role_of
  above p c h =
      let e = parent_role (part_at r p) c h in
      let l = in_use p (λ b. omega (arith, ap role_of b)) in
      let less = child_lower p (part_at r p) c (acc.lower p) h in
      let most = role_few (part_at r c) (acc.present c (omega arith)) in
      elim (dec_lt (role_at c) 3) [ yes d ↦ by_role c p (omega arith) l (omega arith) | no f ↦ by_row c p less (omega arith) ]

  top : Stands (top_slot r)
  top = elim (dec_lt 0 (adaptors_of r)) [
    | yes h ↦ let e : suc floor + (adaptors_of r - 1) ≡ top_slot r = omega arith in rw e at (joint_at (adaptors_of r - 1) (omega arith)).0
    | no f ↦ let none : adaptors_of r ≡ 0 = omega arith in rw none source
  ]

  last : slot_of r (r.count - 1) ≡ top_slot r
  last =
      let t = row_at (top_slot r) in
      elim (dec_lt (suc t) r.count) [
        | yes l ↦ let u = acc.used t l in absurd (omega (arith, above u.0 t u.1.child, low u.0 u.1.inside, top.1))
        | no f ↦ let e : r.count - 1 ≡ t = omega (arith, top.0) in rw e top.1
      ]

pub slotted : (r : Record) → Accepted r → Slotted r
unfolding base
slotted r acc = record {
  row = row_at r acc;
  back = back r acc;
  few = few r acc;
  fewer = omega (arith, other_leaves r acc);
  reactive = λ j l e. omega (arith, lies r acc 0 j l e);
  other = λ j l e. omega (arith, lies r acc 1 j l e, other_leaves r acc);
  input = λ j l e. omega (arith, lies r acc 2 j l e, one_input_lem r acc);
  adaptor = λ j l e. omega (arith, lies r acc 3 j l e, all_adaptors r acc);
  leaf = leaf r acc;
  source = source r acc;
  above = above r acc;
  last = last r acc;
}

-- ---- what they give

pub same_row : {r : Record} → Slotted r → (i j : ℕ) → i < r.count → j < r.count → slot_of r i ≡ slot_of r j → i ≡ j
same_row slotted i j l m e = sym (slotted.back i l) ∙ ap slotted.row e ∙ slotted.back j m

pub adaptor_slot : {r : Record} → Slotted r → (p : ℕ) {a : Joined} → p < r.count → part_at r p ≡ Adaptor a
    → (floor < slot_of r p) × (slot_of r p ≤ top_slot r)
unfolding role_of
adaptor_slot slotted p l e = slotted.adaptor p l (ap role_of e)
