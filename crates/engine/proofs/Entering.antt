-- Entering the adaptors at their places, row by row: the list says what each adaptor below row i is.
use Prim.Native.Nat.{ℕ, suc, ◌+◌, ◌-◌, ◌<◌}
use native.Mathlib.Omega.{arith}
use borrow.Author.Count.{below_more}
use borrow.Author.Tests.{eq-eqb}
use mathlib.Core.Path.{◌≡◌, sym, ap, ap₂, ◌∙◌, subst}
use mathlib.Core.List.{List}
use lib.ListN.{length, set, length-set}
use lib.IntN.{pos}
use Rattle.circuit.specs.Record.{part_at}
use Rattle.circuit.specs.SetUp.{ratio_at}
use Rattle.circuit.specs.declared.Adaptor.{Adaptor as Joined}
use Rattle.circuit.specs.declared.Part.TheVariants.{Adaptor}
use Rattle.circuit.specs.declared.Prepared.{Prepared}
use Rattle.circuit.specs.declared.Record.{Record}
use Rattle.laws.specs.Accepted.{adaptor_limit, Lower}
use Rattle.engine.specs.declared.plan.Joint.{Joint}
use Rattle.engine.specs.Plan.{floor, slot_of, no_joint, joint_in, Staged, Layable}
use Rattle.engine.proofs.Fill.{stored_more}
use Rattle.engine.proofs.Roles.{role, joined}
use Rattle.engine.proofs.Slots.{row_at, joint_at, same_row, adaptor_slot}

-- the place of an adaptor, and what is entered there
abbrev place_of : Record → ℕ → ℕ
place_of r j = slot_of r j - floor - 1

abbrev pub entry_of : Record → Joined → ℕ → Joint
entry_of r a j = record { join = a.join; first = slot_of r a.first; second = slot_of r a.second; ratio = pos (ratio_at r j) }

-- the adaptors below row n are entered
pub record Entered (r : Record) (n : ℕ) (joints : List Joint) : Type 0 where
  pub long : length joints ≡ adaptor_limit
  pub entry : (j : ℕ) → j < n → (a : Joined) → part_at r j ≡ Adaptor a → joint_in joints (place_of r j) ≡ entry_of r a j

pub passed_over : {r : Record} {joints : List Joint} {i : ℕ} → ((a : Joined) → part_at r i ≡ Adaptor a → ⊥) → Entered r i joints → Entered r (i + 1) joints
passed_over {i = i} other done = record { long = done.long; entry = below_more _ i done.entry (λ a e. absurd (other a e)) }

module _ {r : Record} {prepared : List Prepared} {slots : List ℕ} (h : Layable r prepared slots) where
  -- an adaptor stands above the floor, its place is in range, and its children are lower rows
  pub high : (j : ℕ) (a : Joined) → j < r.count → part_at r j ≡ Adaptor a → (floor < slot_of r j) × (place_of r j < adaptor_limit)
  high j a l e = let s = adaptor_slot h.seated.slotted j l e in (s.0, omega (arith, h.seated.slotted.few))

  pub lower : (j : ℕ) (a : Joined) → part_at r j ≡ Adaptor a → (a.first < j) × (a.second < j)
  unfolding Lower
  lower j a e = subst (Lower j) e (h.seated.accepted.lower j)

  -- one adaptor more
  pub entered_more : {joints : List Joint} {i k : ℕ} {v : Joint} (a : Joined) → i < r.count → part_at r i ≡ Adaptor a → k ≡ place_of r i
      → v ≡ entry_of r a i → Entered r i joints → Entered r (i + 1) (set joints k v)
  entered_more {joints} {i} {k} {v} a inside e place value done = record {
    long = length-set joints k v ∙ done.long;
    entry =
        stored_more (λ j x. (b : Joined) → part_at r j ≡ Adaptor b → x ≡ entry_of r b j) no_joint (place_of r) joints i k v (sym place)
        (omega (arith, high i a inside e, done.long)) done.entry
        (λ j m s b f. let same = only j b m s f in value ∙ ap₂ (entry_of r) same.1 same.0);
  }
    where
      -- no other adaptor has the place
      only : (j : ℕ) (b : Joined) → j < i + 1 → place_of r j ≡ k → part_at r j ≡ Adaptor b → (i ≡ j) × (a ≡ b)
      only j b m s f =
          let l : j < r.count = omega arith in
          let row = same_row h.seated.slotted i j inside l (omega (arith, high i a inside e, high j b l f)) in
          let part : Adaptor a ≡ Adaptor b = sym e ∙ ap (part_at r) row ∙ f in
          (row, cc)

  pub all_staged : {joints : List Joint} → Entered r r.count joints → Staged r joints
  all_staged {joints} done k l =
      let acc = h.seated.accepted in
      let j = row_at r acc (suc floor + k) in
      let w = joint_at r acc k l in
      let b = joined (part_at r j) (sym (role (part_at r j)).adaptor ∙ eq-eqb _ _ w.1) in
      let place : place_of r j ≡ k = omega (arith, w.0.1) in
      let entry : joint_in joints k ≡ entry_of r b.0 j = rw place at (done.entry j w.0.0 b.0 b.1) in
      record {
        row = j;
        adaptor = b.0;
        inside = w.0.0;
        part = b.1;
        place = w.0.1;
        join = ap (λ (x : Joint). x.join) entry;
        first = ap (λ (x : Joint). x.first) entry;
        second = ap (λ (x : Joint). x.second) entry;
        ratio = ap (λ (x : Joint). x.ratio) entry;
      }
