-- The sweep down. An adaptor's children hold what it sends them from its own slot, and no later turn changes that: a child has no other adaptor
-- above it, and stands below its own. So in the end each leaf's slot holds what the tree's own recursion brings there.
use Prim.Native.Nat.{ℕ, zero, suc, ◌+◌, ◌-◌, ◌<◌, ◌≤◌}
use native.Mathlib.Decide.{ℕ_discrete}
use native.Mathlib.Omega.{arith}
use mathlib.Core.Path.{◌≡◌, refl, sym, ap, ◌∙◌, subst}
use mathlib.Core.Bool.{Bool, true, false, cond, ◌||◌}
use mathlib.Core.List.{List, [], ◌∷◌}
use lib.Dec.{T, eqb→eq}
use lib.ListN.{get_or, length, set, length-set}
use lib.Seq.{get_or-set_same, get_or-set_other, lt-length-set}
use lib.IntN.{ℤ, pos, nat_abs}
use Rattle.whole.specs.Order.{Abs, abs_as}
use Rattle.circuit.specs.Record.{part_at, leaf, tree_at, tree_of, last_row}
use Rattle.circuit.specs.SetUp.{ratio_at}
use Rattle.circuit.specs.Curve.{wave_limit}
use Rattle.circuit.specs.Sample.{rounding_of, rounded, reach, holds, stored_at}
use Rattle.circuit.specs.declared.Join.{Join}
use Rattle.circuit.specs.declared.Adaptor.{Adaptor as Joined}
use Rattle.circuit.specs.declared.Part.{Part}
use Rattle.circuit.specs.declared.Part.TheVariants.{Blank, Leaf, Adaptor}
use Rattle.circuit.specs.declared.Record.{Record}
use Rattle.laws.specs.Accepted.{adaptor_limit}
use Rattle.laws.proofs.Trees as Trees
use Rattle.engine.specs.Wave.{down_limit, way, Beneath}
use Rattle.engine.specs.declared.plan.Plan.{Plan}
use Rattle.engine.specs.Plan.{floor, slot_of, top_slot}
use Rattle.engine.specs.Sweep.{rises, Risen, Swept, Modest, Drops, Reached}
use Rattle.engine.proofs.Range.{sends_to, down_range}
use Rattle.engine.proofs.Turn.{child_of, child_there, child_under, parent_is, same_row, adaptor_slot, Turn}
use Rattle.engine.proofs.Turn.{child_inside, own_slot, child_slot, slots_apart, slot_inside, rises_range, both_few}
use Rattle.engine.proofs.Turn.{wave_right, sends_right, below}

-- ---- what holds of every wave, and of one that is stored, holds of every wave afterwards

stored_each : {A : Type 0} (P : A → Type 0) (d v : A) → P v → (l : List A) → ((j : ℕ) → P (get_or l j d)) → (i j : ℕ) → P (get_or (set l i v) j d)
stored_each P d v p [] h i j = h j
stored_each P d v p (a ∷ l) h zero zero = p
stored_each P d v p (a ∷ l) h zero (suc j) = h (suc j)
stored_each P d v p (a ∷ l) h (suc i) zero = h zero
stored_each P d v p (a ∷ l) h (suc i) (suc j) = stored_each P d v p l (λ k. h (suc k)) i j

pub modest_set : {ds : List ℤ} → Modest ds → (i : ℕ) {v : ℤ} → Abs v (down_limit adaptor_limit) → Modest (set ds i v)
modest_set {ds} m i {v} h = record {
  long = length-set ds i v ∙ m.long;
  small = stored_each (λ z. Abs z (down_limit adaptor_limit)) (pos 0) v h ds m.small i;
}

-- ---- the adaptors that have sent

-- what the adaptor at row p sends to a side, with a3 from above
abbrev falls : Record → (ℕ → ℤ) → ℕ → Joined → ℤ → Bool → ℤ
falls r w p a a3 side = sends_to (rounding_of r.version) side a.join (ratio_at r p) (rises r w a.first) (rises r w a.second) a3

-- its children hold that, and no more than can come past it and all adaptors with higher slots
pub record Sent (r : Record) (w : ℕ → ℤ) (p : ℕ) (a : Joined) (ds : List ℤ) : Type 0 where
  pub waves : (side : Bool) → stored_at ds (slot_of r (child_of a side)) ≡ falls r w p a (stored_at ds (slot_of r p)) side
  pub small : (side : Bool) → Abs (stored_at ds (slot_of r (child_of a side))) (down_limit (suc (top_slot r - slot_of r p)))

-- those with slots above m have sent
pub record Falling (r : Record) (w : ℕ → ℤ) (top : ℤ) (m : ℕ) (ds : List ℤ) : Type 0 where
  pub modest : Modest ds
  pub above : stored_at ds (top_slot r) ≡ top
  pub quiet : Abs top wave_limit
  pub sent : (p : ℕ) (a : Joined) → p < r.count → part_at r p ≡ Adaptor a → m < slot_of r p → Sent r w p a ds

pub falling_begun : {plan : Plan} {ups ds : List ℤ} (d : Drops plan ups ds)
    → Falling d.swept.circuit d.swept.wave (stored_at ds (top_slot d.swept.circuit)) (floor + plan.adaptors) ds
falling_begun d = record {
  modest = d.modest;
  above = refl;
  quiet = rw (← d.swept.all) d.answer;
  sent = λ p a l e h. absurd (omega (arith, adaptor_slot d.swept.slotted p l e, d.swept.all));
}

-- ---- the turn of the sweep down

module _ {plan : Plan} (s : Swept plan) where
  open s use {circuit as r, wave as w, accepted, slotted, all, rounds}

  module _ {own : ℕ} {j : Join} {slots : Bool → ℕ} {g : ℤ} (t : Turn r own j slots g) {top : ℤ} {ds : List ℤ} (falling : Falling r w top own ds) where
    open t use {row, adaptor, inside, part, place, join, child, ratio}

    -- its own wave came from the top, or from the adaptor above, in row p
    from_above : (p : ℕ) (a : Joined) (side : Bool) → p < r.count → part_at r p ≡ Adaptor a → row ≡ child_of a side → own < slot_of r p
        → Abs (stored_at ds own) (down_limit (top_slot r - own))
    from_above p a side l e c higher =
        abs_as ((falling.sent p a l e higher).small side) (ap (stored_at ds) (ap (slot_of r) (sym c) ∙ place))
        (omega (arith, adaptor_slot slotted p l e))

    own_range : Abs (stored_at ds own) (down_limit (top_slot r - own))
    own_range = elim (ℕ_discrete row (r.count - 1)) [
      | yes e ↦ abs_as falling.quiet (sym (ap (stored_at ds) (sym place ∙ ap (slot_of r) e ∙ slotted.last) ∙ falling.above)) (omega arith)
      | no f ↦
          let p = accepted.used row (omega (arith, inside)) in
          let a = parent_is (part_at r p.0) row p.1.child in
          from_above p.0 a.0 a.1 p.1.inside a.2 a.3 (rw (← place) (slotted.above p.0 row p.1.child))
    ]

    -- `heard` are its children's waves, `a3` its own
    module _ {ups : List ℤ} (risen : Risen r w (suc floor + plan.adaptors) ups)
        {heard : Bool → ℤ} (hears : (side : Bool) → heard side ≡ stored_at ups (slots side)) {a3 : ℤ} (comes : a3 ≡ stored_at ds own) where
      enough : own ≤ suc floor + plan.adaptors
      enough = omega (arith, own_slot s t, all)

      pub beneath : {u : ℤ} → u ≡ stored_at ups own → Beneath (way plan.inward) j g (heard true) (heard false) u a3
      beneath e = record {
        below = below s t enough risen hears;
        sent = e ∙ ap (stored_at ups) (sym place) ∙ risen.right row inside (omega (arith, place, enough, own_slot s t, all))
            ∙ sym (sends_right s t enough risen hears);
        above = rw comes (abs_as own_range refl (omega (arith, own_slot s t, slotted.few)));
      }

      -- `v` is what is sent to each side
      module _ (v : Bool → ℤ) (e : (side : Bool) → v side ≡ sends_to (way plan.inward) side j (nat_abs g) (heard true) (heard false) a3) where
        after : List ℤ
        after = set (set ds (slots true) (v true)) (slots false) (v false)

        sent_range : (side : Bool) → Abs (falls r w row adaptor (stored_at ds own) side) (down_limit (suc (top_slot r - own)))
        sent_range side =
            subst
            (λ ρ. Abs (sends_to ρ side adaptor.join (ratio_at r row) (rises r w adaptor.first) (rises r w adaptor.second) (stored_at ds own))
            (down_limit (suc (top_slot r - own))))
            (sym rounds)
            (abs_as (down_range (plan.inward, refl) (ratio_at r row) (accepted.ratio row) (rises_range s t _) (rises_range s t _) own_range side adaptor.join) refl
            (omega (arith, both_few s t)))

        sent_right : (side : Bool) → v side ≡ falls r w row adaptor (stored_at ds own) side
        sent_right side =
            let waves = wave_right s t enough risen hears in
            e side ∙ ap (λ ρ. sends_to ρ side j (nat_abs g) (heard true) (heard false) a3) (sym rounds) ∙ rw (waves true, waves false, comes, join, ratio)

        room : (side : Bool) → slots side < length ds
        room side = omega (arith, slot_inside s t side, falling.modest.long)

        -- the children have what is sent, and every other slot what it had
        at_child : (side : Bool) → stored_at after (slots side) ≡ falls r w row adaptor (stored_at ds own) side
        unfolding after
        at_child true = let apart = slots_apart s t in let inside = room true in rw (get_or-set_other, get_or-set_same) (sent_right true)
        at_child false = let inside = lt-length-set ds (slots true) (v true) (room false) in rw get_or-set_same (sent_right false)

        elsewhere : (x : ℕ) → ((side : Bool) → x ≡ slots side → ⊥) → stored_at after x ≡ stored_at ds x
        unfolding after
        elsewhere x free = let first = free true in let second = free false in rw (get_or-set_other, get_or-set_other)

        higher : (x : ℕ) → own ≤ x → stored_at after x ≡ stored_at ds x
        higher x l = elsewhere x (λ side q. omega (arith, child_slot s t side))

        here : Sent r w row adaptor after
        here = record {
          waves = λ side. rw (← child side, place, higher own (omega arith)) (at_child side);
          small = λ side. rw (← child side, place, at_child side) (sent_range side);
        }

        -- a child of another adaptor is none of this one's
        others : (p : ℕ) (a : Joined) → p < r.count → part_at r p ≡ Adaptor a → own < slot_of r p → Sent r w p a after
        others p a l q h =
            let old = falling.sent p a l q h in
            let kept : (side : Bool) → stored_at after (slot_of r (child_of a side)) ≡ stored_at ds (slot_of r (child_of a side)) =
            λ side. elsewhere (slot_of r (child_of a side)) (λ mine shared.
            let c = same_row slotted _ _ (omega (arith, l, child_under p (accepted.lower p) q side)) (child_inside s t mine) (shared ∙ child mine) in
            let same = accepted.once p row (child_of a side) (child_there q side) (rw c (child_there part mine)) in
            omega (arith, ap (slot_of r) same, place)) in
            record {
              waves = λ side. rw (kept side, higher (slot_of r p) (omega arith)) (old.waves side);
              small = λ side. rw (kept side) (old.small side);
            }

        pub fallen : {m : ℕ} → own ≤ suc m → Falling r w top m (set (set ds (slots true) (v true)) (slots false) (v false))
        unfolding after
        fallen more =
            let small : (side : Bool) → Abs (v side) (down_limit adaptor_limit) =
            λ side. abs_as (sent_range side) (sym (sent_right side)) (omega (arith, own_slot s t, slotted.few)) in
            record {
              modest = modest_set (modest_set falling.modest (slots true) (small true)) (slots false) (small false);
              above = higher (top_slot r) (own_slot s t).1 ∙ falling.above;
              quiet = falling.quiet;
              sent = λ p a l q h. elim (ℕ_discrete (slot_of r p) own) [
                | yes mine ↦
                    let same : p ≡ row = same_row slotted p row l inside (mine ∙ sym place) in
                    let parts : Adaptor a ≡ Adaptor adaptor = sym q ∙ ap (part_at r) same ∙ part in
                    let same_adaptor : a ≡ adaptor = cc in
                    rw (same, same_adaptor) here
                | no f ↦ others p a l q (omega arith)
              ];
            }

-- ---- all adaptors have sent: from the top down, on the side whose tree holds the leaf

goes_on : (b : Bool) (f : ℕ → Bool) (x y : ℕ) → f x ≡ b → T (f x || f y) → T (f (cond b x y))
goes_on true f x y e h = subst T (sym e) tt
goes_on false f x y e h = rw e at h

module _ {plan : Plan} (s : Swept plan) {top : ℤ} {m : ℕ} {ds : List ℤ} (low : m ≤ floor) (falling : Falling s.circuit s.wave top m ds)
    (j : ℕ) where
  open s use {circuit as r, wave as w, accepted, slotted}

  abbrev reaches : ℕ → ℤ → ℤ
  reaches i a3 = reach (rounded r) (ratio_at r) w (tree_at r i) a3 j

  -- the leaf has what reaches it from row i
  abbrev Goes : ℕ → Type 0
  Goes i = T (holds (tree_at r i) j) → stored_at ds (slot_of r j) ≡ reaches i (stored_at ds (slot_of r i))

  at_leaf : (i : ℕ) → tree_at r i ≡ leaf i → Goes i
  unfolding holds
  at_leaf i t held =
      sym (ap (λ x. stored_at ds (slot_of r x)) (eqb→eq i j (subst (λ x. T (holds x j)) t held)))
      ∙ sym (Trees.reach_leaf r accepted.lower i t (rounded r) (ratio_at r) w (stored_at ds (slot_of r i)) j)

  by_side : (i : ℕ) (a : Joined) (a3 : ℤ) (side : Bool)
      → cond side (reaches a.first (falls r w i a a3 true)) (reaches a.second (falls r w i a a3 false))
      ≡ reaches (child_of a side) (falls r w i a a3 side)
  by_side i a a3 true = refl
  by_side i a a3 false = refl

  one_down : (i : ℕ) → i < r.count → ((c : ℕ) → c < i → Goes c) → (p : Part) → part_at r i ≡ p → Goes i
  unfolding holds
  one_down i l deeper Blank e = at_leaf i (Trees.tree_blank r accepted.lower i e)
  one_down i l deeper (Leaf x) e = at_leaf i (Trees.tree_leaf r accepted.lower i x e)
  one_down i l deeper (Adaptor a) e = λ held.
      let a3 = stored_at ds (slot_of r i) in
      let side = holds (tree_at r a.first) j in
      let either = subst (λ x. T (holds x j)) (Trees.tree_adaptor r accepted.lower i a e) held in
      let sent = falling.sent i a l e (omega (arith, adaptor_slot slotted i l e)) in
      deeper (child_of a side) (child_under i (accepted.lower i) e side) (goes_on side (λ x. holds (tree_at r x) j) a.first a.second refl either)
      ∙ ap (reaches (child_of a side)) (sent.waves side)
      ∙ sym (Trees.reach_adaptor r accepted.lower i a e (rounded r) (ratio_at r) w a3 j ∙ by_side i a a3 side)

  all_down : (d i : ℕ) → i < d → i < r.count → Goes i
  all_down zero i h l = absurd (omega arith)
  all_down (suc d) i h l = one_down i l (λ c m. all_down d c (omega arith) (omega arith)) (part_at r i) refl

pub reached : {plan : Plan} (s : Swept plan) {m : ℕ} → m ≤ floor → {before ds : List ℤ}
    → Falling s.circuit s.wave (stored_at before (top_slot s.circuit)) m ds → Reached s.circuit s.wave before ds
unfolding tree_of last_row
reached s low {ds = ds} falling =
    let r = s.circuit in
    let last : r.count - 1 < r.count = omega (arith, s.accepted.some) in
    record {
      modest = falling.modest;
      above = falling.above;
      leaves = λ j e.
          all_down s low falling j r.count (r.count - 1) last last (s.accepted.held j (subst T (sym e) tt))
          ∙ ap (λ a3. reach (rounded r) (ratio_at r) s.wave (tree_of r) a3 j) (ap (stored_at ds) s.slotted.last ∙ falling.above);
    }
