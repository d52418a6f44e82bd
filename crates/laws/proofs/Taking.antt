-- Laws of a call of a take and of its ending: which of 3 to 12, 15, 16 and 17 decides them, and what a call carries on. What a call hands
-- back, unless it is 16, is what the rules of a take then say of what it carried on.
use Prim.Native.Nat.{ℕ, zero, suc, ◌+◌, ◌*◌, ◌<◌, ◌≤◌}
use native.Mathlib.Omega.{arith}
use borrow.Author.Tests.{eqb-true, eqb-false, eq-eqb, ne_eqb, le-leb}
use mathlib.Core.Path.{◌≡◌, refl, ap, ◌∙◌}
use mathlib.Core.Bool.{Bool, true, false, cond, not, ◌||◌}
use mathlib.Core.List.{List, [], ◌∷◌}
use lib.Dec.{eqb, lit<}
use lib.ListN.{length, get_or-replicate}
use lib.IntN.{ℤ, pos}
use Rattle.circuit.specs.Numbers.{report, done, passes, Rule, rule, judge, of}
use Rattle.circuit.specs.Record.{row_limit, part_at}
use Rattle.circuit.specs.SetUp.{set_up_rules, set_up_report}
use Rattle.circuit.specs.Run.{fresh_waves, Played, play, sound_wave, stored_waves_rule, Charged, charged_rules, report_after}
use Rattle.circuit.specs.Take.{output_length, left_limit, take_limit, samples_of, left_over, UnderWay, take_of, stored, fresh_take, carried_rule, held_rule, take_rules, Feeding, under_way, available, room_rule, feed_rules, Fed, left_after, taken, nothing_taken, fed, end_rule, end_rules, ended}
use Rattle.circuit.specs.declared.Element.TheVariants.{Resistor, Capacitor, Inductor, Input, Steady}
use Rattle.circuit.specs.declared.Part.{Part}
use Rattle.circuit.specs.declared.Part.TheVariants.{Blank, Leaf, Adaptor}
use Rattle.circuit.specs.declared.Record.{Record}
use Rattle.laws.proofs.Counting.{unless_passes, passes_lowest}
use Rattle.laws.proofs.Judging.{Numbered, judge_pass, judge_before, judge_of, pass_done, zero_pass, both_numbered, of_numbered, ◌or_else◌, else_next, else_first, else_zero, judge_test, judge_append, judge_of_append}
use Rattle.laws.proofs.Charging.{waves_rules, charged_judged, charged_numbered}
use Rattle.laws.proofs.Running.{waves_after_lem}
use Rattle.laws.proofs.Bytes.{length-left_over, samples_number}

-- ---- 3 to 12 of a circuit and its waves

-- where they let the waves pass, they let those after samples pass
charged_on : (r : Record) (ws xs : List ℤ) → (judge charged_rules (record { circuit = r; waves = ws })).number ≡ 0
    → judge charged_rules (record { circuit = r; waves = (play r ws xs).waves }) ≡ done
charged_on r ws xs z =
    let both = else_zero (set_up_report r) (judge waves_rules (record { circuit = r; waves = ws })) (rw charged_judged at z) in
    let sound = zero_pass waves_rules (record { circuit = r; waves = ws }) (lit< tt, tt) both.1 in
    charged_judged (record { circuit = r; waves = (play r ws xs).waves })
    ∙ else_next (set_up_report r) _ both.0
    ∙ pass_done waves_rules (record { circuit = r; waves = (play r ws xs).waves }) (waves_after_lem r ws xs sound.0, tt)

-- ---- then 12 and 15 of what is carried

abbrev pub carried_rules : List (Rule UnderWay)
carried_rules = rule 12 (λ t. carried_rule t.carried) ∷ rule 15 (λ t. held_rule t.carried) ∷ []

take_numbered : Numbered take_rules
unfolding take_rules
take_numbered = both_numbered (of stored charged_rules) carried_rules (of_numbered stored charged_rules charged_numbered) (lit< tt, (lit< tt, tt))

-- the number that is held, where it is 0 or 15
held_sound : (n : ℕ) → (0 < n → n ≡ 15) → (eqb n 0 || eqb n 15) ≡ true
held_sound zero h = refl
held_sound (suc n) h = rw (h (omega arith))

held_told : (d n : ℕ) → (0 < n → n ≡ 15) → cond (eqb n 0) done (report 15 d) ≡ report_after d n
held_told d zero h = refl
held_told d (suc n) h = rw (h (omega arith))

module _ (t : UnderWay) where
  pub take_judged : judge take_rules t ≡ judge charged_rules (stored t) or_else judge carried_rules t
  unfolding take_rules
  take_judged = judge_of_append stored charged_rules carried_rules t charged_numbered

  -- sound, it gives the number that is held
  pub carried_judged : t.carried.count ≤ left_limit → t.carried.done ≤ take_limit → (0 < t.carried.held → t.carried.held ≡ 15)
      → judge carried_rules t ≡ report_after t.carried.done t.carried.held
  unfolding carried_rule held_rule
  carried_judged k l h =
      judge_pass (rule 12 (λ u. carried_rule u.carried)) (rule 15 (λ u. held_rule u.carried) ∷ []) t
      (rw (le-leb t.carried.count left_limit k, le-leb t.carried.done take_limit l, held_sound t.carried.held h) refl)
      ∙ judge_test (rule 15 (λ u. held_rule u.carried)) t (eqb t.carried.held 0) t.carried.done refl
      ∙ held_told t.carried.done t.carried.held h

  -- where none of them applies
  module _ (z : (judge take_rules t).number ≡ 0) where
    both : ((judge charged_rules (stored t)).number ≡ 0) × ((judge carried_rules t).number ≡ 0)
    both = else_zero (judge charged_rules (stored t)) (judge carried_rules t) (rw take_judged at z)

    pub open_charged : (judge charged_rules (stored t)).number ≡ 0
    open_charged = both.0

    pub open_held : t.carried.held ≡ 0
    unfolding held_rule
    open_held = eqb-true t.carried.held 0 (unless_passes _ _ (zero_pass carried_rules t (lit< tt, (lit< tt, tt)) both.1).1.0)

-- ---- the ending: then 17

pub ended_judged : (t : UnderWay) → ended t ≡ judge take_rules t or_else cond (eqb t.carried.count 0) done (report 17 t.carried.done)
unfolding ended end_rules end_rule
ended_judged t =
    judge_append take_rules (rule 17 (λ u. end_rule u.carried) ∷ []) t take_numbered
    ∙ ap (λ n. judge take_rules t or_else n) (judge_test (rule 17 (λ u. end_rule u.carried)) t (eqb t.carried.count 0) t.carried.done refl)

-- ---- a call: then 16

module _ (f : Feeding) where
  -- four bytes for each whole sample
  abbrev pub right_room : ℕ
  right_room = output_length * length (samples_of (available f))

  pub feed_judged : judge feed_rules f ≡ judge take_rules (under_way f) or_else cond (eqb (length f.room) right_room) done (report 16 0)
  unfolding feed_rules room_rule
  feed_judged =
      judge_of_append under_way take_rules (rule 16 room_rule ∷ []) f take_numbered
      ∙ ap (λ n. judge take_rules (under_way f) or_else n) (judge_test (rule 16 room_rule) f (eqb (length f.room) right_room) 0 refl)

  abbrev pub played : Played
  played = play f.circuit f.carried.state.waves (samples_of (available f))

  pub fed_refused : 0 < (judge take_rules (under_way f)).number → fed f ≡ nothing_taken f (judge take_rules (under_way f))
  unfolding fed
  fed_refused l = rw (feed_judged, else_first (judge take_rules (under_way f)) _ l, ne_eqb (judge take_rules (under_way f)).number 0 (λ e. omega arith))

  module _ (z : (judge take_rules (under_way f)).number ≡ 0) where
    pub fed_taken : length f.room ≡ right_room → fed f ≡ taken f played
    unfolding fed
    fed_taken e = rw (feed_judged, else_next (judge take_rules (under_way f)) _ z, eq-eqb (length f.room) right_room e)

    pub fed_roomless : (length f.room ≡ right_room → ⊥) → fed f ≡ nothing_taken f (report 16 0)
    unfolding fed
    fed_roomless e = rw (feed_judged, else_next (judge take_rules (under_way f)) _ z, ne_eqb (length f.room) right_room e)

-- ---- what a call carries on

-- the take after a call
abbrev pub onward : Feeding → Fed → UnderWay
onward f g = take_of f.circuit g.carried

module _ (f : Feeding) where
  few_left : length (left_after f (played f)) ≤ left_limit
  few_left = by (eqb (played f).number 0)
    where
      by : (b : Bool) → length (cond b (left_over (available f)) []) ≤ left_limit
      by true = length-left_over (available f)
      by false = omega arith

  pub taken_remembered : (judge take_rules (under_way f)).number ≡ 0 → f.carried.done + length (played f).outputs ≤ take_limit
      → judge take_rules (onward f (taken f (played f))) ≡ (taken f (played f)).handed_back
  taken_remembered z l =
      let next : UnderWay = onward f (taken f (played f)) in
      let first = charged_on f.circuit f.carried.state.waves (samples_of (available f)) (open_charged (under_way f) z) in
      take_judged next
      ∙ else_next (judge charged_rules (stored next)) (judge carried_rules next) (ap (λ n. n.number) first)
      ∙ carried_judged next few_left l (samples_number f.circuit f.carried.state.waves (available f))

  -- what the rules of a take say of it is what the call handed back
  pub fed_remembered : ((fed f).handed_back.number ≡ 16 → ⊥) → (fed f).carried.done ≤ take_limit → judge take_rules (onward f (fed f)) ≡ (fed f).handed_back
  fed_remembered h l = by (judge take_rules (under_way f)).number refl (eqb (length f.room) (right_room f)) refl
    where
      by : (n : ℕ) → (judge take_rules (under_way f)).number ≡ n → (b : Bool) → eqb (length f.room) (right_room f) ≡ b
          → judge take_rules (onward f (fed f)) ≡ (fed f).handed_back
      by (suc k) z b e = rw (fed_refused f (omega arith)) refl
      by zero z true e = let took = fed_taken f z (eqb-true _ _ e) in rw took (taken_remembered z (rw took at l))
      by zero z false e = absurd (h (ap (λ g. g.handed_back.number) (fed_roomless f z (eqb-false _ _ e))))

-- ---- the start of a take

fresh_sound : (p : Part) → sound_wave p (pos 0) ≡ true
fresh_sound Blank = refl
fresh_sound (Leaf (Resistor o)) = refl
fresh_sound (Leaf (Capacitor c)) = refl
fresh_sound (Leaf (Inductor l)) = refl
fresh_sound (Leaf (Input o)) = refl
fresh_sound (Leaf (Steady o v)) = refl
fresh_sound (Adaptor a) = refl

fresh_waves_lem : (r : Record) → stored_waves_rule r fresh_waves ≡ passes
unfolding stored_waves_rule fresh_waves
fresh_waves_lem r = passes_lowest _ row_limit (λ j l. rw (get_or-replicate row_limit j (pos 0) (pos 0) l) (ap not (fresh_sound (part_at r j))))

-- it is judged as its circuit is
pub fresh_judged : (r : Record) → judge take_rules (take_of r fresh_take) ≡ set_up_report r
unfolding take_rules charged_rules set_up_report fresh_take carried_rule held_rule
fresh_judged r =
    let t = take_of r fresh_take in
    judge_before (of stored charged_rules) carried_rules t (refl, (refl, tt))
    ∙ judge_of stored charged_rules t
    ∙ judge_before (of (λ c. c.circuit) set_up_rules) waves_rules (stored t) (fresh_waves_lem r, tt)
    ∙ judge_of (λ (c : Charged). c.circuit) set_up_rules (stored t)
