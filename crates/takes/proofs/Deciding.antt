-- What decides a call and the ending of a take: 3 to 12 of the circuit first, then 12 and 15 of what is carried, then 16 or 17.
use Prim.Native.Nat.{ℕ, suc, ◌+◌, ◌*◌, ◌/◌, ◌≤◌}
use native.Mathlib.Omega.{arith}
use borrow.Author.Tests.{leb-true, eqb-true}
use mathlib.Core.Path.{◌≡◌, refl, sym, ap, ◌∙◌}
use mathlib.Core.Bool.{Bool, true, false, cond, and-eq-true_iff}
use mathlib.Core.List.{List}
use lib.Dec.{eqb, lit<}
use lib.ListN.{length}
use Rattle.std.specs.Prelude.{Result, Ok, Err, ⊤}
use Rattle.std.specs.Result.{result_and}
use Rattle.circuit.specs.Numbers.{Report, report, done, judge, of, unless, handed, told}
use Rattle.circuit.specs.Record.{no_row}
use Rattle.circuit.specs.Run.{charged_rules}
use Rattle.circuit.specs.Take.{sample_length, output_length, left_limit, take_limit, samples_of, UnderWay, stored, carried_rule, held_rule, take_rules, Feeding, feeding, under_way, available, feed_rules, end_rule, ended}
use Rattle.circuit.specs.declared.Carried.{Carried}
use Rattle.circuit.specs.declared.Record.{Record}
use Rattle.circuit.specs.declared.Refusal.{Refusal}
use Rattle.laws.specs.Numbered.{numbered}
use Rattle.laws.proofs.Counting.{unless_passes}
use Rattle.laws.proofs.Judging.{judge_of, zero_pass, ◌or_else◌, else_next, else_first, else_zero, else_assoc, else_same}
use Rattle.laws.proofs.Trying.{told_above}
use Rattle.laws.proofs.Bytes.{length-samples_of}
use Rattle.laws.proofs.Taking.{take_judged, carried_rules, carried_judged, ended_judged, right_room, feed_judged}
use Rattle.takes.specs.Own.{own_rules, room_for, Ready}
use Rattle.takes.proofs.Bytes.{both_length}

-- ---- one report, and where it is done the next

pub stopped : (e : Refusal) (m n : Report) → told e ≡ m → told e ≡ m or_else n
stopped e m n same = same ∙ sym (else_first m n (rw (← same) (told_above e)))

pub passed_on : (m n : Report) → done ≡ m → n ≡ m or_else n
passed_on m n same = sym (else_next m n (ap (λ (s : Report). s.number) (sym same)))

pub both_handed : (s t : Result ⊤ Refusal) → handed (result_and s t) ≡ handed s or_else handed t
both_handed (Ok a) t = refl
both_handed (Err e) t = stopped e (told e) (handed t) refl

-- one rule, which is a test
pub test_told : (n : ℕ) (t : Bool) (p : ℕ) → numbered n (unless t p) ≡ cond t done (report n p)
test_told n true p = refl
test_told n false p = refl

-- ---- the circuit's rules, the take's own, and the last

module _ (t : UnderWay) where
  take_own : judge take_rules t ≡ judge charged_rules (stored t) or_else judge own_rules t.carried
  unfolding own_rules of
  take_own = take_judged t ∙ ap (λ n. judge charged_rules (stored t) or_else n) (judge_of (λ (u : UnderWay). u.carried) own_rules t)

  in_order : (n : Report) → judge charged_rules (stored t) or_else (judge own_rules t.carried or_else n) ≡ judge take_rules t or_else n
  in_order n = rw take_own (sym (else_assoc (judge charged_rules (stored t)) (judge own_rules t.carried) n))

  pub end_decided : judge charged_rules (stored t) or_else (judge own_rules t.carried or_else numbered 17 (end_rule t.carried)) ≡ ended t
  unfolding end_rule
  end_decided =
      in_order (numbered 17 (end_rule t.carried))
      ∙ ap (λ n. judge take_rules t or_else n) (test_told 17 (eqb t.carried.count 0) t.carried.done)
      ∙ sym (ended_judged t)

-- ---- where the take's own rules pass

own_passed : (c : Carried) → (judge own_rules c).number ≡ 0 → (c.count ≤ left_limit) × (c.held ≡ 0) × (c.done ≤ take_limit)
unfolding own_rules carried_rule held_rule
own_passed c z =
    let h = zero_pass own_rules c (lit< tt, (lit< tt, tt)) z in
    let sound = (and-eq-true_iff _ _).0 (unless_passes _ no_row h.0) in
    (leb-true _ _ ((and-eq-true_iff _ _).0 sound.0).0, eqb-true _ _ (unless_passes _ c.done h.1.0), leb-true _ _ sound.1)

zero_test : (n : ℕ) (t : Bool) (p : ℕ) → (numbered (suc n) (unless t p)).number ≡ 0 → t ≡ true
zero_test n true p z = refl
zero_test n false p z = absurd (omega arith)

pub zero_ready : (n m : ℕ) (c : Carried) → (judge own_rules c or_else numbered 16 (unless (eqb m (room_for n c)) 0)).number ≡ 0 → Ready n m c
zero_ready n m c z =
    let none = else_zero (judge own_rules c) (numbered 16 (unless (eqb m (room_for n c)) 0)) z in
    let own = own_passed c none.0 in
    record { count = own.0; held = own.1; samples = own.2; room = eqb-true _ _ (zero_test 15 _ 0 none.1) }

pub ready_open : {n m : ℕ} (t : UnderWay) → Ready n m t.carried → (judge charged_rules (stored t)).number ≡ 0 → (judge take_rules t).number ≡ 0
ready_open t h z =
    rw (take_judged, else_next (judge charged_rules (stored t)) (judge carried_rules t) z, carried_judged t h.count h.samples (λ l. absurd (omega arith)), h.held) refl

-- ---- a call, and its room by lengths

module _ (r : Record) (c : Carried) (s o : List ℕ) (sized : length c.left ≡ left_limit) where
  abbrev call : Feeding
  call = feeding r c s o

  pub whole_samples : c.count ≤ left_limit → length (samples_of (available call)) ≡ (c.count + length s) / sample_length
  whole_samples l = length-samples_of (available call) ∙ ap (λ n. n / sample_length) (both_length c.left s c.count (omega arith))

  pub feed_decided : judge charged_rules (stored (under_way call)) or_else (judge own_rules c or_else numbered 16 (unless (eqb (length o) (room_for (length s) c)) 0))
      ≡ judge feed_rules call
  feed_decided =
      let t = under_way call in
      in_order t (numbered 16 (unless (eqb (length o) (room_for (length s) c)) 0))
      ∙ else_same (judge take_rules t) (numbered 16 (unless (eqb (length o) (room_for (length s) c)) 0)) (cond (eqb (length o) (right_room call)) done (report 16 0))
      (λ z. let few = (own_passed c (else_zero (judge charged_rules (stored t)) (judge own_rules c) (rw take_own at z)).1).0 in
      test_told 16 (eqb (length o) (room_for (length s) c)) 0 ∙ ap (λ n. cond (eqb (length o) (output_length * n)) done (report 16 0)) (sym (whole_samples few)))
      ∙ sym (feed_judged call)
