-- The library's words for the numbers below n, as a range yields them, by the definitions: `all` asks every one, `any` some, counting what `filter` lets
-- through is a total, and `find` looks for the lowest.
use Prim.Native.Nat.{ℕ, zero, suc, ◌+◌, ◌-◌, ◌<◌, ◌≤◌}
use native.Mathlib.Nat.{add-zero, zero-add, zero-sub}
use native.Mathlib.Decide.{dec_lt}
use native.Mathlib.Omega.{arith}
use mathlib.Core.Path.{◌≡◌, refl, sym, ap, ap₂, ◌∙◌}
use mathlib.Core.Bool.{Bool, true, false, ◌&&◌, ◌||◌, cond, and-true, or-false}
use mathlib.Core.List.{List, [], ◌∷◌, ◌++◌}
use borrow.Author.Tests.{lt-ltb, le-ltb}
use lib.Dec.{ltb}
use denote.Ref.{Bor}
use denote.Param.Members.{Mut}
use Rattle.std.specs.Prelude.{Option, Some, None, count_by}
use Rattle.std.specs.List.{range_with_len, list_all, list_any}
use Rattle.std.specs.Option.{MatchOption}
use Rattle.std.specs.Fn.{CalledAt}
use Rattle.std.specs.Iterator.{FindsItem}
use Rattle.std.specs.declared.ops.Range.{Range}
use Rattle.std.proofs.iter.Yields.{nat_range_steps}
use Rattle.std.proofs.lemmas.Iterator.{first_from_Range}
use Rattle.std.proofs.lemmas.List.Folds.{list_all-append, list_any-append}
use Rattle.std.proofs.lemmas.List.Sums.{sum_by-append}
use Rattle.circuit.specs.Counting.{every, some, total, one}
use Rattle.circuit.specs.Numbers.{lowest, report, done}
use Rattle.laws.specs.Numbered.{numbered}
use Rattle.laws.proofs.Counting.{lowest_stop, passes_lowest}

more_from : (a n : ℕ) → range_with_len a (suc n) ≡ range_with_len a n ++ ((a + n) ∷ [])
more_from a zero = rw (add-zero a) refl
more_from a (suc n) =
    let place : a + 1 + n ≡ a + suc n = omega arith in
    ap {B = List ℕ} (λ xs. a ∷ xs) (more_from (a + 1) n) ∙ ap (λ (k : ℕ). a ∷ range_with_len (a + 1) n ++ (k ∷ [])) place

more : (n : ℕ) → range_with_len 0 (suc n) ≡ range_with_len 0 n ++ (n ∷ [])
more n = more_from 0 n ∙ ap (λ (k : ℕ). range_with_len 0 n ++ (k ∷ [])) (zero-add n)

module _ (p : ℕ → Bool) where
  snoc : (xs : List ℕ) (n : ℕ) → list_all p (xs ++ (n ∷ [])) ≡ (list_all p xs && p n)
  snoc xs n = list_all-append p xs (n ∷ []) ∙ ap (λ b. list_all p xs && b) (and-true (p n))

  pub every_in : (n : ℕ) → list_all p (range_with_len 0 n) ≡ every p n
  unfolding every
  every_in zero = refl
  every_in (suc n) = ap (list_all p) (more n) ∙ snoc (range_with_len 0 n) n ∙ ap (λ b. b && p n) (every_in n)

  pub some_in : (n : ℕ) → list_any p (range_with_len 0 n) ≡ some p n
  unfolding some
  some_in zero = refl
  some_in (suc n) =
      ap (list_any p) (more n) ∙ list_any-append p (range_with_len 0 n) (n ∷ []) ∙ ap₂ ◌||◌ (some_in n) (or-false (p n))

  -- from w on, where the numbers below w pass anyway
  pub every_from : (w n : ℕ) → list_all p (range_with_len w (n - w)) ≡ every (λ i. ltb i w || p i) n
  unfolding every
  every_from w zero = rw (zero-sub w) refl
  every_from w (suc n) = by (dec_lt n w) ∙ ap (λ b. b && (ltb n w || p n)) (every_from w n)
    where
      by : Dec (n < w) → list_all p (range_with_len w (suc n - w)) ≡ (list_all p (range_with_len w (n - w)) && (ltb n w || p n))
      by (yes l) =
          let before : n - w ≡ 0 = omega arith in
          let here : suc n - w ≡ 0 = omega arith in
          rw (here, before, lt-ltb n w l) refl
      by (no l) =
          let size : suc n - w ≡ suc (n - w) = omega arith in
          let place : w + (n - w) ≡ n = omega arith in
          let one_more = more_from w (n - w) ∙ ap (λ (k : ℕ). range_with_len w (n - w) ++ (k ∷ [])) place in
          rw (size, le-ltb n w (omega (arith, l))) (ap (list_all p) one_more ∙ snoc (range_with_len w (n - w)) n)

  pub total_in : (n : ℕ) → count_by p (range_with_len 0 n) ≡ total (λ j. one (p j)) n
  unfolding total
  total_in zero = refl
  total_in (suc n) =
      ap (count_by p) (more n)
      ∙ sum_by-append (λ j. cond (p j) 1 0) (range_with_len 0 n) (n ∷ [])
      ∙ ap₂ ◌+◌ (total_in n) (last (p n))
    where
      last : (b : Bool) → 0 + cond b 1 0 ≡ one b
      last true = refl
      last false = refl

-- ---- the lowest at fault

-- `find` over 0..n, by a test that computes `fault`
module _ (fault : ℕ → Bool) (number : ℕ) {F : Type 0} {g : Mut F (Bor ℕ × Unit {0}) Bool} {f : F} {n : ℕ} (u : Range ℕ) where
  first : (r : Option ℕ) → FindsItem nat_range_steps g (record { start = 0; end = n }) f r u
      → ((x : ℕ) (b : Bool) (q : F) → CalledAt g f x b q → (q ≡ f) × (b ≡ fault x))
      → MatchOption r
      ((k : ℕ) → 0 ≤ k → k < n → fault k ≡ false)
      (λ i. (0 ≤ i) × (i < n) × (fault i ≡ true) × ((k : ℕ) → 0 ≤ k → k < i → fault k ≡ false))
  first r ran computes = first_from_Range _ u f r _ _ ran (λ x q k. sym (computes x true q k).1) (λ x q k. let c = computes x false q k in (c.0, sym c.1))

  pub found : {r : Option ℕ} {i : ℕ} → FindsItem nat_range_steps g (record { start = 0; end = n }) f r u
      → ((x : ℕ) (b : Bool) (q : F) → CalledAt g f x b q → (q ≡ f) × (b ≡ fault x)) → r ≡ Some i → report number i ≡ numbered number (lowest fault n)
  found {r} {i} ran computes e =
      let h = rw e at (first r ran computes) in
      ap (numbered number) (sym (lowest_stop fault n i (passes_lowest fault i (λ k l. h.3 k (omega arith) l)) h.1 h.2))

  pub none : {r : Option ℕ} → FindsItem nat_range_steps g (record { start = 0; end = n }) f r u
      → ((x : ℕ) (b : Bool) (q : F) → CalledAt g f x b q → (q ≡ f) × (b ≡ fault x)) → r ≡ None → done ≡ numbered number (lowest fault n)
  none {r} ran computes e =
      let h = rw e at (first r ran computes) in ap (numbered number) (sym (passes_lowest fault n (λ k l. h k (omega arith) l)))
