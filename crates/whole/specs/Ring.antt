-- Identities of a commutative ring, over ℤ: `ring ρ e f refl` proves that the expressions e and f have the same value at the
-- list ρ of what their variables stand for. Both are brought to a sum of ordered products by functions that compute, and
-- `refl` compares the two sums. Subtraction is an opposite added, so `x -ℤ y` is `var 0 ⊝ var 1`.
use Rattle.std.specs.Prelude.{◌≡◌, refl, Bool, true, false, List, [], ◌∷◌, T, leb, ℤ, pos, negsuc, ◌+ℤ◌, ◌*ℤ◌, neg_ℤ}
use Rattle.std.proofs.Common.{sym, ◌∙◌, ap, ap₂, subst, arith, eqb→eq}
use Prim.Native.Nat.{ℕ, zero, suc, compare, Ordering}
use Rattle.std.proofs.Math.Dec.{compare_is_eq}
use Rattle.std.proofs.Math.IntN.{+ℤ_assoc, +ℤ_idl, zero-*ℤ, *ℤ-zero}
use Rattle.whole.specs.Integers.{at, is_neg, ◌⊞◌, ◌⊠◌, is_eq, *ℤ-assoc, *ℤ-+ℤ, +ℤ-*ℤ}

infixl 6 ◌⊕◌ ◌⊝◌
infixl 7 ◌⊗◌
pub data Exp : Type 0 where
  var : ℕ → Exp
  con : ℤ → Exp
  ◌⊕◌ : Exp → Exp → Exp
  ◌⊗◌ : Exp → Exp → Exp
  ⊖ : Exp → Exp

abbrev pub ◌⊝◌ : Exp → Exp → Exp
a ⊝ b = a ⊕ ⊖ b

-- the variable i, at ρ
abbrev pub look : List ℤ → ℕ → ℤ
look [] i = pos zero
look (x ∷ ρ) zero = x
look (x ∷ ρ) (suc i) = look ρ i

abbrev pub eval : List ℤ → Exp → ℤ
eval ρ (var i) = look ρ i
eval ρ (con z) = z
eval ρ (a ⊕ b) = eval ρ a +ℤ eval ρ b
eval ρ (a ⊗ b) = eval ρ a *ℤ eval ρ b
eval ρ (⊖ a) = neg_ℤ (eval ρ a)

-- ---- the normal form: terms in the order of their words, a word being a product's variables in order

pub data Term : Type 0 where
  term : List ℕ → ℤ → Term

abbrev pub compare_words : List ℕ → List ℕ → Ordering
compare_words [] [] = Ordering.eq
compare_words [] (j ∷ v) = Ordering.lt
compare_words (i ∷ u) [] = Ordering.gt
compare_words (i ∷ u) (j ∷ v) = elim (compare i j) [ Ordering.lt ↦ Ordering.lt | Ordering.eq ↦ compare_words u v | Ordering.gt ↦ Ordering.gt ]

abbrev pub insert_var : ℕ → List ℕ → List ℕ
insert_var i [] = i ∷ []
insert_var i (j ∷ u) = elim (leb i j) [ true ↦ i ∷ j ∷ u | false ↦ j ∷ insert_var i u ]

abbrev pub mul_words : List ℕ → List ℕ → List ℕ
mul_words [] v = v
mul_words (i ∷ u) v = insert_var i (mul_words u v)

abbrev pub add_term : List ℕ → ℤ → List Term → List Term
add_term u c [] = term u c ∷ []
add_term u c (term v d ∷ p) = elim (compare_words u v) [ Ordering.lt ↦ term u c ∷ term v d ∷ p | Ordering.eq ↦ term v (c +ℤ d) ∷ p | Ordering.gt ↦ term v d ∷ add_term u c p ]

abbrev pub add_poly : List Term → List Term → List Term
add_poly [] q = q
add_poly (term u c ∷ p) q = add_term u c (add_poly p q)

abbrev pub mul_term : List ℕ → ℤ → List Term → List Term
mul_term u c [] = []
mul_term u c (term v d ∷ q) = term (mul_words u v) (c *ℤ d) ∷ mul_term u c q

abbrev pub mul_poly : List Term → List Term → List Term
mul_poly [] q = []
mul_poly (term u c ∷ p) q = add_poly (mul_term u c q) (mul_poly p q)

abbrev pub neg_poly : List Term → List Term
neg_poly [] = []
neg_poly (term u c ∷ p) = term u (neg_ℤ c) ∷ neg_poly p

-- without the terms whose factor is zero
abbrev pub drop_zeros : List Term → List Term
drop_zeros [] = []
drop_zeros (term u (pos zero) ∷ p) = drop_zeros p
drop_zeros (term u (pos (suc n)) ∷ p) = term u (pos (suc n)) ∷ drop_zeros p
drop_zeros (term u (negsuc n) ∷ p) = term u (negsuc n) ∷ drop_zeros p

abbrev pub poly : Exp → List Term
poly (var i) = term (i ∷ []) (pos 1) ∷ []
poly (con z) = term [] z ∷ []
poly (a ⊕ b) = add_poly (poly a) (poly b)
poly (a ⊗ b) = mul_poly (poly a) (poly b)
poly (⊖ a) = neg_poly (poly a)

abbrev pub norm : Exp → List Term
norm e = drop_zeros (poly e)

-- ---- the steps below keep the value

word_value : List ℤ → List ℕ → ℤ
word_value ρ [] = pos 1
word_value ρ (i ∷ u) = look ρ i *ℤ word_value ρ u

value : List ℤ → List Term → ℤ
value ρ [] = pos 0
value ρ (term u c ∷ p) = c *ℤ word_value ρ u +ℤ value ρ p

abbrev IsEqual : Ordering → Type 0
IsEqual Ordering.lt = ⊥
IsEqual Ordering.eq = Unit {0}
IsEqual Ordering.gt = ⊥

compare_eq : (i j : ℕ) → compare i j ≡ Ordering.eq → i ≡ j
compare_eq i j e = eqb→eq i j (subst (λ (o : Ordering). T (compare_is_eq o)) (sym e) tt)

compare_words-eq : (u v : List ℕ) → IsEqual (compare_words u v) → u ≡ v
compare_words-eq [] [] e = refl
compare_words-eq [] (j ∷ v) e = absurd e
compare_words-eq (i ∷ u) [] e = absurd e
compare_words-eq (i ∷ u) (j ∷ v) e = choose (compare i j) refl (compare_words-eq u v) e
  where
    choose : (o : Ordering) → compare i j ≡ o → (IsEqual (compare_words u v) → u ≡ v) → IsEqual (elim o [ Ordering.lt ↦ Ordering.lt | Ordering.eq ↦ compare_words u v | Ordering.gt ↦ Ordering.gt ]) → i ∷ u ≡ j ∷ v
    choose Ordering.lt q rest e = absurd e
    choose Ordering.eq q rest e = ap₂ (λ (x : ℕ) (w : List ℕ). x ∷ w) (compare_eq i j q) (rest e)
    choose Ordering.gt q rest e = absurd e

swap_sum : (a b c : ℤ) → a +ℤ (b +ℤ c) ≡ b +ℤ (a +ℤ c)
swap_sum a b c = is_eq (at a ⊞ (at b ⊞ at c)) (at b ⊞ (at a ⊞ at c)) (omega arith)

swap_product : (a b c : ℤ) → a *ℤ (b *ℤ c) ≡ b *ℤ (a *ℤ c)
swap_product a b c = is_eq (at a ⊠ (at b ⊠ at c)) (at b ⊠ (at a ⊠ at c)) (omega arith)

insert_var-value : (ρ : List ℤ) (i : ℕ) (u : List ℕ) → word_value ρ (insert_var i u) ≡ look ρ i *ℤ word_value ρ u
unfolding word_value
insert_var-value ρ i [] = refl
insert_var-value ρ i (j ∷ u) = choose (leb i j) (insert_var-value ρ i u)
  where
    choose : (b : Bool) → word_value ρ (insert_var i u) ≡ look ρ i *ℤ word_value ρ u → word_value ρ (elim b [ true ↦ i ∷ j ∷ u | false ↦ j ∷ insert_var i u ]) ≡ look ρ i *ℤ (look ρ j *ℤ word_value ρ u)
    choose true h = refl
    choose false h = ap (λ (t : ℤ). look ρ j *ℤ t) h ∙ swap_product (look ρ j) (look ρ i) (word_value ρ u)

one_times : (z : ℤ) → pos 1 *ℤ z ≡ z
one_times z = is_eq (at (pos 1) ⊠ at z) (at z) (omega arith)

mul_words-value : (ρ : List ℤ) (u v : List ℕ) → word_value ρ (mul_words u v) ≡ word_value ρ u *ℤ word_value ρ v
unfolding word_value
mul_words-value ρ [] v = sym (one_times (word_value ρ v))
mul_words-value ρ (i ∷ u) v =
    insert_var-value ρ i (mul_words u v) ∙ ap (λ (t : ℤ). look ρ i *ℤ t) (mul_words-value ρ u v) ∙ sym (*ℤ-assoc (look ρ i) (word_value ρ u) (word_value ρ v))

collect : (c d x r : ℤ) → (c +ℤ d) *ℤ x +ℤ r ≡ c *ℤ x +ℤ (d *ℤ x +ℤ r)
collect c d x r = is_eq ((at c ⊞ at d) ⊠ at x ⊞ at r) (at c ⊠ at x ⊞ (at d ⊠ at x ⊞ at r)) (omega arith)

add_term-value : (ρ : List ℤ) (u : List ℕ) (c : ℤ) (p : List Term) → value ρ (add_term u c p) ≡ c *ℤ word_value ρ u +ℤ value ρ p
unfolding value
add_term-value ρ u c [] = refl
add_term-value ρ u c (term v d ∷ p) = choose (compare_words u v) (compare_words-eq u v) (add_term-value ρ u c p)
  where
    choose : (o : Ordering) → (IsEqual o → u ≡ v) → value ρ (add_term u c p) ≡ c *ℤ word_value ρ u +ℤ value ρ p → value ρ (elim o [ Ordering.lt ↦ term u c ∷ term v d ∷ p | Ordering.eq ↦ term v (c +ℤ d) ∷ p | Ordering.gt ↦ term v d ∷ add_term u c p ]) ≡ c *ℤ word_value ρ u +ℤ (d *ℤ word_value ρ v +ℤ value ρ p)
    choose Ordering.lt q h = refl
    choose Ordering.eq q h = collect c d (word_value ρ v) (value ρ p) ∙ ap (λ (w : List ℕ). c *ℤ word_value ρ w +ℤ (d *ℤ word_value ρ v +ℤ value ρ p)) (sym (q tt))
    choose Ordering.gt q h = ap (λ (t : ℤ). d *ℤ word_value ρ v +ℤ t) h ∙ swap_sum (d *ℤ word_value ρ v) (c *ℤ word_value ρ u) (value ρ p)

add_poly-value : (ρ : List ℤ) (p q : List Term) → value ρ (add_poly p q) ≡ value ρ p +ℤ value ρ q
unfolding value
add_poly-value ρ [] q = sym (+ℤ_idl (value ρ q))
add_poly-value ρ (term u c ∷ p) q =
    add_term-value ρ u c (add_poly p q) ∙ ap (λ (t : ℤ). c *ℤ word_value ρ u +ℤ t) (add_poly-value ρ p q)
    ∙ sym (+ℤ_assoc (c *ℤ word_value ρ u) (value ρ p) (value ρ q))

pair_factors : (c d x y : ℤ) → (c *ℤ d) *ℤ (x *ℤ y) ≡ (c *ℤ x) *ℤ (d *ℤ y)
pair_factors c d x y = is_eq (at c ⊠ at d ⊠ (at x ⊠ at y)) (at c ⊠ at x ⊠ (at d ⊠ at y)) (omega arith)

mul_term-value : (ρ : List ℤ) (u : List ℕ) (c : ℤ) (q : List Term) → value ρ (mul_term u c q) ≡ (c *ℤ word_value ρ u) *ℤ value ρ q
unfolding value
mul_term-value ρ u c [] = sym (*ℤ-zero (c *ℤ word_value ρ u))
mul_term-value ρ u c (term v d ∷ q) =
    let x = word_value ρ u in
    let y = word_value ρ v in
    ap₂ (λ (s t : ℤ). (c *ℤ d) *ℤ s +ℤ t) (mul_words-value ρ u v) (mul_term-value ρ u c q)
    ∙ ap (λ (t : ℤ). t +ℤ (c *ℤ x) *ℤ value ρ q) (pair_factors c d x y) ∙ sym (*ℤ-+ℤ (c *ℤ x) (d *ℤ y) (value ρ q))

mul_poly-value : (ρ : List ℤ) (p q : List Term) → value ρ (mul_poly p q) ≡ value ρ p *ℤ value ρ q
unfolding value
mul_poly-value ρ [] q = sym (zero-*ℤ (value ρ q))
mul_poly-value ρ (term u c ∷ p) q =
    add_poly-value ρ (mul_term u c q) (mul_poly p q) ∙ ap₂ (λ (s t : ℤ). s +ℤ t) (mul_term-value ρ u c q) (mul_poly-value ρ p q)
    ∙ sym (+ℤ-*ℤ (c *ℤ word_value ρ u) (value ρ p) (value ρ q))

neg_term : (c x r : ℤ) → neg_ℤ c *ℤ x +ℤ neg_ℤ r ≡ neg_ℤ (c *ℤ x +ℤ r)
neg_term c x r = is_eq (is_neg (at c) ⊠ at x ⊞ is_neg (at r)) (is_neg (at c ⊠ at x ⊞ at r)) (omega arith)

neg_poly-value : (ρ : List ℤ) (p : List Term) → value ρ (neg_poly p) ≡ neg_ℤ (value ρ p)
unfolding value
neg_poly-value ρ [] = refl
neg_poly-value ρ (term u c ∷ p) = ap (λ (t : ℤ). neg_ℤ c *ℤ word_value ρ u +ℤ t) (neg_poly-value ρ p) ∙ neg_term c (word_value ρ u) (value ρ p)

drop_zeros-value : (ρ : List ℤ) (p : List Term) → value ρ (drop_zeros p) ≡ value ρ p
unfolding value
drop_zeros-value ρ [] = refl
drop_zeros-value ρ (term u (pos zero) ∷ p) =
    drop_zeros-value ρ p ∙ sym (ap (λ (t : ℤ). t +ℤ value ρ p) (zero-*ℤ (word_value ρ u)) ∙ +ℤ_idl (value ρ p))
drop_zeros-value ρ (term u (pos (suc n)) ∷ p) = ap (λ (t : ℤ). pos (suc n) *ℤ word_value ρ u +ℤ t) (drop_zeros-value ρ p)
drop_zeros-value ρ (term u (negsuc n) ∷ p) = ap (λ (t : ℤ). negsuc n *ℤ word_value ρ u +ℤ t) (drop_zeros-value ρ p)

alone : (c x : ℤ) → c *ℤ (x *ℤ pos 1) +ℤ pos 0 ≡ c *ℤ x
alone c x = is_eq (at c ⊠ (at x ⊠ at (pos 1)) ⊞ at (pos 0)) (at c ⊠ at x) (omega arith)

constant : (c : ℤ) → c *ℤ pos 1 +ℤ pos 0 ≡ c
constant c = is_eq (at c ⊠ at (pos 1) ⊞ at (pos 0)) (at c) (omega arith)

poly_value : (ρ : List ℤ) (e : Exp) → value ρ (poly e) ≡ eval ρ e
unfolding value word_value
poly_value ρ (var i) = alone (pos 1) (look ρ i) ∙ one_times (look ρ i)
poly_value ρ (con z) = constant z
poly_value ρ (a ⊕ b) = add_poly-value ρ (poly a) (poly b) ∙ ap₂ (λ (s t : ℤ). s +ℤ t) (poly_value ρ a) (poly_value ρ b)
poly_value ρ (a ⊗ b) = mul_poly-value ρ (poly a) (poly b) ∙ ap₂ (λ (s t : ℤ). s *ℤ t) (poly_value ρ a) (poly_value ρ b)
poly_value ρ (⊖ a) = neg_poly-value ρ (poly a) ∙ ap neg_ℤ (poly_value ρ a)

pub ring : (ρ : List ℤ) (e f : Exp) → norm e ≡ norm f → eval ρ e ≡ eval ρ f
ring ρ e f h =
    sym (poly_value ρ e) ∙ sym (drop_zeros-value ρ (poly e)) ∙ ap (value ρ) h ∙ drop_zeros-value ρ (poly f) ∙ poly_value ρ f
