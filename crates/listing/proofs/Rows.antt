-- The lines of a record's rows, one row after another, and the ratio that set-up prepared for each.
use Prim.Native.Nat.{ℕ, ◌+◌, ◌≤◌, ◌<◌}
use native.Mathlib.Nat.{lt_of_lt_of_le}
use mathlib.Core.Path.{◌≡◌, refl, sym, ap, ap₂, ◌∙◌}
use mathlib.Core.List.{List, [], ◌∷◌, ◌++◌, append-nil, append_assoc}
use lib.ListN.{get_or}
use borrow.Author.Tests.{eq-eqb}
use Rattle.circuit.specs.Counting.{table}
use Rattle.circuit.specs.Record.{row_limit, part_at, grow, grown, tree_at}
use Rattle.circuit.specs.SetUp.{ratio, ratio_at, prepared_part, prepared_rows, set_up_report, set_up_rows}
use Rattle.circuit.specs.File.{concat}
use Rattle.circuit.specs.Text.{text}
use Rattle.circuit.specs.Listing.{row_line}
use Rattle.circuit.specs.declared.Part.{Part}
use Rattle.circuit.specs.declared.Part.TheVariants.{Blank, Leaf, Adaptor}
use Rattle.circuit.specs.declared.Prepared.{Prepared}
use Rattle.circuit.specs.declared.Record.{Record}
use Rattle.laws.proofs.Counting.{table_step, get_or-table}
use Rattle.laws.proofs.Judging.{zero_passed}
use Rattle.laws.proofs.Formed.{formed}
use Rattle.listing.specs.Lines.{ending, line, part_line, row_lines}

concat_last : (xs : List (List ℕ)) (y : List ℕ) → concat (xs ++ (y ∷ [])) ≡ concat xs ++ y
unfolding concat
concat_last [] y = append-nil y
concat_last (x ∷ xs) y = ap (λ (l : List ℕ). x ++ l) (concat_last xs y) ∙ sym (append_assoc x (concat xs) y)

module _ (r : Record) where
  pub lines_none : row_lines r 0 ≡ []
  unfolding row_lines table concat
  lines_none = refl

  lines_next : (j : ℕ) → row_lines r (j + 1) ≡ row_lines r j ++ row_line r j (part_at r j)
  unfolding row_lines
  lines_next j = ap concat (table_step _ j) ∙ concat_last _ _

  row_same : (j : ℕ) (p : Part) → row_line r j p ≡ part_line j p (ratio_at r j)
  unfolding row_line part_line line ending text
  row_same j Blank = refl
  row_same j (Leaf x) = refl
  row_same j (Adaptor a) = simp append_assoc

  -- a leaf's ratio is 0
  part_ratio : (j : ℕ) (p : Part) → part_at r j ≡ p → (prepared_part r j p).ratio ≡ ratio_at r j
  unfolding ratio_at ratio tree_at grown grow
  part_ratio j Blank e = rw e
  part_ratio j (Leaf x) e = rw e
  part_ratio j (Adaptor a) e = refl

  module _ (accepted : (set_up_report r).number ≡ 0) where
    pub few_rows : r.count ≤ row_limit
    few_rows = (formed r (zero_passed r accepted).form).short

    line_prepared : {prepared : List Prepared} → prepared ≡ set_up_rows r → (j : ℕ) (d : Prepared) → j < r.count
        → row_line r j (part_at r j) ≡ part_line j (part_at r j) (get_or prepared j d).ratio
    unfolding set_up_rows prepared_rows
    line_prepared {prepared} e j d l =
        let known : ratio_at r j ≡ (get_or prepared j d).ratio = rw (e, eq-eqb _ _ accepted, get_or-table _ row_limit j d (lt_of_lt_of_le l few_rows)) (sym (part_ratio j (part_at r j) refl)) in
        row_same j (part_at r j) ∙ ap (part_line j (part_at r j)) known

    -- the lines of the rows before j, and row j's
    pub lines_more : {prepared : List Prepared} → prepared ≡ set_up_rows r → (j : ℕ) (d : Prepared) → j < r.count
        → (before : List ℕ) {now next : List ℕ} → now ≡ before ++ row_lines r j → next ≡ now ++ part_line j (part_at r j) (get_or prepared j d).ratio
        → next ≡ before ++ row_lines r (j + 1)
    lines_more e j d l before p q =
        q ∙ ap₂ (λ (s t : List ℕ). s ++ t) p (sym (line_prepared e j d l)) ∙ append_assoc before (row_lines r j) (row_line r j (part_at r j))
        ∙ ap (λ (t : List ℕ). before ++ t) (sym (lines_next j))
