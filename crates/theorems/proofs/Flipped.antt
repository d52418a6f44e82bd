-- A record with some of its leaves reversed: row by row its parts are the same, so its tree and ratios are, its curve is the record's own, and
-- every rule says the same of both. Rule 4 looks at marks, and asks nothing of a leaf's.
use Prim.Native.Nat.{ℕ, zero, suc}
use mathlib.Core.Path.{◌≡◌, refl, ap, ap₂, ◌∙◌, fun_ext}
use mathlib.Core.Bool.{Bool, true, false, not, ◌&&◌, ◌||◌, beq, cond}
use mathlib.Core.List.{List, [], ◌∷◌}
use lib.Dec.{leb}
use lib.IntN.{ℤ}
use Rattle.whole.specs.Fraction.{whole}
use Rattle.circuit.specs.Counting.{every}
use Rattle.circuit.specs.Numbers.{unless, ◌then◌, lowest}
use Rattle.circuit.specs.Record.{row_limit, blank_row, row_in, row_at, part_at, is_blank, is_leaf, in_form, form_rule}
use Rattle.circuit.specs.SetUp.{set_up_report}
use Rattle.circuit.specs.Curve.{sound_column, passes_origin, column_rule, passed, piece, drawn, line_of, line, toward_zero, reflected, segment}
use Rattle.circuit.specs.declared.CurveKind.{CurveKind}
use Rattle.circuit.specs.declared.CurveKind.TheVariants.{Unset, Single, Pair}
use Rattle.circuit.specs.declared.Part.{Part}
use Rattle.circuit.specs.declared.Part.TheVariants.{Blank, Leaf, Adaptor}
use Rattle.circuit.specs.declared.Row.{Row}
use Rattle.circuit.specs.declared.Record.{Record}
use Rattle.laws.proofs.Counting.{every_same}
use Rattle.laws.proofs.Alike.{Alike, set_up_same}
use Rattle.theorems.specs.Reversed.{flipped, flipped_rows, reverse}

-- ---- rows

blank_flipped : (picked : Bool) → blank_row ≡ flipped picked blank_row
blank_flipped true = refl
blank_flipped false = refl

row_flipped : (pick : ℕ → Bool) (rows : List Row) (j : ℕ) → row_in (flipped_rows pick rows) j ≡ flipped (pick j) (row_in rows j)
row_flipped pick [] j = blank_flipped (pick j)
row_flipped pick (w ∷ ws) zero = refl
row_flipped pick (w ∷ ws) (suc j) = row_flipped (λ i. pick (suc i)) ws j

mark_allowed : (picked m : Bool) (p : Part) → (is_leaf p || not (cond (picked && is_leaf p) (not m) m)) ≡ (is_leaf p || not m)
mark_allowed true m Blank = refl
mark_allowed true m (Leaf e) = refl
mark_allowed true m (Adaptor a) = refl
mark_allowed false m p = refl

module _ (pick : ℕ → Bool) (r : Record) where
  abbrev s : Record
  s = reverse pick r

  pub row_at_lem : (j : ℕ) → row_at s j ≡ flipped (pick j) (row_at r j)
  row_at_lem j = row_flipped pick r.rows j

  pub alike : Alike r s
  alike = record { count = refl; rate = refl; tap = refl; resistance = refl; part = λ j. ap (λ w. w.part) (row_at_lem j) }

  -- ---- the curve

  piece_same : (n : ℕ) → piece s n ≡ piece r n
  unfolding piece
  piece_same zero = refl
  piece_same (suc n) = refl

  pub reflected_same : (a : ℤ) → reflected s a ≡ reflected r a
  unfolding reflected line drawn passed
  reflected_same a = ap (λ f. toward_zero (line_of r.kind f (whole a))) (fun_ext (λ p. ap (λ f. f p) (piece_same (passed r p))))

  pub segment_same : (a : ℤ) → segment s a ≡ segment r a
  unfolding segment passed
  segment_same a = refl

  sound_same : (i : ℕ) → sound_column s i ≡ sound_column r i
  unfolding sound_column
  sound_same zero = refl
  sound_same (suc i) = refl

  origin_same : (k : CurveKind) → passes_origin k s ≡ passes_origin k r
  origin_same Unset = refl
  origin_same Single = refl
  origin_same Pair = refl

  columns_same : column_rule s ≡ column_rule r
  unfolding column_rule
  columns_same = ap₂ (λ fault b. lowest fault r.width then unless b 0) (fun_ext (λ i. ap not (sound_same i))) (origin_same r.kind)

  -- ---- set-up

  row_form : (j : ℕ) → in_form r.count j (row_at s j) ≡ in_form r.count j (row_at r j)
  row_form j =
      ap (in_form r.count j) (row_at_lem j)
      ∙ ap (λ b. beq (is_blank (part_at r j)) (leb r.count j) && b) (mark_allowed (pick j) (row_at r j).reversed (part_at r j))

  form_same : form_rule s ≡ form_rule r
  unfolding form_rule
  form_same =
      let rows : every (λ j. in_form r.count j (row_at s j)) row_limit ≡ every (λ j. in_form r.count j (row_at r j)) row_limit =
      every_same _ _ row_limit (λ j l. row_form j) in
      rw rows refl

  pub set_up_flipped : set_up_report s ≡ set_up_report r
  set_up_flipped = set_up_same alike refl form_same columns_same
