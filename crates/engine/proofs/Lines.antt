-- The lines of a curve: no step of one leaves 64 bits, each is the definition's piece, and the first edge above a wave counts the columns passed.
use Prim.Native.Nat.{ℕ, zero, suc, ◌+◌, ◌-◌, ◌*◌, ◌^◌, ◌<◌, ◌≤◌, min, max}
use native.Mathlib.Nat.{eq-or-lt_of_le}
use native.Mathlib.Omega.{arith}
use mathlib.Core.Path.{◌≡◌, refl, sym, ap, ◌∙◌}
use mathlib.Core.Logic.{⊎_elim}
use mathlib.Core.List.{List, [], ◌∷◌}
use borrow.Author.Count.{below_none}
use lib.ListN.{length, set, length-set}
use lib.Seq.{get_or-set_same, get_or-set_other}
use lib.IntN.{ℤ, pos, ◌+ℤ◌, ◌-ℤ◌, ◌*ℤ◌}
use lib.Signed.{◌≤ℤ◌, ◌<ℤ◌, quot_z}
use mir.Syntax.{w32, w64}
use mir.Facts.{to_z-of_z}
use mir.Val.{Fits, SFits, to_z, of_z}
use Rattle.whole.specs.Integers.{at, ◌⊟◌}
use Rattle.whole.specs.Order.{zarith, Abs, abs_add, abs_neg, abs_mul}
use Rattle.whole.specs.Ring.{var, ◌⊕◌, ◌⊗◌, ◌⊝◌, ring}
use Rattle.whole.specs.Signed.{zfits, to_z-u32, trunc_fits}
use Rattle.whole.specs.Fraction.{whole}
use Rattle.circuit.specs.Record.{column_limit, column_at}
use Rattle.circuit.specs.Curve.{wave_limit, through, slope_at, passed, piece, toward_zero}
use Rattle.circuit.specs.declared.Column.{Column}
use Rattle.circuit.specs.declared.Record.{Record}
use Rattle.laws.specs.Accepted.{Drawn}
use Rattle.laws.proofs.Line.{slope_to as between, through_answer, run_is}
use Rattle.laws.proofs.Drawn.{passed_is, column_y_small}
use Rattle.engine.specs.Curve.{line_by, Sloped, line_limit, beyond, column_in, slope_to, slope_in, line_in, last_line, no_line, line_at, Plotted, Laid, Drawing}
use Rattle.engine.specs.declared.curve.Slope.{Slope}
use Rattle.engine.specs.declared.curve.Line.{Line}
use Rattle.engine.specs.declared.curve.Curve.{Curve}
use Rattle.engine.proofs.Fill.{filled_more}
use Rattle.engine.proofs.Limits.{abs_fits, difference_range}

-- ---- one line in 64 bits: what is divided keeps 3·2^53, whatever the wave

module _ {c : Column} {slope : Slope} (s : Sloped c slope) where
  abbrev rise : ℤ
  rise = slope.rise

  abbrev run : ℤ
  run = slope.run

  abbrev base : ℤ
  base = c.y *ℤ run -ℤ rise *ℤ c.x

  height_bound : Abs (c.y *ℤ run) (2 ^ 53)
  height_bound = abs_mul s.back s.run_small

  climb_bound : {a : ℤ} → Abs a wave_limit → Abs (rise *ℤ a) (2 ^ 53)
  climb_bound h = abs_mul s.rise_small h

  base_bound : Abs base (2 ^ 54)
  base_bound = abs_add height_bound (abs_neg (climb_bound s.across))

  line_bound : {a : ℤ} → Abs a wave_limit → Abs (rise *ℤ a +ℤ base) (3 * 2 ^ 53)
  line_bound h = abs_add (climb_bound h) base_bound

  pub rise_reads : to_z w64 (of_z w64 rise) ≡ rise
  rise_reads = to_z-of_z (abs_fits s.rise_small (omega arith))

  pub run_reads : to_z w64 (of_z w64 run) ≡ run
  run_reads = to_z-of_z (abs_fits s.run_small (omega arith))

  pub height : SFits w64 (c.y *ℤ run)
  height = abs_fits height_bound (omega arith)

  pub climb : {a : ℤ} → Abs a wave_limit → SFits w64 (rise *ℤ a)
  climb h = abs_fits (climb_bound h) (omega arith)

  pub base_fits : SFits w64 base
  base_fits = abs_fits base_bound (omega arith)

  pub span_fits : SFits w64 (run -ℤ pos 1)
  span_fits = let h = s.run_small in omega (zfits, at run ⊟ at (pos 1))

  line_fits : {a : ℤ} → Abs a wave_limit → SFits w64 (rise *ℤ a +ℤ base)
  line_fits h = abs_fits (line_bound h) (omega arith)

-- the steps to a line's value v at a wave
pub record Steps (l : Line) (a v : ℤ) : Type 0 where
  pub wave : SFits w64 a
  pub rise : SFits w64 l.rise
  pub base : SFits w64 l.base
  pub span : ℕ
  pub short : Fits w32 span
  pub span_reads : to_z w64 (of_z w64 l.span) ≡ pos span
  pub run : SFits w64 (pos (span + 1))
  pub product : SFits w64 (l.rise *ℤ a)
  pub sum : SFits w64 (l.rise *ℤ a +ℤ l.base)
  pub quotient : SFits w64 (quot_z (l.rise *ℤ a +ℤ l.base) (pos (span + 1)))
  pub value : quot_z (l.rise *ℤ a +ℤ l.base) (pos (span + 1)) ≡ v

-- through a column with the slope from one column to another
steps : (c o n : Column) (edge : ℤ) {a : ℤ} → o.x <ℤ n.x → Sloped c (slope_to o n) → Abs a wave_limit
    → Steps (line_by c (slope_to o n) edge) a (toward_zero (through c (between o n) (whole a)))
steps c o n edge {a} rises h w =
    let slope = slope_to o n in
    let k = max 1 (between o n).run in
    let distance = run_is o n rises in
    let same : k - 1 + 1 ≡ k = omega arith in
    let last : slope.run -ℤ pos 1 ≡ pos (k - 1) = rw (← distance) (omega (zarith, at (pos k) ⊟ at (pos 1))) in
    let short : Fits w32 (k - 1) = record { fits = omega (arith, (rw (← distance) at h.run_small).bound) } in
    let x = var 0 in let y = var 1 in let C = var 2 in let K = var 3 in let A = var 4 in
    record {
      wave = abs_fits w (omega arith);
      rise = abs_fits h.rise_small (omega arith);
      base = base_fits h;
      span = k - 1;
      short = short;
      span_reads = ap (λ (z : ℤ). to_z w64 (of_z w64 z)) last ∙ to_z-u32 (k - 1) short;
      run = record { sfits = omega (arith, short.fits) };
      product = climb h w;
      sum = line_fits h w;
      quotient = trunc_fits (k - 1 + 1) (line_fits h w);
      value = rw same
          (ap (λ (z : ℤ). quot_z z (pos k))
          (ring (c.x ∷ c.y ∷ slope.rise ∷ slope.run ∷ a ∷ []) (C ⊗ A ⊕ (y ⊗ K ⊝ C ⊗ x)) (y ⊗ K ⊕ C ⊗ (A ⊝ x)) refl
          ∙ ap (λ (z : ℤ). c.y *ℤ z +ℤ slope.rise *ℤ (a -ℤ c.x)) (sym distance))
          ∙ sym (through_answer c (between o n) a));
    }

-- ---- the columns that the lines go through

pub plotted : {r : Record} → Drawn r → r.width ≤ column_limit → Plotted r.columns r.width
plotted d narrow = record {
  two = d.two;
  narrow = narrow;
  across = λ i l. record { bound = d.small i l };
  back = λ i l. record { bound = column_y_small d i l };
  rises = λ i l. (d.beside i l).rises;
}

module _ {columns : List Column} {width : ℕ} (p : Plotted columns width) where
  abbrev column : ℕ → Column
  column = column_in columns

  -- through column i with the slope from column k to the next
  sloped : (i k : ℕ) → i < width → suc k < width → Sloped (column i) (slope_in columns k)
  sloped i k l m =
      let here : k < width = omega arith in
      record {
        across = p.across i l;
        back = p.back i l;
        rise_small = difference_range (p.back (suc k) m) (p.back k here);
        run_small = difference_range (p.across (suc k) m) (p.across k here);
      }

-- ---- lines laid one by one

-- the last is laid first
pub laid_last : {columns : List Column} {width : ℕ} → Plotted columns width → (lines : List Line) {l : Line}
    → length lines ≡ line_limit → l ≡ last_line columns width → Laid columns width 0 (set lines width l)
laid_last {width = width} p lines {l} long e = record {
  long = length-set lines width l ∙ long;
  line = below_none _;
  last = get_or-set_same lines width l no_line (omega (arith, p.narrow)) ∙ e;
}

pub laid_more : {columns : List Column} {width i : ℕ} {lines : List Line} {l : Line}
    → Laid columns width i lines → i < width → i < line_limit → l ≡ line_in columns i → Laid columns width (i + 1) (set lines i l)
laid_more {columns} {width} {i} {lines} {l} d inside few e = record {
  long = length-set lines i l ∙ d.long;
  line = filled_more (λ n m. m ≡ line_in columns n) no_line lines i l (rw d.long few) d.line e;
  last = get_or-set_other lines i width l no_line (λ same. omega arith) ∙ d.last;
}

-- ---- the edges behind a wave

-- the edge before n, where there is one, is not above it
pub record Behind (lines : List Line) (a : ℤ) (n : ℕ) : Type 0 where
  pub edge : (k : ℕ) → n ≡ suc k → (line_at lines k).edge ≤ℤ a

pub behind_none : {lines : List Line} {a : ℤ} → Behind lines a 0
behind_none = record { edge = λ k e. absurd (let none : ⊥ = omega arith in none) }

pub behind_next : {lines : List Line} {a : ℤ} {n : ℕ} (k : ℕ) → k + 1 ≡ n → (line_at lines k).edge ≤ℤ a → Behind lines a n
behind_next k e h = record { edge = λ m f. let same : m ≡ k = omega arith in rw same h }

-- ---- the definition's pieces

module _ {r : Record} {c : Curve} (d : Drawing r c) {a : ℤ} (w : Abs a wave_limit) where
  abbrev columns : List Column
  columns = r.columns

  abbrev lines : List Line
  lines = c.lines.now

  columns_plotted : Plotted columns r.width
  columns_plotted = plotted d.drawn d.narrow

  abbrev Piece : ℕ → Type 0
  Piece n = Steps (line_at lines n) a (toward_zero (piece r n (whole a)))

  -- through column i with the slope from column k to the next
  along : (i k : ℕ) (edge : ℤ) → i < r.width → suc k < r.width
      → Steps (line_by (column_in columns i) (slope_in columns k) edge) a (toward_zero (through (column_at r i) (slope_at r k) (whole a)))
  along i k edge l m = let p = columns_plotted in steps (column_at r i) (column_at r k) (column_at r (suc k)) edge (p.rises k m) (sloped p i k l m) w

  inside : (n : ℕ) → n < r.width → Piece n
  unfolding piece
  inside zero l = rw (d.laid.line 0 l) (along 0 0 _ l d.drawn.two)
  inside (suc n) l =
      let inner : min n (r.width - 2) ≡ n = omega arith in
      rw (d.laid.line (suc n) l, inner) (along n n _ (omega arith) l)

  past : (n : ℕ) → n ≡ r.width → Piece n
  unfolding piece
  past zero e = absurd (omega (arith, d.drawn.two))
  past (suc n) e =
      let line = ap (line_at lines) e ∙ d.laid.last in
      let last : r.width - 1 ≡ n = omega arith in
      let outer : min n (r.width - 2) ≡ r.width - 2 = omega arith in
      rw (line, last, outer) (along n (r.width - 2) beyond (omega arith) (omega (arith, d.drawn.two)))

  pub piece_steps : (n : ℕ) → n ≤ r.width → Piece n
  piece_steps n l = ⊎_elim (past n) (inside n) (eq-or-lt_of_le l)

  -- ---- the columns passed

  edge_is : (n : ℕ) → n < r.width → (line_at lines n).edge ≡ (column_in columns n).x
  edge_is zero l = ap (λ (m : Line). m.edge) (d.laid.line 0 l)
  edge_is (suc n) l = ap (λ (m : Line). m.edge) (d.laid.line (suc n) l)

  -- no wave passes the edge after the last column
  pub none_past : a <ℤ (line_at lines c.width).edge
  none_past = rw (d.many, d.laid.last) (omega zarith)

  -- the edge before n is passed, and edge n is not
  pub passed_count : (n : ℕ) → n ≤ r.width → Behind lines a n → a <ℤ (line_at lines n).edge → n ≡ passed r (whole a)
  passed_count n most left right =
      sym (passed_is d.drawn a n most (λ k e. rw (← edge_is k (omega arith)) (left.edge k e)) (λ l. rw (← edge_is n l) right))
