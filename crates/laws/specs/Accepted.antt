-- What acceptance gives: the facts of a record that set-up does not refuse, in the form that later proofs take them.
use Rattle.std.specs.Prelude.{ℕ, suc, ◌+◌, ◌-◌, ◌*◌, ◌/◌, ◌<◌, ◌≤◌, ◌≡◌, ◌⊎◌, false, T, length, pos, ◌-ℤ◌, nat_abs, ◌<ℤ◌}
use Rattle.circuit.specs.Record.{row_limit, column_limit, top, part_at, column_at, is_blank, is_leaf, inputs, sound_part, adaptors_of, Tree, leaf, adaptor, tree_of, tree_at}
use Rattle.circuit.specs.SetUp.{parts, ratio_at, resistance_at, in_range}
use Rattle.circuit.specs.Curve.{wave_limit}
use Rattle.circuit.specs.Sample.{holds}
use Rattle.circuit.specs.declared.Part.{Part}
use Rattle.circuit.specs.declared.Part.TheVariants.{Blank, Leaf, Adaptor}
use Rattle.circuit.specs.declared.Column.{Column}
use Rattle.circuit.specs.declared.CurveKind.{CurveKind}
use Rattle.circuit.specs.declared.CurveKind.TheVariants.{Unset, Single, Pair}
use Rattle.circuit.specs.declared.Record.{Record}

-- the arrays have the lengths that the record's type gives them
pub record Sized (r : Record) : Type 0 where
  pub rows : length r.rows ≡ row_limit
  pub columns : length r.columns ≡ column_limit

-- ---- rows

-- row c is a child of the part
unfoldable pub Child : Part → ℕ → Type 0
Child Blank c = ⊥
Child (Leaf e) c = ⊥
Child (Adaptor a) c = (c ≡ a.first) ⊎ (c ≡ a.second)

-- both children are lower than row j
unfoldable pub Lower : ℕ → Part → Type 0
Lower j Blank = Unit {0}
Lower j (Leaf e) = Unit {0}
Lower j (Adaptor a) = (a.first < j) × (a.second < j)

-- the two children are different rows
unfoldable pub Apart : Part → Type 0
Apart Blank = Unit {0}
Apart (Leaf e) = Unit {0}
Apart (Adaptor a) = a.first ≡ a.second → ⊥

-- an adaptor's ratio is above 0
unfoldable pub Above : ℕ → Part → Type 0
Above g Blank = Unit {0}
Above g (Leaf e) = Unit {0}
Above g (Adaptor a) = 0 < g

-- how many adaptors a tree has; it has one leaf more
unfoldable pub adaptors : Tree → ℕ
adaptors (leaf j) = 0
adaptors (adaptor k j t1 t2) = suc (adaptors t1 + adaptors t2)

-- N adaptors make 2N + 1 rows
abbrev pub adaptor_limit : ℕ
adaptor_limit = (row_limit - 1) / 2

-- the adaptor p below the count has row k as a child
pub record Parent (r : Record) (p k : ℕ) : Type 0 where
  pub inside : p < r.count
  pub child : Child (part_at r p) k

-- ---- columns

-- x rises, and y moves no further than x
pub record Beside (o n : Column) : Type 0 where
  pub rises : o.x <ℤ n.x
  pub gentle : nat_abs (n.y -ℤ o.y) ≤ nat_abs (n.x -ℤ o.x)

abbrev pub origin : Column
origin = record { x = pos 0; y = pos 0 }

-- (0, 0) stands where the kind of curve wants it
unfoldable pub Crosses : CurveKind → Record → Type 0
Crosses Unset r = ⊥
Crosses Single r = (i : ℕ) × (i < r.width) × (column_at r i ≡ origin)
Crosses Pair r = column_at r 0 ≡ origin

-- the columns in use: each beside the one before it, and x in its limit
pub record Drawn (r : Record) : Type 0 where
  pub two : 2 ≤ r.width
  pub beside : (i : ℕ) → suc i < r.width → Beside (column_at r i) (column_at r (suc i))
  pub crosses : Crosses r.kind r
  pub small : (i : ℕ) → i < r.width → nat_abs (column_at r i).x ≤ wave_limit

-- ---- all of it

pub record Accepted (r : Record) : Type 0 where
  pub some : 0 < r.count
  pub short : r.count ≤ row_limit
  pub narrow : 2 ≤ r.width
  pub wide : r.width ≤ column_limit
  -- no row below the count is blank, and every other is
  pub present : (j : ℕ) → j < r.count → is_blank (part_at r j) ≡ false
  pub blank : (j : ℕ) → r.count ≤ j → part_at r j ≡ Blank
  pub lower : (j : ℕ) → Lower j (part_at r j)
  -- a row has at most one adaptor above it, and every row but the last has one
  pub once : (p q c : ℕ) → Child (part_at r p) c → Child (part_at r q) c → p ≡ q
  pub apart : (p : ℕ) → Apart (part_at r p)
  pub used : (k : ℕ) → suc k < r.count → (p : ℕ) × Parent r p k
  pub one_input : inputs r ≡ 1
  pub tapped : (r.tap ≡ top) ⊎ T (is_leaf (part_at r r.tap))
  pub sound : (j : ℕ) → j < r.count → T (sound_part (part_at r j))
  pub resistance : (j : ℕ) → j < r.count → T (in_range (resistance_at r j))
  -- an adaptor's ratio is above 0 and below one, a leaf's is 0
  pub ratio : (j : ℕ) → ratio_at r j < parts
  pub above : (j : ℕ) → Above (ratio_at r j) (part_at r j)
  -- N adaptors make 2N + 1 rows and a tree of as many adaptors; no row's tree has more, and the top's holds every leaf
  pub odd : r.count ≡ 2 * adaptors_of r + 1
  pub whole : adaptors (tree_of r) ≡ adaptors_of r
  pub partly : (j : ℕ) → j < r.count → adaptors (tree_at r j) ≤ adaptors_of r
  pub held : (j : ℕ) → T (is_leaf (part_at r j)) → T (holds (tree_of r) j)
  pub drawn : Drawn r
