-- Reading and then writing gives the same bytes, and writing and then reading gives the same record, f64 bit for bit. Both go block by block:
-- block k of the file is the block of its fields, and the fields and what they say are one another's there and back.
use mathlib.Core.Path.{◌≡◌, refl, sym, ap, ◌∙◌}
use Prim.Native.Nat.{ℕ, ◌+◌, ◌-◌, ◌*◌, ◌/◌, ◌<◌, ◌≤◌}
use native.Mathlib.Decide.{dec_lt}
use native.Mathlib.Omega.{arith}
use borrow.Author.Tests.{not-false, le-leb}
use mathlib.Core.Bool.{true, false, and-eq-true_iff}
use mathlib.Core.List.{List, [], ◌∷◌, ◌++◌, map}
use lib.Dec.{leb}
use lib.ListN.{length, get_or, take, drop, drop_of_length-le}
use lib.Seq.{take_at, length-take-le, take-take}
use lib.IntN.{pos}
use lib.Ieee.{Float, nan, inf, fin, is_nan, mul, le, lt, eq}
use Rattle.circuit.specs.Counting.{every}
use Rattle.std.specs.Prelude.{Result, Ok, Err, IfOk, ⊤}
use Rattle.circuit.specs.Numbers.{done, passes, handed}
use Rattle.circuit.specs.Record.{row_limit, column_limit, blank_row, row_at, part_at, column_at, sound_part, version_rule, value_rule}
use Rattle.circuit.specs.SetUp.{fits, curve_resistance_rule, set_up_report}
use Rattle.circuit.specs.File.{file_length, block_length, check_place, rows_per_block, row_length, column_length, number_at, float_at, check_of, block, heading, row_bytes, row_from, column_fields, column_from, concat, blocks_of, sealed_from, file_of, row_place, column_place, record_of, block_at, clear, clear_row, clear_file, read_report, read_record, WriteCall, write_report}
use Rattle.circuit.specs.Promises.{Reads, Writes}
use Rattle.circuit.specs.declared.Row.{Row}
use Rattle.circuit.specs.declared.Record.{Record}
use Rattle.circuit.specs.declared.Refusal.{Refusal}
use Rattle.laws.specs.Accepted.{Sized}
use Rattle.laws.proofs.Counting.{every_true, true_every, unless_passes, lowest_passes, length_table, get_or-table, is_table}
use Rattle.laws.proofs.Judging.{Passed, done_passed}
use Rattle.laws.proofs.Trying.{told_undone}
use Rattle.laws.proofs.Formed.{formed, rows_blank}
use Rattle.file.specs.Held.{Held}
use Rattle.blocks.specs.Placing.{Bytes, heading_length}
use Rattle.blocks.proofs.Digits.{bytes_drop, bytes_take, part_room}
use Rattle.blocks.proofs.Sizes.{heading_size, row_size, column_size, rows_size, columns_size, blocks_roomy}
use Rattle.blocks.proofs.Blocks.{behind, block_form, block_clear, block_right, block_back}
use Rattle.blocks.proofs.Sealed.{Roomy, roomy_at, sealed_length, sealed_at, sealed_back}
use Rattle.blocks.proofs.Pieces.{part_inner, pieces_at, pieces_back}
use Rattle.file.proofs.Clear.{clear_zeros, zeros_clear}
use Rattle.blocks.proofs.Judged.{Sound, judged_sound, sound_judged}
use Rattle.file.proofs.Reported.{read_judged, read_on, record_read, write_on, written_length, buffer_written}
use Rattle.file.proofs.RowTrips.{row_back, row_passes, row_read}
use Rattle.file.proofs.ColumnTrips.{column_back, column_read}
use Rattle.file.proofs.HeadingTrips as Heading

-- ---- reading, then writing

le_nan : (x : Float) → le x nan ≡ false
unfolding le lt eq
le_nan nan = refl
le_nan (inf s) = refl
le_nan (fin s m e) = refl

-- a curve's resistance that fits is a number
fits_number : (q r : Float) → fits q r ≡ true → is_nan q ≡ false
unfolding is_nan mul
fits_number nan r e = sym ((and-eq-true_iff _ _).0 e).0 ∙ le_nan _
fits_number (inf s) r e = refl
fits_number (fin s m k) r e = refl

module _ (s : List ℕ) (bs : Bytes s) (ok : read_report s ≡ done) where
  file_sound : Sound s
  file_sound = judged_sound s (read_judged s (ap (λ n. n.number) ok))

  rules_passed : Passed (record_of s)
  rules_passed = done_passed (record_of s) (sym (read_on s (read_judged s (ap (λ n. n.number) ok))) ∙ ok)

  record_sized : Sized (record_of s)
  unfolding record_of
  record_sized = record { rows = length_table _ row_limit; columns = length_table _ column_limit }

  part_there : (j : ℕ) → j < row_limit → part_at (record_of s) j ≡ (row_from (row_place j) s).part
  unfolding record_of
  part_there j h = ap (λ (w : Row). w.part) (get_or-table _ row_limit j _ h)

  part_sound : (j : ℕ) → j < row_limit → sound_part (row_from (row_place j) s).part ≡ true
  unfolding value_rule
  part_sound j h = ap sound_part (sym (part_there j h)) ∙ by (dec_lt j (record_of s).count)
    where
      by : Dec (j < (record_of s).count) → sound_part (part_at (record_of s) j) ≡ true
      by (yes l) = not-false _ (lowest_passes _ (record_of s).count rules_passed.values j l)
      by (no l) = ap sound_part (rows_blank (record_of s) (formed (record_of s) rules_passed.form) record_sized j (omega arith))

  -- the seven tests of rule 4
  file_tests : (leb (number_at 1 4 s) 2 ≡ true) × (clear 2 6 s ≡ true) × (clear 4 12 s ≡ true) × (clear (check_place - heading_length) heading_length s ≡ true)
      × (every (λ j. clear_row (number_at 1 (row_place j) s) (row_place j) s) rows_per_block ≡ true) × (clear 12 (row_place rows_per_block) s ≡ true)
      × (clear 12 (column_place column_limit) s ≡ true)
  unfolding clear_file
  file_tests =
      let t₆ = (and-eq-true_iff _ _).0 file_sound.clear in
      let t₅ = (and-eq-true_iff _ _).0 t₆.0 in
      let t₄ = (and-eq-true_iff _ _).0 t₅.0 in
      let t₃ = (and-eq-true_iff _ _).0 t₄.0 in
      let t₂ = (and-eq-true_iff _ _).0 t₃.0 in
      let t₁ = (and-eq-true_iff _ _).0 t₂.0 in
      (t₁.0, t₁.1, t₂.1, t₃.1, t₄.1, t₅.1, t₆.1)

  resistance_number : is_nan (float_at 16 s) ≡ false
  unfolding curve_resistance_rule record_of
  resistance_number = fits_number _ _ (unless_passes _ 0 rules_passed.curve_resistance)

  -- n bytes of block k, from i on
  block_part : (k i n : ℕ) → i + n ≤ block_length → take n (drop i (block_at k s)) ≡ take n (drop (block_length * k + i) s)
  block_part k i n h = part_inner s (block_length * k) block_length i n h

  heading_there : heading (record_of s) ≡ take heading_length (block_at 0 s)
  heading_there =
      Heading.heading_back s bs (omega (arith, file_sound.long)) file_tests.0 file_tests.1 file_tests.2 resistance_number
      ∙ sym (take-take heading_length block_length s (omega arith))

  rows_there : concat (map row_bytes (record_of s).rows) ≡ take (row_length * row_limit) (block_at 1 s)
  unfolding record_of
  rows_there =
      pieces_back row_bytes row_length blank_row (λ j. row_from (row_place j) s) row_limit (block_at 1 s)
      (λ j h.
      row_back s bs (row_place j) (omega (arith, file_sound.long)) (every_true _ rows_per_block file_tests.4 j (omega arith)) (part_sound j h)
      ∙ sym (block_part 1 (row_length * j) row_length (omega arith)))

  columns_there : concat (map column_fields (record_of s).columns) ≡ take (column_length * column_limit) (block_at 2 s)
  unfolding record_of
  columns_there =
      pieces_back column_fields column_length (column_from 0 s) (λ i. column_from (column_place i) s) column_limit (block_at 2 s)
      (λ i h. column_back s bs (column_place i) (omega (arith, file_sound.long)) ∙ sym (block_part 2 (column_length * i) column_length (omega arith)))

  block_there : (k n : ℕ) (fields : List ℕ) → k < file_length / block_length → n ≤ check_place → fields ≡ take n (block_at k s)
      → clear (check_place - n) (block_length * k + n) s ≡ true → block k fields ≡ block_at k s
  block_there k n fields h l f z =
      block_back k n fields (block_at k s) (bytes_take block_length (drop (block_length * k) s) (bytes_drop (block_length * k) s bs))
      (length-take-le block_length (drop (block_length * k) s) (part_room (block_length * k) block_length s (omega (arith, file_sound.long)))) l f
      (block_part k n (check_place - n) (omega arith) ∙ clear_zeros (check_place - n) (block_length * k + n) s (omega (arith, file_sound.long)) z)
      (file_sound.right k (omega (arith, file_sound.long)))

  file_there : file_of (record_of s) ≡ s
  unfolding file_of blocks_of sealed_from
  file_there =
      let rows = concat (map row_bytes (record_of s).rows) in
      let columns = concat (map column_fields (record_of s).columns) in
      sealed_back 0 (heading (record_of s)) (rows ∷ columns ∷ []) s (block_there 0 heading_length _ (omega arith) (omega arith) heading_there file_tests.3)
      (sealed_back 1 rows (columns ∷ []) s (block_there 1 (row_length * row_limit) _ (omega arith) (omega arith) rows_there file_tests.5)
      (sealed_back 2 columns [] s (block_there 2 (column_length * column_limit) _ (omega arith) (omega arith) columns_there file_tests.6)
      (sym (drop_of_length-le s {i = block_length * 3} (omega (arith, file_sound.long))))))

-- ---- writing, then reading

module _ (r : Record) (held : Held r) where
  roomy : Roomy (blocks_of r)
  roomy = blocks_roomy r held.sized

  file_long : length (file_of r) ≡ file_length
  unfolding file_of blocks_of
  file_long = sealed_length 0 (blocks_of r) roomy

  -- the fields of block k
  abbrev fields_of : ℕ → List ℕ
  fields_of k = get_or (blocks_of r) k []

  block_found : (k : ℕ) → k < file_length / block_length → block_at k (file_of r) ≡ block k (fields_of k)
  unfolding file_of blocks_of
  block_found k h = let e : 0 + k ≡ k = omega arith in sealed_at 0 (blocks_of r) roomy k (omega arith) ∙ ap (λ (i : ℕ). block i (fields_of k)) e

  -- n bytes of block k, from i on
  part_found : (k i n : ℕ) → k < file_length / block_length → i + n ≤ block_length → take n (drop (block_length * k + i) (file_of r)) ≡ take n (drop i (block k (fields_of k)))
  part_found k i n h l = sym (part_inner (file_of r) (block_length * k) block_length i n l) ∙ ap (λ (b : List ℕ). take n (drop i b)) (block_found k h)

  pad_clear : (k n : ℕ) → k < file_length / block_length → length (fields_of k) ≡ n → clear (check_place - n) (block_length * k + n) (file_of r) ≡ true
  pad_clear k n h e =
      let l = roomy_at (blocks_of r) roomy k in
      zeros_clear (check_place - n) (block_length * k + n) (file_of r)
      (part_found k n (check_place - n) h (omega arith) ∙ rw (← e) (block_clear k (fields_of k) l))

  -- piece j of block k, where the block's fields are pieces of w bytes
  piece_found : {A : Type 0} (f : A → List ℕ) (w : ℕ) (z : A) (xs : List A) (k j : ℕ) → k < file_length / block_length → fields_of k ≡ concat (map f xs) → ((a : A) → length (f a) ≡ w)
      → j < length xs → w * j + w ≤ check_place → take w (drop (block_length * k + w * j) (file_of r)) ≡ f (get_or xs j z)
  piece_found f w z xs k j h e size l m =
      part_found k (w * j) w h (omega arith)
      ∙ ap (λ (b : List ℕ). take w (drop (w * j) b)) (block_form k (fields_of k) (roomy_at (blocks_of r) roomy k) ∙ ap (λ (x : List ℕ). x ++ behind k (fields_of k)) e)
      ∙ pieces_at f w z xs (behind k (fields_of k)) (λ i q. size (get_or xs i z)) j l

  row_found : (j : ℕ) → j < row_limit → take row_length (drop (row_place j) (file_of r)) ≡ row_bytes (row_at r j)
  unfolding blocks_of
  row_found j h = piece_found row_bytes row_length blank_row r.rows 1 j (omega arith) refl row_size (omega (arith, held.sized.rows)) (omega arith)

  column_found : (i : ℕ) → i < column_limit → take column_length (drop (column_place i) (file_of r)) ≡ column_fields (column_at r i)
  unfolding blocks_of
  column_found i h = piece_found column_fields column_length (record { x = pos 0; y = pos 0 }) r.columns 2 i (omega arith) refl column_size (omega (arith, held.sized.columns)) (omega arith)

  heading_found : take heading_length (file_of r) ≡ heading r
  unfolding blocks_of
  heading_found =
      part_found 0 0 heading_length (omega arith) (omega arith)
      ∙ ap (take heading_length) (block_form 0 (heading r) (roomy_at (blocks_of r) roomy 0))
      ∙ take_at (heading r) (behind 0 (heading r)) heading_length (heading_size r)

  record_found : record_of (file_of r) ≡ r
  unfolding record_of
  record_found =
      rw (
        Heading.version_read r held (file_of r) heading_found,
        Heading.rate_read r held (file_of r) heading_found,
        Heading.count_read r held (file_of r) heading_found,
        Heading.tap_read r held (file_of r) heading_found,
        Heading.kind_of_read r held (file_of r) heading_found,
        Heading.width_read r held (file_of r) heading_found,
        Heading.resistance_read r held (file_of r) heading_found,
        sym (is_table (λ j. row_from (row_place j) (file_of r)) r.rows row_limit blank_row held.sized.rows (λ j h. sym (row_read (file_of r) (row_place j) _ (held.parts j) (row_found j h)))),
        sym (is_table (λ i. column_from (column_place i) (file_of r)) r.columns column_limit (record { x = pos 0; y = pos 0 }) held.sized.columns (λ i h. sym (column_read (file_of r) (column_place i) _ (held.columns i) (column_found i h)))),
      )

  clear_found : clear_file (file_of r) ≡ true
  unfolding blocks_of clear_file
  clear_found =
      rw (
        le-leb _ 2 (Heading.kind_listed r held (file_of r) heading_found),
        (Heading.gaps_clear r held (file_of r) heading_found).0,
        (Heading.gaps_clear r held (file_of r) heading_found).1,
        pad_clear 0 heading_length (omega arith) (heading_size r),
        true_every (λ j. clear_row (number_at 1 (row_place j) (file_of r)) (row_place j) (file_of r)) rows_per_block (λ j h. row_passes (file_of r) (row_place j) _ (row_found j (omega arith))),
        pad_clear 1 (row_length * row_limit) (omega arith) (rows_size r.rows ∙ ap (λ (n : ℕ). row_length * n) held.sized.rows),
        pad_clear 2 (column_length * column_limit) (omega arith) (columns_size r.columns ∙ ap (λ (n : ℕ). column_length * n) held.sized.columns),
      )

  sound_found : version_rule r.version ≡ passes → Sound (file_of r)
  sound_found v = record {
    long = file_long;
    right = λ k h.
        let l : k < file_length / block_length = omega (arith, file_long) in
        ap (λ (b : List ℕ). number_at 4 check_place b) (block_found k l) ∙ block_right k (fields_of k) (roomy_at (blocks_of r) roomy k) ∙ sym (ap (check_of k) (block_found k l));
    version = ap version_rule (Heading.version_read r held (file_of r) heading_found) ∙ v;
    clear = clear_found;
  }

  report_found : set_up_report r ≡ done → read_report (file_of r) ≡ done
  report_found ok = read_on (file_of r) (sound_judged (file_of r) (sound_found (done_passed r ok).version)) ∙ ap set_up_report record_found ∙ ok

-- ---- the round trips, of what reading hands back and what writing leaves

-- a buffer that is written has a file's length
pub written_long : {c : WriteCall} {a : Result ⊤ Refusal} {after : List ℕ} → Writes c a after → handed a ≡ done → length c.buffer ≡ file_length
written_long {c} w ok = written_length c (sym w.number ∙ ok)

-- an accepted file, read and then written to a buffer of a file's length: it is written, and is the same bytes
pub read_then_written : {s b after : List ℕ} {r : Record} {a : Result ⊤ Refusal} → Bytes s → Reads s (Ok r) → length b ≡ file_length
    → Writes (record { circuit = r; buffer = b }) a after → (handed a ≡ done) × (after ≡ s)
read_then_written {s} {b} {after} {r} {a} bs g n w = (w.number ∙ reported, w.buffer ∙ buffer_written asked (ap (λ m. m.number) reported) ∙ ap file_of same ∙ file_there s bs told)
  where
    asked : WriteCall
    asked = record { circuit = r; buffer = b }

    told : read_report s ≡ done
    told = sym g.number

    same : r ≡ record_of s
    same = g.circuit ∙ record_read s (ap (λ m. m.number) told)

    reported : write_report asked ≡ done
    reported = write_on asked n ∙ ap set_up_report same ∙ sym (read_on s (read_judged s (ap (λ m. m.number) told))) ∙ told

-- a record that is written, and its file then read: it is accepted, and is the same record
pub written_then_read : {r : Record} {b after : List ℕ} {a : Result ⊤ Refusal} {got : Result Record Refusal} → Held r → Writes (record { circuit = r; buffer = b }) a after
    → handed a ≡ done → Reads after got → got ≡ Ok r
written_then_read {r} {b} {after} {a} {got} held w ok g = by got (g.number ∙ accepted) g.circuit
  where
    asked : WriteCall
    asked = record { circuit = r; buffer = b }

    told : write_report asked ≡ done
    told = sym w.number ∙ ok

    left : after ≡ file_of r
    left = w.buffer ∙ buffer_written asked (ap (λ m. m.number) told)

    accepted : read_report after ≡ done
    accepted = ap read_report left ∙ report_found r held (sym (write_on asked (written_long w ok)) ∙ told)

    by : (got : Result Record Refusal) → handed got ≡ done → IfOk got (λ q. q ≡ read_record after) → got ≡ Ok r
    by (Ok q) e f = ap Ok (f ∙ record_read after (ap (λ m. m.number) accepted) ∙ ap record_of left ∙ record_found r held)
    by (Err e) same f = absurd (told_undone e same)
