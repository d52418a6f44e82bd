-- Parts of a listing that the code puts one by one: a line of two numbers, a line's ending, and the lines of a record's first rows. How many
-- bytes each kind of text can have.
use Rattle.std.specs.Prelude.{ℕ, ◌+◌, List, [], ◌++◌, length, Option, Some, None}
use Rattle.circuit.specs.Counting.{table}
use Rattle.circuit.specs.Text.{text, decimal}
use Rattle.circuit.specs.Record.{part_at}
use Rattle.circuit.specs.File.{concat}
use Rattle.circuit.specs.Listing.{element_name, join_name, row_line}
use Rattle.circuit.specs.declared.Part.{Part}
use Rattle.circuit.specs.declared.Part.TheVariants.{Blank, Leaf, Adaptor}
use Rattle.circuit.specs.declared.Record.{Record}

-- two numbers, with a text before each
unfoldable pub numbers_line : List ℕ → ℕ → List ℕ → ℕ → List ℕ
numbers_line first a second b = first ++ decimal a ++ second ++ decimal b ++ text "\n"

-- a leaf has no ratio
unfoldable pub ending : Option ℕ → List ℕ
ending None = text " -\n"
ending (Some g) = text " " ++ decimal g ++ text "\n"

-- a row's number, its kind in a word, and its ending
unfoldable pub line : ℕ → List ℕ → Option ℕ → List ℕ
line j name ratio = decimal j ++ text " " ++ name ++ ending ratio

-- a row's line, where its ratio is known; a blank one has no byte
unfoldable pub part_line : ℕ → Part → ℕ → List ℕ
part_line j Blank ratio = []
part_line j (Leaf e) ratio = line j (element_name e) None
part_line j (Adaptor a) ratio = line j (join_name a.join) (Some ratio)

unfoldable pub row_lines : Record → ℕ → List ℕ
row_lines r n = concat (table (λ j. row_line r j (part_at r j)) n)

-- the digits of a number
abbrev pub number_room : ℕ
number_room = 8

abbrev pub numbers_room : List ℕ → List ℕ → ℕ
numbers_room first second = length first + number_room + length second + number_room + 1

-- `capacitor`
abbrev pub name_room : ℕ
name_room = 9

-- a space, a ratio and a newline
abbrev pub ending_room : ℕ
ending_room = 1 + number_room + 1

-- the 28 bytes that `listing_room` has for each row
abbrev pub line_room : ℕ
line_room = number_room + 1 + name_room + ending_room
