-- Room for any answer's words.
use Rattle.std.specs.Prelude.{ℕ}

abbrev pub words_room : ℕ
words_room = 129
