-- What an answer means, in a line of words: for a person who meets its number.
use Rattle.std.specs.Prelude.{ℕ, List, Result, Ok, Err, ⊤}
use Rattle.circuit.specs.Text.{text}
use Rattle.circuit.specs.declared.Refusal.{Refusal}
use Rattle.circuit.specs.declared.Refusal.TheVariants.{Length, Check, Version, Form, Rate, Tree, Value, Resistance, Ratio, Curve, Fit, Waves, Lengths, Sample, Overload, Room, LeftOver, Voltage}

unfoldable pub meaning : Result ⊤ Refusal → List ℕ
meaning (Ok a) = text "done\n"
meaning (Err Length) = text "the file is not 1536 bytes\n"
meaning (Err (Check block)) = text "a check is wrong; the place is the lowest block\n"
meaning (Err Version) = text "the version is neither 1 nor 2\n"
meaning (Err Form) = text "a count, kind, mark, blank row or column, or unused byte is against the rules\n"
meaning (Err Rate) = text "the rate is outside its limits\n"
meaning (Err (Tree row)) = text "a child is not lower than its adaptor, or a row is not used exactly once; the place is the row, or 255 for the input or the tap\n"
meaning (Err (Value row)) = text "an element value or steady microvolts are outside their limits; the place is the lowest row\n"
meaning (Err (Resistance row)) = text "a port resistance is outside its limits; the place is the lowest row\n"
meaning (Err (Ratio row)) = text "a ratio is outside its limits; the place is the lowest row\n"
meaning (Err (Curve column)) = text "a column breaks the column rule; the place is the lowest column, or 0 if a single has no (0, 0)\n"
meaning (Err Fit) = text "the curve resistance does not fit the top's port resistance\n"
meaning (Err (Waves row)) = text "a stored wave is outside its limits; the place is its row, or 255 for what a take carries beside its waves\n"
meaning (Err Lengths) = text "the input and the output have different lengths\n"
meaning (Err (Sample index)) = text "a sample is outside its limits; the place is its index\n"
meaning (Err (Overload index)) = text "a wave became too large; the place is the index of the sample\n"
meaning (Err Room) = text "the room is not four bytes for each whole sample\n"
meaning (Err (LeftOver samples)) = text "the take ends inside a sample; the place is how many samples are done\n"
meaning (Err Voltage) = text "the knee or the thermal voltage is below 1, the thermal voltage is no multiple of 32, or the last column would be above 67108864\n"
