-- What working out a circuit opens: every definition that a bench case computes with. A table says `unfolding working`, and each of these unfolds there.
use lib.Ieee.{size, span, climb, round, units, odd, sum, add, mul, div, lt, eq, le, of_int, of_fields, of_bits, to_bits}
use lib.Count.{count_trailing_zeros}
use Rattle.circuit.specs.Counting.{every, some, total, table}
use Rattle.circuit.specs.Numbers.{handed, judge, of, lowest}
use Rattle.circuit.specs.Record.{version_rule, form_rule, rate_rule, children_rule, used_once_rule, input_and_tap_rule, uses, inputs, value_rule, record_rules, adaptors_of, grow, grown, tree_at, tree_of, last_row}
use Rattle.circuit.specs.SetUp.{leaf_resistance, joined_resistance, resistance, resistance_at, quotient, scaled_down, ratio, ratio_at, prepared_rows, port_resistance_rule, ratio_rule, curve_resistance_rule, port_rules, circuit_rules, set_up_rules, set_up_report, set_up_rows}
use Rattle.circuit.specs.Curve.{sound_column, column_rule, passed, piece, drawn, line, toward_zero, reflected, segment}
use Rattle.circuit.specs.Sample.{holds, sends_up, sends_first, sends_second, up, reach, sends, stores, sent, raised, risen, reached, arriving, kept, output, h, rounding_of, in_limit, sampled}
use Rattle.circuit.specs.Run.{fresh_waves, play, stored_waves_rule, charged_rules, lengths_rule, run_rules, ran}
use Rattle.circuit.specs.File.{bytes, number_of, check_of, block, heading, part_fields, row_bytes, concat, blocks_of, sealed_from, file_of, record_of, no_record, file_length_rule, check_rule, clear, clear_file, unused_bytes_rule, file_rules, read_rules, read_report, read_record, write_rules, write_report, buffer_after}
use Rattle.circuit.specs.Take.{samples_of, left_over, output_bytes, fresh_take, carried_rule, held_rule, take_rules, room_rule, feed_rules, fed, end_rule, end_rules, ended}
use Rattle.circuit.specs.Omega.{cubic, entry}
use Rattle.circuit.specs.Knee.{knee_column, voltage_rule, build_report, built_kind, built_width, built_columns}
use Rattle.circuit.specs.Text.{text, digits}
use Rattle.circuit.specs.Listing.{row_line, accepted_lines, refused_line, listing}

unfoldable pub working : Unit {0}
unfolding size span climb round units odd sum add mul div lt eq le of_int of_fields of_bits to_bits count_trailing_zeros every some total table handed judge of lowest version_rule form_rule rate_rule children_rule used_once_rule input_and_tap_rule uses inputs value_rule record_rules adaptors_of grow grown tree_at tree_of last_row leaf_resistance joined_resistance resistance resistance_at quotient scaled_down ratio ratio_at prepared_rows port_resistance_rule ratio_rule curve_resistance_rule port_rules circuit_rules set_up_rules set_up_report set_up_rows sound_column column_rule passed piece drawn line toward_zero reflected segment holds sends_up sends_first sends_second up reach sends stores sent raised risen reached arriving kept output h rounding_of in_limit sampled fresh_waves play stored_waves_rule charged_rules lengths_rule run_rules ran bytes number_of check_of block heading part_fields row_bytes concat blocks_of sealed_from file_of record_of no_record file_length_rule check_rule clear clear_file unused_bytes_rule file_rules read_rules read_report read_record write_rules write_report buffer_after text digits row_line accepted_lines refused_line listing samples_of left_over output_bytes fresh_take carried_rule held_rule take_rules room_rule feed_rules fed end_rule end_rules ended cubic entry knee_column voltage_rule build_report built_kind built_width built_columns
working = tt
