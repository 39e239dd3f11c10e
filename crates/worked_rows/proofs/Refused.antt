-- Which listings are refused.
use Rattle.std.proofs.Common.{refl}
use Rattle.std.specs.Fmt.{digits}
use Rattle.worked_rows.specs.Refused.{AreRefused, short_control, no_preamble, great_value, more_after, fault_line}
use Rattle.listing_reader.specs.Reading.{reads_as, link_step}
use Rattle.listing_reader.specs.LineSteps.{read_lines}
use Rattle.listing_reader.specs.Lines.{pieces_of}
use Rattle.listing_reader.specs.Forms.{digits_after, number_of, control_form, video_form, pair_form, has_spaces, packet_form, is_fault, form_of}
use Rattle.listing_reader.specs.HexValues.{value_of}
use Rattle.listing_reader.specs.Causes.{run_cause, island_cause, packet_cause, close_cause, end_cause, line_cause}
use Rattle.hex.specs.Hex.{decode_pairs}
use Rattle.island_pack.specs.Periods.{columns_of, period_columns, values_of, has_preamble}
use Rattle.source_end.specs.Refusals.{is_in_range, push_fault, close_fault}

pub are_refused : AreRefused
unfolding short_control no_preamble great_value more_after fault_line reads_as link_step read_lines pieces_of digits_after number_of control_form video_form pair_form has_spaces packet_form is_fault form_of value_of run_cause island_cause packet_cause close_cause end_cause line_cause decode_pairs columns_of period_columns values_of has_preamble is_in_range push_fault close_fault digits
are_refused = record {
  control = record { refused = refl; said = refl };
  preamble = record { refused = refl; said = refl };
  range = record { refused = refl; said = refl };
  unended = record { refused = refl; said = refl };
  after = record { refused = refl; said = refl };
  fault = record { refused = refl; said = refl };
}
