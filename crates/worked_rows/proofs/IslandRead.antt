-- What the listing of the island reads as.
use Rattle.std.proofs.Common.{refl}
use Rattle.worked_rows.specs.Island.{IslandIsRead, opening_lines, closing_lines, listing, periods}
use Rattle.listing_reader.specs.Reading.{reads_as, link_step}
use Rattle.listing_reader.specs.LineSteps.{read_lines}
use Rattle.listing_reader.specs.Lines.{pieces_of}
use Rattle.listing_reader.specs.Forms.{digits_after, number_of, control_form, video_form, pair_form, has_spaces, packet_form, is_fault, form_of}
use Rattle.listing_reader.specs.HexValues.{value_of}
use Rattle.listing_reader.specs.Causes.{run_cause, island_cause, packet_cause, close_cause, end_cause, line_cause}
use Rattle.hex.specs.Hex.{decode_pairs}
use Rattle.island_pack.specs.Periods.{columns_of, period_columns, values_of, has_preamble}
use Rattle.source_end.specs.Refusals.{is_in_range, push_fault, close_fault}

pub island_read : IslandIsRead
unfolding opening_lines closing_lines listing periods reads_as link_step read_lines pieces_of digits_after number_of control_form video_form pair_form has_spaces packet_form is_fault form_of value_of run_cause island_cause packet_cause close_cause end_cause line_cause decode_pairs columns_of period_columns values_of has_preamble is_in_range push_fault close_fault
island_read = refl
