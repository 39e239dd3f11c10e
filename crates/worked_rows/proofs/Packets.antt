-- What is listed of an island of two packets, and of one of nineteen.
use Rattle.std.proofs.Common.{◌≡◌, ℕ, List, [], ◌∷◌, ◌++◌, refl, replicate}
use Rattle.tmds_word.specs.Column.{Column}
use Rattle.tmds_word.specs.Bits.{row_bits, number, bits_of, word_bits, window, ones, balance}
use Rattle.tmds_word.specs.Words.{columns_of, words_of, all_words}
use Rattle.lane_align.specs.Words.{words_from, words_in, lane_words}
use Rattle.lane_deskew.specs.Aligned.{aligned_columns}
use Rattle.terc4.specs.Tables.{control_words, is_control, is_in, value_in, terc_words, video_guard, island_guard, is_terc}
use Rattle.terc4.specs.Columns.{is_control_column, one_if, video_words, island_words, is_video_guard, is_island_guard, closing_words, closes, is_twelve_or_more}
use Rattle.tmds_code.specs.Coding.{coded_at, coded_bits, takes_xnor, minimised, balanced, decoded_bits, decoded_byte}
use Rattle.bch_block.specs.declared.Verdict.TheVariants.{Clean, Mended}
use Rattle.island_pack.specs.Nibbles.{nibble_of, nibbles_of, sync_values, header_bits, body_bits, by_turns, is_foreign, foreign_on, foreign_words}
use Rattle.island_pack.specs.Periods.{has_preamble as preamble_there, columns_of as all_columns, period_columns, values_of, has_preamble as has_period_preamble}
use Rattle.island_pack.specs.Repaired.{divides, mend_from, verdict_of, bytes_in, repaired, packet_in, verdicts_in}
use Rattle.island_pack.specs.Taken.{spotless}
use Rattle.island_pack.specs.declared.packet.PacketVerdicts.{PacketVerdicts}
use Rattle.period_grammar.specs.Coding.{is_coded}
use Rattle.period_grammar.specs.Column.{control_bits, value_of, sync_digit}
use Rattle.period_grammar.specs.Cut.{runs, stretches}
use Rattle.period_grammar.specs.Events.{Event, run, open_island, packet, close_island, symbols, mended, long_island}
use Rattle.period_grammar.specs.Heard.{at_close, at_end, codes_of, has_preamble, heard_so_far, in_gap, line_bytes, line_of, other_words, heard as heard_of}
use Rattle.period_grammar.specs.Island.{holds_packet, split, packet_events, closing_events, in_island}
use Rattle.listing_reader.specs.Reading.{reads_as, link_step}
use Rattle.listing_reader.specs.LineSteps.{accepts, read_lines}
use Rattle.listing_reader.specs.Lines.{pieces_of}
use Rattle.listing_reader.specs.Forms.{digits_after, number_of, control_form, video_form, pair_form, has_spaces, packet_form, is_fault, form_of}
use Rattle.listing_reader.specs.HexValues.{value_of as digit_of}
use Rattle.listing_reader.specs.Causes.{run_cause, island_cause, packet_cause, close_cause, end_cause, line_cause}
use Rattle.listing_writer.specs.Texts.{link_text, lines_of, line_words, sync_digits, packet_fields}
use Rattle.source_end.specs.Refusals.{is_in_range, push_fault, close_fault}
use Rattle.hex.specs.Hex.{encode_with, decode_pairs}
use Rattle.std.specs.Fmt.{digits}
use Rattle.worked_rows.specs.Fields.{null}
use Rattle.worked_rows.specs.Island.{opening_lines}
use Rattle.worked_rows.specs.Packets.{first_packet, second_packet, first_line, second_line, ending_lines, two_listing, two_mended, two_periods, two_columns, TwoAreListed, null_line, long_text, long_columns, LongIsHeard}
use Rattle.worked_rows.proofs.IslandHeard.{aligned, lists}

abbrev verdicts : ℕ → PacketVerdicts
verdicts bit = record { blocks = Mended bit ∷ Clean ∷ Clean ∷ Clean ∷ Clean ∷ []; symbols = 1 }

abbrev events : List Event → List Event → List Event
events first second = run 0 4 ∷ run 20 8 ∷ open_island 0 0 ∷ first ++ second ++ (close_island 0 0 ∷ run 0 12 ∷ [])

abbrev whole : List Event
whole = events (packet first_packet spotless 14 ∷ []) (packet second_packet spotless 46 ∷ [])

abbrev damaged : List Event
damaged = events (packet first_packet (verdicts 63) 14 ∷ symbols 14 1 ∷ mended 14 0 63 ∷ []) (packet second_packet (verdicts 1) 46 ∷ symbols 46 1 ∷ mended 46 0 1 ∷ [])

two_read : reads_as two_listing ≡ accepts two_periods
unfolding opening_lines first_line second_line ending_lines two_listing two_periods reads_as link_step read_lines pieces_of digits_after number_of control_form video_form pair_form has_spaces packet_form is_fault form_of digit_of run_cause island_cause packet_cause close_cause end_cause line_cause decode_pairs all_columns period_columns values_of has_period_preamble is_in_range push_fault close_fault
two_read = refl

aligned_whole : aligned (two_columns 0x263 0x263) ≡ two_columns 0x263 0x263
unfolding two_columns aligned_columns columns_of words_of all_words words_from words_in lane_words row_bits number bits_of word_bits window
aligned_whole = refl

heard_whole : heard_of (two_columns 0x263 0x263) ≡ whole
unfolding two_columns heard_of heard_so_far at_close at_end codes_of has_preamble in_gap line_bytes line_of other_words runs stretches control_bits value_of is_control_column one_if video_words island_words is_video_guard is_island_guard closing_words closes is_twelve_or_more control_words is_control is_in value_in terc_words video_guard island_guard coded_at coded_bits takes_xnor minimised balanced decoded_bits decoded_byte number bits_of word_bits ones balance preamble_there is_coded holds_packet split packet_events closing_events in_island sync_digit is_terc nibble_of nibbles_of sync_values header_bits body_bits by_turns is_foreign foreign_on foreign_words divides mend_from verdict_of bytes_in repaired packet_in verdicts_in
heard_whole = refl

text_whole : link_text whole ≡ two_listing
unfolding two_listing opening_lines first_line second_line ending_lines link_text lines_of line_words encode_with digits sync_digits packet_fields
text_whole = refl

aligned_damaged : aligned (two_columns 0x354 0x354) ≡ two_columns 0x354 0x354
unfolding two_columns aligned_columns columns_of words_of all_words words_from words_in lane_words row_bits number bits_of word_bits window
aligned_damaged = refl

heard_damaged : heard_of (two_columns 0x354 0x354) ≡ damaged
unfolding two_columns heard_of heard_so_far at_close at_end codes_of has_preamble in_gap line_bytes line_of other_words runs stretches control_bits value_of is_control_column one_if video_words island_words is_video_guard is_island_guard closing_words closes is_twelve_or_more control_words is_control is_in value_in terc_words video_guard island_guard coded_at coded_bits takes_xnor minimised balanced decoded_bits decoded_byte number bits_of word_bits ones balance preamble_there is_coded holds_packet split packet_events closing_events in_island sync_digit is_terc nibble_of nibbles_of sync_values header_bits body_bits by_turns is_foreign foreign_on foreign_words divides mend_from verdict_of bytes_in repaired packet_in verdicts_in
heard_damaged = refl

text_damaged : link_text damaged ≡ two_mended
unfolding two_mended opening_lines first_line second_line ending_lines link_text lines_of line_words encode_with digits sync_digits packet_fields
text_damaged = refl

pub two_row : TwoAreListed
two_row = record {
  read = two_read;
  heard = lists (two_columns 0x263 0x263) whole two_listing aligned_whole heard_whole text_whole;
  mended = lists (two_columns 0x354 0x354) damaged two_mended aligned_damaged heard_damaged text_damaged;
}

-- Nineteen packets.

abbrev null_at : ℕ → List Event
null_at column = packet null spotless column ∷ []

abbrev long_events : List Event
long_events =
    run 0 4 ∷ run 20 8 ∷ open_island 0 0 ∷ null_at 14 ++ null_at 46 ++ null_at 78 ++ null_at 110 ++ null_at 142 ++ null_at 174 ++ null_at 206 ++ null_at 238 ++ null_at 270 ++ null_at 302 ++ null_at 334
    ++ null_at 366 ++ null_at 398 ++ null_at 430 ++ null_at 462 ++ null_at 494 ++ null_at 526 ++ null_at 558 ++ null_at 590 ++ (long_island 590 ∷ close_island 0 0 ∷ run 0 12 ∷ [])

aligned_long : aligned long_columns ≡ long_columns
unfolding long_columns aligned_columns columns_of words_of all_words words_from words_in lane_words row_bits number bits_of word_bits window
aligned_long = refl

heard_long : heard_of long_columns ≡ long_events
unfolding long_columns heard_of heard_so_far at_close at_end codes_of has_preamble in_gap line_bytes line_of other_words runs stretches control_bits value_of is_control_column one_if video_words island_words is_video_guard is_island_guard closing_words closes is_twelve_or_more control_words is_control is_in value_in terc_words video_guard island_guard coded_at coded_bits takes_xnor minimised balanced decoded_bits decoded_byte number bits_of word_bits ones balance preamble_there is_coded holds_packet split packet_events closing_events in_island sync_digit is_terc nibble_of nibbles_of sync_values header_bits body_bits by_turns is_foreign foreign_on foreign_words divides mend_from verdict_of bytes_in repaired packet_in verdicts_in
heard_long = refl

text_long : link_text long_events ≡ long_text
unfolding null_line long_text opening_lines first_line second_line ending_lines link_text lines_of line_words encode_with digits sync_digits packet_fields
text_long = refl

pub long_row : LongIsHeard
long_row = lists long_columns long_events long_text aligned_long heard_long text_long
