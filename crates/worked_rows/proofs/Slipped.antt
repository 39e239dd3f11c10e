-- What is listed of a tap that is aligned at its second control period, and of a stream one lane of which loses bits.
use Rattle.std.proofs.Common.{◌≡◌, ℕ, List, [], ◌∷◌, ◌++◌, refl, ap, ap₂, ◌∙◌}
use Rattle.std.specs.Prelude.{take, drop}
use Rattle.std.specs.Fmt.{digits}
use Rattle.hex.specs.Hex.{encode_with}
use Rattle.tmds_word.specs.Column.{Column}
use Rattle.tmds_word.specs.Bits.{row_bits, number, bits_of, word_bits, window, ones, zeros, balance}
use Rattle.tmds_word.specs.Words.{columns_of as columns_from, words_of, all_words}
use Rattle.lane_align.specs.Words.{words_from, words_in, lane_words}
use Rattle.lane_deskew.specs.Aligned.{aligned_columns}
use Rattle.terc4.specs.Tables.{control_words, is_control, is_in, value_in, terc_words, video_guard, island_guard}
use Rattle.terc4.specs.Columns.{is_control_column, one_if, video_words, island_words, is_video_guard, is_island_guard, closing_words, closes, is_twelve_or_more}
use Rattle.tmds_code.specs.Coding.{coded_at, coded_bits, takes_xnor, minimised, balanced, decoded_bits, decoded_byte}
use Rattle.island_pack.specs.Nibbles.{nibble_of}
use Rattle.island_pack.specs.Periods.{has_preamble as preamble_there}
use Rattle.period_grammar.specs.Coding.{is_coded}
use Rattle.period_grammar.specs.Column.{control_bits, value_of, sync_digit}
use Rattle.period_grammar.specs.Cut.{runs, stretches}
use Rattle.period_grammar.specs.Events.{Event, run, line, cut}
use Rattle.period_grammar.specs.Heard.{at_close, at_end, codes_of, has_preamble, heard_so_far, in_gap, line_bytes, line_of, other_words, heard as heard_of}
use Rattle.period_grammar.specs.Island.{holds_packet, split, packet_events, closing_events, in_island}
use Rattle.capture_commands.specs.TrackText.{track_lines, track_text}
use Rattle.listing_writer.specs.Texts.{link_text, lines_of, line_words, slip_text, sync_digits}
use Rattle.track_sink.specs.TrackEvents.{slip, track_events_of}
use Rattle.worked_rows.specs.Island.{columns as island_columns}
use Rattle.worked_rows.specs.Taps.{tapped}
use Rattle.worked_rows.specs.Slipped.{late_text, columns, red_lane, before_slip, after_slip, slipped_text, LateIsHeard, SlippedIsHeard}

-- the events of a line of one red pixel
abbrev line_events : ℕ → List Event
line_events after = run 0 4 ∷ run 4 8 ∷ line (255 ∷ 0 ∷ 0 ∷ []) ∷ run 0 after ∷ []

late_columns : tapped (island_columns 0x29c 0x263) 0 1 0 749 600 599 600 ≡ take 26 (drop 48 (island_columns 0x29c 0x263))
unfolding island_columns aligned_columns columns_from words_of all_words words_from words_in lane_words row_bits number bits_of word_bits window
late_columns = refl

late_heard : heard_of (take 26 (drop 48 (island_columns 0x29c 0x263))) ≡ line_events 11
unfolding island_columns heard_of heard_so_far at_close at_end codes_of has_preamble in_gap line_bytes line_of other_words runs stretches control_bits value_of sync_digit is_control_column one_if video_words island_words is_video_guard is_island_guard closing_words closes is_twelve_or_more control_words is_control is_in value_in terc_words video_guard island_guard coded_at coded_bits takes_xnor minimised balanced decoded_bits decoded_byte number bits_of word_bits ones zeros balance preamble_there is_coded holds_packet split packet_events closing_events in_island nibble_of
late_heard = refl

pub late_row : LateIsHeard
unfolding late_text link_text lines_of line_words encode_with digits sync_digits
late_row = ap (λ (cs : List Column). link_text (heard_of cs)) late_columns ∙ ap link_text late_heard

-- fourteen columns before the pixels, which are cut
before_heard : heard_of before_slip ≡ run 0 4 ∷ run 4 8 ∷ cut 14 ∷ []
unfolding columns red_lane aligned_columns columns_from words_of all_words words_from words_in lane_words row_bits window heard_of heard_so_far at_close at_end codes_of has_preamble in_gap line_bytes line_of other_words runs stretches control_bits value_of sync_digit is_control_column one_if video_words island_words is_video_guard is_island_guard closing_words closes is_twelve_or_more control_words is_control is_in value_in terc_words video_guard island_guard coded_at coded_bits takes_xnor minimised balanced decoded_bits decoded_byte number bits_of word_bits ones zeros balance preamble_there is_coded holds_packet split packet_events closing_events in_island nibble_of
before_heard = refl

after_columns : after_slip ≡ drop 64 columns
unfolding columns red_lane aligned_columns columns_from words_of all_words words_from words_in lane_words row_bits number bits_of word_bits window
after_columns = refl

after_heard : heard_of (drop 64 columns) ≡ line_events 12
unfolding columns heard_of heard_so_far at_close at_end codes_of has_preamble in_gap line_bytes line_of other_words runs stretches control_bits value_of sync_digit is_control_column one_if video_words island_words is_video_guard is_island_guard closing_words closes is_twelve_or_more control_words is_control is_in value_in terc_words video_guard island_guard coded_at coded_bits takes_xnor minimised balanced decoded_bits decoded_byte number bits_of word_bits ones zeros balance preamble_there is_coded holds_packet split packet_events closing_events in_island nibble_of
after_heard = refl

slipped_lines : track_text (track_events_of (run 0 4 ∷ run 4 8 ∷ cut 14 ∷ []) ++ (slip 2 437 ∷ track_events_of (line_events 12))) ≡ slipped_text
unfolding slipped_text track_text track_lines slip_text lines_of line_words encode_with digits sync_digits
slipped_lines = refl

pub slipped_row : SlippedIsHeard
slipped_row =
    ap₂ (λ (h g : List Event). track_text (track_events_of h ++ (slip 2 437 ∷ track_events_of g))) before_heard (ap heard_of after_columns ∙ after_heard) ∙ slipped_lines
