-- What is heard of the island: with no damage, with a block that is mended, and with one that is lost.
use Rattle.std.proofs.Common.{◌≡◌, ℕ, List, [], ◌∷◌, ◌++◌, refl, ap, ◌∙◌, replicate}
use Rattle.tmds_word.specs.Column.{Column, blues, greens, reds}
use Rattle.tmds_word.specs.Bits.{row_bits, number, bits_of, word_bits, window, ones, balance}
use Rattle.tmds_word.specs.Words.{columns_of, words_of, all_words}
use Rattle.lane_align.specs.Words.{words_from, words_in, lane_words}
use Rattle.lane_deskew.specs.Aligned.{aligned_columns}
use Rattle.terc4.specs.Tables.{control_words, is_control, is_in, value_in, terc_words, video_guard, island_guard, is_terc}
use Rattle.terc4.specs.Columns.{is_control_column, one_if, video_words, island_words, is_video_guard, is_island_guard, closing_words, closes, is_twelve_or_more}
use Rattle.tmds_code.specs.Coding.{coded_at, coded_bits, takes_xnor, minimised, balanced, decoded_bits, decoded_byte}
use Rattle.bch_block.specs.declared.Verdict.{Verdict}
use Rattle.bch_block.specs.declared.Verdict.TheVariants.{Clean, Mended, Lost}
use Rattle.island_pack.specs.Nibbles.{nibble_of, nibbles_of, sync_values, header_bits, body_bits, by_turns, is_foreign, foreign_on, foreign_words}
use Rattle.island_pack.specs.Periods.{has_preamble as preamble_there}
use Rattle.island_pack.specs.Repaired.{divides, mend_from, verdict_of, bytes_in, repaired, packet_in, verdicts_in}
use Rattle.island_pack.specs.Taken.{spotless}
use Rattle.island_pack.specs.declared.packet.Packet.{Packet}
use Rattle.island_pack.specs.declared.packet.PacketVerdicts.{PacketVerdicts}
use Rattle.period_grammar.specs.Coding.{is_coded}
use Rattle.period_grammar.specs.Column.{control_bits, value_of, sync_digit}
use Rattle.period_grammar.specs.Cut.{runs, stretches}
use Rattle.period_grammar.specs.Events.{Event, run, line, open_island, packet, close_island, symbols, mended, lost}
use Rattle.period_grammar.specs.Heard.{at_close, at_end, codes_of, has_preamble, heard_so_far, in_gap, line_bytes, line_of, other_words, heard as heard_of}
use Rattle.period_grammar.specs.Island.{holds_packet, split, packet_events, closing_events, in_island}
use Rattle.listing_writer.specs.Texts.{link_text, lines_of, line_words, sync_digits, packet_fields}
use Rattle.hex.specs.Hex.{encode_with}
use Rattle.std.specs.Fmt.{digits}
use Rattle.worked_rows.specs.Fields.{zeros, avi_packet}
use Rattle.worked_rows.specs.Island.{IslandIsHeard, IslandIsMended, IslandIsLost, Lists, opening_lines, closing_lines, listing, mended_listing, lost_listing, columns}

-- the events of the island around what is reported of its packet
abbrev events : List Event → List Event
events told =
    run 0 4 ∷ run 20 8 ∷ open_island 0 0 ∷ told ++ (close_island 0 0 ∷ run 0 4 ∷ run 4 8 ∷ line (255 ∷ 0 ∷ 0 ∷ []) ∷ run 0 12 ∷ [])

abbrev verdicts : Verdict → ℕ → PacketVerdicts
verdicts v foreign = record { blocks = v ∷ Clean ∷ Clean ∷ Clean ∷ Clean ∷ []; symbols = foreign }

abbrev damaged_packet : Packet
damaged_packet = record { header = 0x82 ∷ 2 ∷ 0x0d ∷ []; bodies = 0x65 ∷ 0 ∷ 8 ∷ 0 ∷ 1 ∷ zeros 23; sync = zeros 32 }

abbrev whole : List Event
whole = events (packet (avi_packet 0x66) spotless 14 ∷ [])

abbrev mended_events : List Event
mended_events = events (packet (avi_packet 0x66) (verdicts (Mended 1) 1) 14 ∷ symbols 14 1 ∷ mended 14 0 1 ∷ [])

abbrev lost_events : List Event
lost_events = events (packet damaged_packet (verdicts Lost 0) 14 ∷ lost 14 0 ∷ [])

heard_whole : heard_of (columns 0x29c 0x263) ≡ whole
unfolding columns heard_of heard_so_far at_close at_end codes_of has_preamble in_gap line_bytes line_of other_words runs stretches control_bits value_of is_control_column one_if video_words island_words is_video_guard is_island_guard closing_words closes is_twelve_or_more control_words is_control is_in value_in terc_words video_guard island_guard coded_at coded_bits takes_xnor minimised balanced decoded_bits decoded_byte number bits_of word_bits ones balance preamble_there is_coded holds_packet split packet_events closing_events in_island sync_digit is_terc nibble_of nibbles_of sync_values header_bits body_bits by_turns is_foreign foreign_on foreign_words divides mend_from verdict_of bytes_in repaired packet_in verdicts_in
heard_whole = refl

text_whole : link_text whole ≡ listing
unfolding opening_lines closing_lines listing link_text lines_of line_words encode_with digits sync_digits packet_fields
text_whole = refl

heard_mended : heard_of (columns 0x29c 0x133) ≡ mended_events
unfolding columns heard_of heard_so_far at_close at_end codes_of has_preamble in_gap line_bytes line_of other_words runs stretches control_bits value_of is_control_column one_if video_words island_words is_video_guard is_island_guard closing_words closes is_twelve_or_more control_words is_control is_in value_in terc_words video_guard island_guard coded_at coded_bits takes_xnor minimised balanced decoded_bits decoded_byte number bits_of word_bits ones balance preamble_there is_coded holds_packet split packet_events closing_events in_island sync_digit is_terc nibble_of nibbles_of sync_values header_bits body_bits by_turns is_foreign foreign_on foreign_words divides mend_from verdict_of bytes_in repaired packet_in verdicts_in
heard_mended = refl

text_mended : link_text mended_events ≡ mended_listing
unfolding opening_lines closing_lines mended_listing link_text lines_of line_words encode_with digits sync_digits packet_fields
text_mended = refl

heard_lost : heard_of (columns 0x263 0x29c) ≡ lost_events
unfolding columns heard_of heard_so_far at_close at_end codes_of has_preamble in_gap line_bytes line_of other_words runs stretches control_bits value_of is_control_column one_if video_words island_words is_video_guard is_island_guard closing_words closes is_twelve_or_more control_words is_control is_in value_in terc_words video_guard island_guard coded_at coded_bits takes_xnor minimised balanced decoded_bits decoded_byte number bits_of word_bits ones balance preamble_there is_coded holds_packet split packet_events closing_events in_island sync_digit is_terc nibble_of nibbles_of sync_values header_bits body_bits by_turns is_foreign foreign_on foreign_words divides mend_from verdict_of bytes_in repaired packet_in verdicts_in
heard_lost = refl

text_lost : link_text lost_events ≡ lost_listing
unfolding opening_lines closing_lines lost_listing link_text lines_of line_words encode_with digits sync_digits packet_fields
text_lost = refl

-- the aligned columns are those that were received

abbrev pub aligned : List Column → List Column
aligned cs = aligned_columns (row_bits (blues cs)) (row_bits (greens cs)) (row_bits (reds cs)) 120 120 120

aligned_whole : aligned (columns 0x29c 0x263) ≡ columns 0x29c 0x263
unfolding columns aligned_columns columns_of words_of all_words words_from words_in lane_words row_bits number bits_of word_bits window
aligned_whole = refl

aligned_mended : aligned (columns 0x29c 0x133) ≡ columns 0x29c 0x133
unfolding columns aligned_columns columns_of words_of all_words words_from words_in lane_words row_bits number bits_of word_bits window
aligned_mended = refl

aligned_lost : aligned (columns 0x263 0x29c) ≡ columns 0x263 0x29c
unfolding columns aligned_columns columns_of words_of all_words words_from words_in lane_words row_bits number bits_of word_bits window
aligned_lost = refl

pub lists : (cs : List Column) (told : List Event) (text : List ℕ) → aligned cs ≡ cs → heard_of cs ≡ told → link_text told ≡ text → Lists cs text
lists cs told text a h t = ap (λ (ds : List Column). link_text (heard_of ds)) a ∙ ap link_text h ∙ t

pub island_heard : IslandIsHeard
island_heard = lists (columns 0x29c 0x263) whole listing aligned_whole heard_whole text_whole

pub island_mended : IslandIsMended
island_mended = lists (columns 0x29c 0x133) mended_events mended_listing aligned_mended heard_mended text_mended

pub island_lost : IslandIsLost
island_lost = lists (columns 0x263 0x29c) lost_events lost_listing aligned_lost heard_lost text_lost
