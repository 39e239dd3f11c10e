-- What is heard of the columns.
use Rattle.std.proofs.Common.{◌≡◌, List, [], ◌∷◌, refl, ap, ◌∙◌}
use Rattle.worked_rows.specs.Row.{IsHeard, columns, listing}
use Rattle.tmds_word.specs.Column.{Column, blues, greens, reds}
use Rattle.tmds_word.specs.Bits.{row_bits, number, bits_of, word_bits, window, ones, balance}
use Rattle.tmds_word.specs.Words.{columns_of, words_of, all_words}
use Rattle.lane_align.specs.Words.{words_from, words_in, lane_words}
use Rattle.lane_deskew.specs.Aligned.{aligned_columns}
use Rattle.terc4.specs.Tables.{control_words, is_control, is_in, value_in, terc_words, video_guard, island_guard}
use Rattle.terc4.specs.Columns.{is_control_column, one_if, video_words, island_words, is_video_guard, is_island_guard, closing_words, is_twelve_or_more}
use Rattle.tmds_code.specs.Coding.{coded_at, coded_bits, takes_xnor, minimised, balanced, decoded_bits, decoded_byte}
use Rattle.period_grammar.specs.Column.{control_bits, value_of}
use Rattle.period_grammar.specs.Cut.{runs, stretches}
use Rattle.period_grammar.specs.Events.{Event, run, line}
use Rattle.period_grammar.specs.Heard.{at_close, at_end, codes_of, has_preamble, heard_so_far, in_gap, line_bytes, line_of, other_words, heard as heard_of}
use Rattle.listing_writer.specs.Texts.{link_text, lines_of, line_words}
use Rattle.hex.specs.Hex.{encode_with}
use Rattle.std.specs.Fmt.{digits}
use Rattle.island_pack.specs.Periods.{has_preamble as preamble_there}
use Rattle.period_grammar.specs.Coding.{is_coded}

abbrev events : List Event
events = run 0 4 ∷ run 4 8 ∷ line (255 ∷ 0 ∷ 0 ∷ []) ∷ run 0 12 ∷ []

text_is : link_text events ≡ listing
unfolding listing link_text lines_of line_words encode_with digits
text_is = refl

events_are : heard_of columns ≡ events
unfolding columns heard_of heard_so_far at_close at_end codes_of has_preamble in_gap line_bytes line_of other_words runs stretches control_bits value_of is_control_column one_if video_words island_words is_video_guard is_island_guard closing_words is_twelve_or_more control_words is_control is_in value_in terc_words video_guard island_guard coded_at coded_bits takes_xnor minimised balanced decoded_bits decoded_byte number bits_of word_bits ones balance preamble_there is_coded
events_are = refl

columns_are : aligned_columns (row_bits (blues columns)) (row_bits (greens columns)) (row_bits (reds columns)) 120 120 120 ≡ columns
unfolding columns aligned_columns columns_of words_of all_words words_from words_in lane_words row_bits number bits_of word_bits window
columns_are = refl

pub heard : IsHeard
heard = ap (λ (cs : List Column). link_text (heard_of cs)) columns_are ∙ (ap link_text events_are ∙ text_is)
