-- What the content listing reads as, its raster, and what is listed of its columns.
use Rattle.std.proofs.Common.{◌≡◌, ℕ, List, [], ◌∷◌, ◌++◌, refl, ap, ◌∙◌}
use Rattle.std.specs.Prelude.{drop}
use Rattle.std.specs.Fmt.{digits}
use Rattle.hex.specs.Hex.{encode_with, decode_pairs}
use Rattle.tmds_word.specs.Column.{Column, blues, greens, reds}
use Rattle.tmds_word.specs.Bits.{row_bits, number, bits_of, word_bits, window, ones, zeros, balance}
use Rattle.tmds_word.specs.Words.{columns_of as columns_from, words_of, all_words}
use Rattle.lane_align.specs.Words.{words_from, words_in, lane_words}
use Rattle.lane_deskew.specs.Aligned.{aligned_columns}
use Rattle.terc4.specs.Tables.{control_words, is_control, is_in, value_in, terc_words, video_guard, island_guard}
use Rattle.terc4.specs.Columns.{is_control_column, one_if, video_words, island_words, is_video_guard, is_island_guard, closing_words, is_twelve_or_more}
use Rattle.tmds_code.specs.Coding.{coded_at, coded_bits, takes_xnor, minimised, balanced, decoded_bits, decoded_byte}
use Rattle.island_pack.specs.Periods.{has_preamble as preamble_there}
use Rattle.period_grammar.specs.Coding.{is_coded}
use Rattle.period_grammar.specs.Column.{control_bits, value_of}
use Rattle.period_grammar.specs.Cut.{runs, stretches}
use Rattle.period_grammar.specs.Events.{Event, run, line}
use Rattle.period_grammar.specs.Heard.{at_close, at_end, codes_of, has_preamble, heard_so_far, in_gap, line_bytes, line_of, other_words, heard as heard_of}
use Rattle.source_end.specs.Raster.{lines_of, laid, parts_of, gathered, raster_of}
use Rattle.source_end.specs.RasterRefusals.{raster_fault}
use Rattle.listing_reader.specs.ContentDrafts.{is_raster_mode, content_cause}
use Rattle.listing_reader.specs.ContentForms.{fields_of, numbers_of, numbers_form, mode_reported, row_form, numbers_line, digits_line, content_form_of}
use Rattle.listing_reader.specs.ContentReading.{content_step, content_reads_as}
use Rattle.listing_reader.specs.Forms.{digits_after, number_of, is_fault}
use Rattle.listing_reader.specs.LineSteps.{read_lines}
use Rattle.listing_reader.specs.Lines.{pieces_of}
use Rattle.listing_writer.specs.ContentText.{text_of, row_lines, has_other_size, vic_lines, frame_lines, frame_event_of, avi_at, last_avi, last_vic, lines_at, lines_after, content_lines, content_text}
use Rattle.worked_rows.specs.Content.{frame_text, content_listing, recovered_listing, first_row, second_row, raster, content_columns, ContentIsRead, ContentIsRaster, ContentIsHeard}

pub content_read : ContentIsRead
unfolding frame_text content_listing content_reads_as content_step content_cause is_raster_mode content_form_of numbers_line digits_line numbers_form numbers_of fields_of mode_reported row_form digits_after number_of is_fault read_lines pieces_of decode_pairs
content_read = refl

pub content_raster : ContentIsRaster
unfolding raster raster_of parts_of laid lines_of gathered raster_fault one_if
content_raster = record { taken = refl; periods = refl }

abbrev events : List Event
events =
    run 3 4 ∷ run 7 8 ∷ line first_row ∷ run 3 1 ∷ run 2 2 ∷ run 3 4 ∷ run 7 8 ∷ line second_row ∷ run 3 1 ∷ run 2 2 ∷ run 3 17
    ∷ run 0 2 ∷ run 1 17 ∷ run 2 2 ∷ run 3 17 ∷ run 2 2 ∷ run 3 4 ∷ run 7 8 ∷ line first_row ∷ run 3 1 ∷ run 2 2 ∷ run 3 4 ∷ run 7 8 ∷ line second_row
    ∷ run 3 1 ∷ run 2 2 ∷ run 3 17 ∷ run 0 32 ∷ []

text_is : content_text events ≡ recovered_listing
unfolding frame_text recovered_listing content_text text_of content_lines lines_after lines_at row_lines has_other_size vic_lines frame_lines frame_event_of avi_at last_avi last_vic encode_with digits
text_is = refl

events_are : heard_of (drop 40 content_columns) ≡ events
unfolding content_columns heard_of heard_so_far at_close at_end codes_of has_preamble in_gap line_bytes line_of other_words runs stretches control_bits value_of is_control_column one_if video_words island_words is_video_guard is_island_guard closing_words is_twelve_or_more control_words is_control is_in value_in terc_words video_guard island_guard coded_at coded_bits takes_xnor minimised balanced decoded_bits decoded_byte number bits_of word_bits ones zeros balance preamble_there is_coded
events_are = refl

columns_are : aligned_columns (row_bits (blues content_columns)) (row_bits (greens content_columns)) (row_bits (reds content_columns)) 520 520 520 ≡ drop 40 content_columns
unfolding content_columns aligned_columns columns_from words_of all_words words_from words_in lane_words row_bits number bits_of word_bits window
columns_are = refl

pub content_heard : ContentIsHeard
content_heard = ap (λ (cs : List Column). content_text (heard_of cs)) columns_are ∙ (ap content_text events_are ∙ text_is)
