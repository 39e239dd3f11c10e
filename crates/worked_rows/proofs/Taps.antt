-- What is listed of a tap with skews, of damaged pixels, of a capture that ends within an island, and of noise.
use Rattle.std.proofs.Common.{◌≡◌, ℕ, List, [], ◌∷◌, ◌++◌, refl, ap, ◌∙◌}
use Rattle.std.specs.Prelude.{take, drop}
use Rattle.std.specs.Fmt.{digits}
use Rattle.hex.specs.Hex.{encode_with}
use Rattle.tmds_word.specs.Column.{Column}
use Rattle.tmds_word.specs.Bits.{row_bits, number, bits_of, word_bits, window, ones, zeros, balance}
use Rattle.tmds_word.specs.Words.{columns_of as columns_from, words_of, all_words}
use Rattle.lane_align.specs.Words.{words_from, words_in, lane_words}
use Rattle.lane_deskew.specs.Aligned.{aligned_columns}
use Rattle.terc4.specs.Tables.{control_words, is_control, is_in, value_in, terc_words, video_guard, island_guard}
use Rattle.terc4.specs.Columns.{is_control_column, one_if, video_words, island_words, is_video_guard, is_island_guard, closing_words, closes, is_twelve_or_more}
use Rattle.tmds_code.specs.Coding.{coded_at, coded_bits, takes_xnor, minimised, balanced, decoded_bits, decoded_byte}
use Rattle.island_pack.specs.Nibbles.{nibble_of}
use Rattle.island_pack.specs.Periods.{has_preamble as preamble_there}
use Rattle.period_grammar.specs.Coding.{is_coded}
use Rattle.period_grammar.specs.Column.{control_bits, value_of, sync_digit}
use Rattle.period_grammar.specs.Cut.{runs, stretches}
use Rattle.period_grammar.specs.Events.{Event, run, line, code, noise, cut, open_island}
use Rattle.period_grammar.specs.Heard.{at_close, at_end, codes_of, has_preamble, heard_so_far, in_gap, line_bytes, line_of, other_words, heard as heard_of}
use Rattle.period_grammar.specs.Island.{holds_packet, split, packet_events, closing_events, in_island}
use Rattle.listing_writer.specs.Checks.{is_cut, is_checked, check_lines, check_text}
use Rattle.listing_writer.specs.Texts.{link_text, lines_of, line_words, sync_digits, fault_lines}
use Rattle.worked_rows.specs.Island.{columns as island_columns}
use Rattle.worked_rows.specs.Taps.{line_columns, tapped, skewed_text, other_text, wrong_text, faulty_text, clean_text, cut_text, cut_check, noise_columns, noise_text, SkewedIsHeard, PixelIsHeard, CutIsHeard, NoiseIsHeard}

-- the events of a line of one pixel, and of what is wrong with it
abbrev line_events : List ℕ → List Event → ℕ → List Event
line_events pixel faults after = run 0 4 ∷ run 4 8 ∷ line pixel ∷ faults ++ (run 0 after ∷ [])

-- what is heard of columns that are these ones
heard_as : (cs ds : List Column) (told : List Event) → cs ≡ ds → heard_of ds ≡ told → heard_of cs ≡ told
heard_as cs ds told is h = ap heard_of is ∙ h

skewed_columns : tapped (line_columns 20 0x100 0x100 0x200) 7 77 42 393 313 243 278 ≡ take 20 (drop 20 (line_columns 20 0x100 0x100 0x200))
unfolding line_columns aligned_columns columns_from words_of all_words words_from words_in lane_words row_bits number bits_of word_bits window
skewed_columns = refl

skewed_heard : heard_of (take 20 (drop 20 (line_columns 20 0x100 0x100 0x200))) ≡ line_events (255 ∷ 0 ∷ 0 ∷ []) [] 5
unfolding line_columns heard_of heard_so_far at_close at_end codes_of has_preamble in_gap line_bytes line_of other_words runs stretches control_bits value_of sync_digit is_control_column one_if video_words island_words is_video_guard is_island_guard closing_words closes is_twelve_or_more control_words is_control is_in value_in terc_words video_guard island_guard coded_at coded_bits takes_xnor minimised balanced decoded_bits decoded_byte number bits_of word_bits ones zeros balance preamble_there is_coded holds_packet split packet_events closing_events in_island nibble_of
skewed_heard = refl

abbrev skewed_events : List Event
skewed_events = line_events (255 ∷ 0 ∷ 0 ∷ []) [] 5

skewed : heard_of (tapped (line_columns 20 0x100 0x100 0x200) 7 77 42 393 313 243 278) ≡ skewed_events
skewed = heard_as (tapped (line_columns 20 0x100 0x100 0x200) 7 77 42 393 313 243 278) (take 20 (drop 20 (line_columns 20 0x100 0x100 0x200))) skewed_events skewed_columns skewed_heard

other_columns : tapped (line_columns 0 0x100 0x100 0x201) 0 0 0 270 120 120 120 ≡ line_columns 0 0x100 0x100 0x201
unfolding line_columns aligned_columns columns_from words_of all_words words_from words_in lane_words row_bits number bits_of word_bits window
other_columns = refl

other_heard : heard_of (line_columns 0 0x100 0x100 0x201) ≡ line_events (0xfc ∷ 0 ∷ 0 ∷ []) [] 12
unfolding line_columns heard_of heard_so_far at_close at_end codes_of has_preamble in_gap line_bytes line_of other_words runs stretches control_bits value_of sync_digit is_control_column one_if video_words island_words is_video_guard is_island_guard closing_words closes is_twelve_or_more control_words is_control is_in value_in terc_words video_guard island_guard coded_at coded_bits takes_xnor minimised balanced decoded_bits decoded_byte number bits_of word_bits ones zeros balance preamble_there is_coded holds_packet split packet_events closing_events in_island nibble_of
other_heard = refl

abbrev other_events : List Event
other_events = line_events (0xfc ∷ 0 ∷ 0 ∷ []) [] 12

other : heard_of (tapped (line_columns 0 0x100 0x100 0x201) 0 0 0 270 120 120 120) ≡ other_events
other = heard_as (tapped (line_columns 0 0x100 0x100 0x201) 0 0 0 270 120 120 120) (line_columns 0 0x100 0x100 0x201) other_events other_columns other_heard

wrong_columns : tapped (line_columns 0 0x100 0x100 0x300) 0 0 0 270 120 120 120 ≡ line_columns 0 0x100 0x100 0x300
unfolding line_columns aligned_columns columns_from words_of all_words words_from words_in lane_words row_bits number bits_of word_bits window
wrong_columns = refl

wrong_heard : heard_of (line_columns 0 0x100 0x100 0x300) ≡ line_events (1 ∷ 0 ∷ 0 ∷ []) (code 2 14 ∷ []) 12
unfolding line_columns heard_of heard_so_far at_close at_end codes_of has_preamble in_gap line_bytes line_of other_words runs stretches control_bits value_of sync_digit is_control_column one_if video_words island_words is_video_guard is_island_guard closing_words closes is_twelve_or_more control_words is_control is_in value_in terc_words video_guard island_guard coded_at coded_bits takes_xnor minimised balanced decoded_bits decoded_byte number bits_of word_bits ones zeros balance preamble_there is_coded holds_packet split packet_events closing_events in_island nibble_of
wrong_heard = refl

abbrev wrong_events : List Event
wrong_events = line_events (1 ∷ 0 ∷ 0 ∷ []) (code 2 14 ∷ []) 12

wrong : heard_of (tapped (line_columns 0 0x100 0x100 0x300) 0 0 0 270 120 120 120) ≡ wrong_events
wrong = heard_as (tapped (line_columns 0 0x100 0x100 0x300) 0 0 0 270 120 120 120) (line_columns 0 0x100 0x100 0x300) wrong_events wrong_columns wrong_heard

right_columns : tapped (line_columns 0 0x100 0x100 0x200) 0 0 0 270 120 120 120 ≡ line_columns 0 0x100 0x100 0x200
unfolding line_columns aligned_columns columns_from words_of all_words words_from words_in lane_words row_bits number bits_of word_bits window
right_columns = refl

right_heard : heard_of (line_columns 0 0x100 0x100 0x200) ≡ line_events (255 ∷ 0 ∷ 0 ∷ []) [] 12
unfolding line_columns heard_of heard_so_far at_close at_end codes_of has_preamble in_gap line_bytes line_of other_words runs stretches control_bits value_of sync_digit is_control_column one_if video_words island_words is_video_guard is_island_guard closing_words closes is_twelve_or_more control_words is_control is_in value_in terc_words video_guard island_guard coded_at coded_bits takes_xnor minimised balanced decoded_bits decoded_byte number bits_of word_bits ones zeros balance preamble_there is_coded holds_packet split packet_events closing_events in_island nibble_of
right_heard = refl

abbrev right_events : List Event
right_events = line_events (255 ∷ 0 ∷ 0 ∷ []) [] 12

right : heard_of (tapped (line_columns 0 0x100 0x100 0x200) 0 0 0 270 120 120 120) ≡ right_events
right = heard_as (tapped (line_columns 0 0x100 0x100 0x200) 0 0 0 270 120 120 120) (line_columns 0 0x100 0x100 0x200) right_events right_columns right_heard

short_columns : tapped (island_columns 0x29c 0x263) 0 0 0 300 120 120 120 ≡ take 30 (island_columns 0x29c 0x263)
unfolding island_columns aligned_columns columns_from words_of all_words words_from words_in lane_words row_bits number bits_of word_bits window
short_columns = refl

short_heard : heard_of (take 30 (island_columns 0x29c 0x263)) ≡ run 0 4 ∷ run 20 8 ∷ open_island 0 0 ∷ cut 14 ∷ []
unfolding island_columns heard_of heard_so_far at_close at_end codes_of has_preamble in_gap line_bytes line_of other_words runs stretches control_bits value_of sync_digit is_control_column one_if video_words island_words is_video_guard is_island_guard closing_words closes is_twelve_or_more control_words is_control is_in value_in terc_words video_guard island_guard coded_at coded_bits takes_xnor minimised balanced decoded_bits decoded_byte number bits_of word_bits ones zeros balance preamble_there is_coded holds_packet split packet_events closing_events in_island nibble_of
short_heard = refl

abbrev short_events : List Event
short_events = run 0 4 ∷ run 20 8 ∷ open_island 0 0 ∷ cut 14 ∷ []

short : heard_of (tapped (island_columns 0x29c 0x263) 0 0 0 300 120 120 120) ≡ short_events
short = heard_as (tapped (island_columns 0x29c 0x263) 0 0 0 300 120 120 120) (take 30 (island_columns 0x29c 0x263)) short_events short_columns short_heard

noisy_columns : tapped noise_columns 0 0 0 250 120 120 120 ≡ noise_columns
unfolding noise_columns aligned_columns columns_from words_of all_words words_from words_in lane_words row_bits number bits_of word_bits window
noisy_columns = refl

noisy_heard : heard_of (noise_columns) ≡ run 0 12 ∷ noise 12 ∷ run 0 12 ∷ []
unfolding noise_columns heard_of heard_so_far at_close at_end codes_of has_preamble in_gap line_bytes line_of other_words runs stretches control_bits value_of sync_digit is_control_column one_if video_words island_words is_video_guard is_island_guard closing_words closes is_twelve_or_more control_words is_control is_in value_in terc_words video_guard island_guard coded_at coded_bits takes_xnor minimised balanced decoded_bits decoded_byte number bits_of word_bits ones zeros balance preamble_there is_coded holds_packet split packet_events closing_events in_island nibble_of
noisy_heard = refl

abbrev noisy_events : List Event
noisy_events = run 0 12 ∷ noise 12 ∷ run 0 12 ∷ []

noisy : heard_of (tapped noise_columns 0 0 0 250 120 120 120) ≡ noisy_events
noisy = heard_as (tapped noise_columns 0 0 0 250 120 120 120) (noise_columns) noisy_events noisy_columns noisy_heard

pub skewed_row : SkewedIsHeard
unfolding skewed_text link_text lines_of line_words encode_with digits sync_digits
skewed_row = ap link_text skewed

pub pixel_row : PixelIsHeard
unfolding other_text wrong_text faulty_text clean_text is_cut is_checked check_lines check_text fault_lines link_text lines_of line_words encode_with digits sync_digits
pixel_row = record { other = ap link_text other; wrong = ap link_text wrong; faulty = ap check_text wrong; clean = ap check_text right }

pub cut_row : CutIsHeard
unfolding cut_text cut_check is_cut is_checked check_lines check_text fault_lines link_text lines_of line_words encode_with digits sync_digits
cut_row = record { listed = ap link_text short; checked = ap check_text short }

pub noise_row : NoiseIsHeard
unfolding noise_text link_text lines_of line_words encode_with digits sync_digits
noise_row = ap link_text noisy
