-- A Null packet, an AVI InfoFrame, clock numbers and a sample.
use Rattle.std.proofs.Common.{◌≡◌, ℕ, ◌+◌, ◌*◌, ◌%◌, ◌==◌, Bool, true, false, List, [], ◌∷◌, ◌++◌, map, length, replicate, refl, ap, ap₂, ◌∙◌, arith, Ok}
use Rattle.std.specs.Prelude.{count_ones}
use Rattle.std.proofs.lemmas.Nat.{ones_cat}
use Rattle.tmds_word.specs.Bits.{number}
use Rattle.tmds_word.proofs.Below.{passes_below}
use Rattle.terc4.specs.Tables.{terc_words, value_in, is_terc, is_in}
use Rattle.bch_block.specs.Bits.{bits_of_bytes}
use Rattle.bch_block.specs.Block.{IsBlock}
use Rattle.bch_block.proofs.Quotient.{is_block}
use Rattle.island_pack.specs.Nibbles.{nibble_of, nibbles_of, sync_values, header_bits, body_bits, by_turns, is_foreign, foreign_on, foreign_words}
use Rattle.island_pack.specs.Packets.{Carries}
use Rattle.island_pack.specs.Repaired.{divides, mend_from, verdict_of, bytes_in, repaired, packet_in, verdicts_in, packet_of, verdicts_of}
use Rattle.island_pack.specs.Spelling.{column_words}
use Rattle.island_pack.specs.Taken.{first_lost, spotless}
use Rattle.infoframe.specs.Fields.{number_of, field, avi_of, avi_table}
use Rattle.infoframe.specs.Frames.{length_in, frame_in, sum_of, kind_of, has_length, answer, frame_of}
use Rattle.infoframe.specs.Written.{info_as, info_of}
use Rattle.listing_reader.specs.InfoPackets.{payload_of, info_packet}
use Rattle.audio_packets.specs.Samples.{is_even, samples_of, samples_packet, side_bits}
use Rattle.audio_packets.specs.declared.sample.SampleNote.{SampleNote}
use Rattle.listing_reader.specs.InfoPackets.{no_sync}
use Rattle.worked_rows.specs.Fields.{packet, zeros, null, null_columns, IsNull, avi, avi_packet, IsAvi, clock_packet, IsClock, sample, sample_packet, IsSampleRow}
use Rattle.worked_rows.proofs.Carrying.{packet_whole, all_terc, IsCarried, is_marked, carries}

header_carried : IsCarried (header_bits (map column_words null_columns)) (zeros 3) 0
unfolding null_columns header_bits nibbles_of nibble_of value_in terc_words
header_carried = record { bits_are = refl; block = is_block (bits_of_bytes (zeros 4)) (omega arith) refl }

body_block : IsBlock (bits_of_bytes (zeros 8))
body_block = is_block (bits_of_bytes (zeros 8)) (omega arith) refl

body_carried : (b : ℕ) → body_bits (map column_words null_columns) b ≡ bits_of_bytes (zeros 8) → IsCarried (body_bits (map column_words null_columns) b) (zeros 7) 0
body_carried b are = record { bits_are = are; block = body_block }

null_carried : Carries null true (map column_words null_columns)
unfolding null_columns passes_below sync_values body_bits by_turns nibbles_of nibble_of value_in terc_words is_terc is_in
null_carried =
    carries null true (map column_words null_columns) 0 0 0 0 0 (packet_whole null refl refl refl refl refl) refl refl refl refl refl header_carried (body_carried 0 refl) (body_carried 1 refl) (body_carried 2 refl) (body_carried 3 refl) refl

null_taken : packet_of null_columns ≡ null
unfolding null_columns packet_in repaired bytes_in verdict_of divides mend_from sync_values header_bits body_bits by_turns nibbles_of nibble_of value_in terc_words number
null_taken = refl

null_spotless : verdicts_of null_columns ≡ spotless
unfolding null_columns verdicts_in verdict_of divides mend_from header_bits body_bits by_turns nibbles_of nibble_of value_in terc_words foreign_words foreign_on is_foreign is_terc is_in
null_spotless = refl

pub null_row : IsNull
null_row = record { carries = null_carried; taken = null_taken; spotless_is = null_spotless }

pub avi_row : IsAvi
unfolding info_packet payload_of frame_of frame_in length_in sum_of kind_of has_length answer first_lost info_of info_as avi_of avi_table field number_of
avi_row = record {
  written = refl;
  header = is_block (bits_of_bytes (0x82 ∷ 2 ∷ 0x0d ∷ 0xe4 ∷ [])) (omega arith) refl;
  body = is_block (bits_of_bytes (0x66 ∷ 0 ∷ 8 ∷ 0 ∷ 1 ∷ 0 ∷ 0 ∷ 0x35 ∷ [])) (omega arith) refl;
  read = refl;
  says = refl;
  refused = refl;
}

pub clock_row : IsClock
unfolding first_lost
clock_row = record {
  written = refl;
  header = is_block (bits_of_bytes (1 ∷ 0 ∷ 0 ∷ 0x4a ∷ [])) (omega arith) refl;
  body = is_block (bits_of_bytes (0 ∷ 0 ∷ 0x62 ∷ 0x70 ∷ 0 ∷ 0x18 ∷ 0 ∷ 0x1d ∷ [])) (omega arith) refl;
  read = refl;
  refused = refl;
}

-- the ones of the left value, byte by byte: counting takes as many steps as a number is large

first_byte : count_ones 0x12 ≡ 2
unfolding lib.Count.ones
first_byte = refl

second_byte : count_ones 0x34 ≡ 3
unfolding lib.Count.ones
second_byte = refl

third_byte : count_ones 0x56 ≡ 4
unfolding lib.Count.ones
third_byte = refl

none : count_ones 0 ≡ 0
unfolding lib.Count.ones
none = refl

nine : count_ones 0x123456 ≡ 9
nine = ones_cat 8 0x1234 0x56 (omega arith) ∙ ap₂ (λ a b. a + b) (ones_cat 8 0x12 0x34 (omega arith) ∙ ap₂ (λ a b. a + b) first_byte second_byte) third_byte

left_side : side_bits 0x123456 0 ≡ 8
left_side = ap₂ (λ a b. 0 + 8 * ((a + b) % 2)) nine none

right_side : side_bits 0 0 ≡ 0
right_side = ap (λ a. 0 + 8 * ((a + a) % 2)) none

even_at : (value flags parity ones : ℕ) (even : Bool) → count_ones value ≡ ones → count_ones flags ≡ 0 → ((ones + 0 + parity) % 2 == 0) ≡ even → is_even value flags parity ≡ even
even_at value flags parity ones even v f e = ap₂ (λ a b. (a + b + parity) % 2 == 0) v f ∙ e

sample_written : samples_packet (sample ∷ []) no_sync ≡ sample_packet 8
unfolding number
sample_written = ap₂ (λ l r. packet (2 ∷ 1 ∷ 0x10 ∷ []) (0x56 ∷ 0x34 ∷ 0x12 ∷ 0 ∷ 0 ∷ 0 ∷ (l + 16 * r) ∷ zeros 21)) left_side right_side

abbrev note : Bool → Bool → List SampleNote
note l r = record { place = 0; sample = sample; left_even = l; right_even = r } ∷ []

sample_read : samples_of (sample_packet 8) spotless ≡ Ok (note true true)
unfolding first_lost
sample_read = ap₂ (λ l r. Ok (note l r)) (even_at 0x123456 0 1 9 true nine none refl) (even_at 0 0 0 0 true none none refl)

sample_uneven : samples_of (sample_packet 0) spotless ≡ Ok (note false true)
unfolding first_lost
sample_uneven = ap₂ (λ l r. Ok (note l r)) (even_at 0x123456 0 0 9 false nine none refl) (even_at 0 0 0 0 true none none refl)

pub sample_row : IsSampleRow
sample_row = record { written = sample_written; read = sample_read; uneven = sample_uneven }
