-- How the columns of the island are spelled.
use Rattle.std.proofs.Common.{◌≡◌, ℕ, true, List, [], ◌∷◌, ◌++◌, map, refl, arith}
use Rattle.std.specs.Prelude.{take, drop}
use Rattle.tmds_word.specs.Column.{Column}
use Rattle.tmds_word.proofs.Below.{passes_below}
use Rattle.terc4.specs.Tables.{control_words, terc_words, video_guard, island_guard, value_in, is_terc, is_in}
use Rattle.bch_block.specs.Bits.{bits_of_bytes}
use Rattle.bch_block.proofs.Quotient.{is_block}
use Rattle.island_pack.specs.Nibbles.{nibble_of, nibbles_of, sync_values, header_bits, body_bits, by_turns}
use Rattle.island_pack.specs.Packets.{Carries}
use Rattle.island_pack.specs.Periods.{values_of, pixels_of}
use Rattle.island_pack.specs.Spelling.{column_words}
use Rattle.worked_rows.specs.Fields.{zeros, avi_packet}
use Rattle.worked_rows.specs.Island.{IslandIsSpelled, periods, columns, packet_columns}
use Rattle.worked_rows.proofs.Carrying.{packet_whole, IsCarried, carries}
use Rattle.worked_rows.proofs.Spelled.{lane, zero_word, full_word}

unfoldable words : List (List ℕ)
words = map column_words (packet_columns 0x29c 0x263 [])

header_carried : IsCarried (header_bits words) (0x82 ∷ 2 ∷ 0x0d ∷ []) 0xe4
unfolding words header_bits nibbles_of nibble_of value_in terc_words
header_carried = record { bits_are = refl; block = is_block (bits_of_bytes (0x82 ∷ 2 ∷ 0x0d ∷ 0xe4 ∷ [])) (omega arith) refl }

first_carried : IsCarried (body_bits words 0) (0x66 ∷ 0 ∷ 8 ∷ 0 ∷ 1 ∷ 0 ∷ 0 ∷ []) 0x35
unfolding words body_bits by_turns nibbles_of nibble_of value_in terc_words
first_carried = record { bits_are = refl; block = is_block (bits_of_bytes (0x66 ∷ 0 ∷ 8 ∷ 0 ∷ 1 ∷ 0 ∷ 0 ∷ 0x35 ∷ [])) (omega arith) refl }

zeros_carried : (b : ℕ) → body_bits words b ≡ bits_of_bytes (zeros 8) → IsCarried (body_bits words b) (zeros 7) 0
zeros_carried b are = record { bits_are = are; block = is_block (bits_of_bytes (zeros 8)) (omega arith) refl }

carried : Carries (avi_packet 0x66) true words
unfolding words passes_below sync_values body_bits by_turns nibbles_of nibble_of value_in terc_words is_terc is_in
carried =
    carries (avi_packet 0x66) true words 0xe4 0x35 0 0 0 (packet_whole (avi_packet 0x66) refl refl refl refl refl) refl refl refl refl refl header_carried first_carried (zeros_carried 1 refl) (zeros_carried 2 refl) (zeros_carried 3 refl) refl

abbrev all : List Column
all = columns 0x29c 0x263

pub island_spelled : IslandIsSpelled
unfolding words columns periods values_of pixels_of control_words terc_words video_guard island_guard
island_spelled = (
  take 12 all,
  drop 12 all,
  refl,
  refl,
  (
    take 36 (drop 12 all),
    drop 48 all,
    refl,
    (packet_columns 0x29c 0x263 [], refl, (packet_columns 0x29c 0x263 [], [], refl, carried, refl)),
    (
      take 12 (drop 48 all),
      drop 60 all,
      refl,
      refl,
      (
        take 3 (drop 60 all),
        drop 63 all,
        refl,
        (record { blue = 256; green = 256; red = 512 } ∷ [], refl, record { blue = lane 0 256 zero_word; green = lane 0 256 zero_word; red = lane 255 512 full_word }),
        (drop 63 all, [], refl, refl, refl),
      ),
    ),
  ),
)
