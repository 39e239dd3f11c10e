-- The characters of short lanes, and the blocks of a header.
use Rattle.std.proofs.Common.{◌≡◌, ℕ, zero, suc, ◌<◌, Bool, [], ◌∷◌, List, refl, arith}
use Rattle.std.specs.Prelude.{slice_index, take, drop, length}
use Rattle.tmds_code.specs.Coding.{Coded, coded_at, coded_bits, takes_xnor, minimised, balanced, decoded_bits, decoded_byte}
use Rattle.tmds_code.specs.Lanes.{IsLane, disparity_of}
use Rattle.tmds_word.specs.Bits.{number, bits_of, word_bits, ones, zeros, balance}
use Rattle.bch_block.specs.Bits.{bits_of_bytes, flipped}
use Rattle.bch_block.specs.Block.{IsBlock}
use Rattle.bch_block.proofs.Quotient.{is_block}
use Rattle.bch_block.proofs.Verdicts.{one_wrong, two_wrong}
use Rattle.worked_rows.specs.Codes.{IsCoding, IsBlackRow, IsWhiteRow, IsHeaderBlock}

black_lane : IsLane (0 ∷ 0 ∷ 0 ∷ []) (0x100 ∷ 0x3ff ∷ 0x100 ∷ [])
unfolding disparity_of coded_at coded_bits takes_xnor minimised balanced number bits_of word_bits ones zeros balance
black_lane = record { same_length = refl; coded = by }
  where
    by : (j : ℕ) → j < 3 → Coded (disparity_of (take j (0x100 ∷ 0x3ff ∷ 0x100 ∷ []))) (slice_index (0 ∷ 0 ∷ 0 ∷ []) j) (slice_index (0x100 ∷ 0x3ff ∷ 0x100 ∷ []) j)
    by zero lt = refl
    by (suc zero) lt = refl
    by (suc (suc zero)) lt = refl
    by (suc (suc (suc j))) lt = absurd (omega arith)

white_lane : IsLane (255 ∷ 255 ∷ []) (0x200 ∷ 0x0ff ∷ [])
unfolding disparity_of coded_at coded_bits takes_xnor minimised balanced number bits_of word_bits ones zeros balance
white_lane = record { same_length = refl; coded = by }
  where
    by : (j : ℕ) → j < 2 → Coded (disparity_of (take j (0x200 ∷ 0x0ff ∷ []))) (slice_index (255 ∷ 255 ∷ []) j) (slice_index (0x200 ∷ 0x0ff ∷ []) j)
    by zero lt = refl
    by (suc zero) lt = refl
    by (suc (suc j)) lt = absurd (omega arith)

pub black_row : IsBlackRow
unfolding disparity_of decoded_byte decoded_bits number bits_of word_bits ones zeros balance
black_row = record { coding = record { lane = black_lane; decoded_are = refl }; first = refl; second = refl; third = refl }

pub white_row : IsWhiteRow
unfolding disparity_of decoded_byte decoded_bits number bits_of word_bits ones zeros balance
white_row = record { coding = record { lane = white_lane; decoded_are = refl }; first = refl; second = refl }

abbrev bits : List Bool
bits = bits_of_bytes (0 ∷ 0 ∷ 0x80 ∷ 0x83 ∷ [])

block : IsBlock bits
block = is_block bits (omega arith) refl

pub header_block : IsHeaderBlock
header_block = record {
  block = block;
  clean = block;
  mended = one_wrong bits 24 (omega arith) block (omega arith);
  repaired = refl;
  lost = two_wrong bits 24 25 (omega arith) block (omega arith) (omega arith) (λ e. omega (arith, e));
}
