-- The bytes of the capture.
use Rattle.std.proofs.Common.{refl}
use Rattle.worked_rows.specs.Row.{IsCaptured, columns, capture}
use Rattle.capture_file.specs.Taps.{tapped_capture}
use Rattle.capture_file.specs.Layout.{packed, high_first, header, chunk, block, blocks_below}
use Rattle.capture_file.specs.Captures.{layout, header_of, lane_blocks}
use Rattle.tmds_word.specs.Bits.{row_bits, number, bytes_of, bits_of, word_bits}

pub captured : IsCaptured
unfolding columns capture tapped_capture packed high_first header chunk block blocks_below layout header_of lane_blocks row_bits number bytes_of bits_of word_bits
captured = refl
