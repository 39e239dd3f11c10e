use Rattle.std.proofs.Common.{◌+◌, ◌*◌, drop, refl, arith}
use borrow.Rule.Slice.PartMut.{put_mid}
use Rattle.tmds_word.specs.Bits.{bytes_bits}
use Rattle.track_sink.proofs.Moving.{words_begin, word_moved, word_rest}
use Rattle.track_sink.proofs.held.move_words.Goals as goal

pub loop-i-init : goal.loop-i-init
loop-i-init c = record { rest = refl; moved = words_begin c.args.bytes.now (drop (8 * c.args.at + c.args.bit) (bytes_bits c.args.bytes.now)) }

pub loop-i-preserved : goal.loop-i-preserved
loop-i-preserved c = grind (arith, put_mid, word_rest, word_moved)
