use Rattle.std.proofs.Common.{arith}
use borrow.Rule.Slice.PartMut.{put_mid}
use Rattle.tmds_word.proofs.Numbers.{pow_positive}
use Rattle.tmds_word.proofs.Rows.{mask_is}
use Rattle.track_sink.proofs.Moving.{after_less, after_byte, word_after}
use Rattle.track_sink.proofs.Shifting.{begin_after}
use Rattle.track_sink.proofs.held.shift_words.Goals as goal

pub loop-i-init : goal.loop-i-init
loop-i-init c = grind (arith, mask_is, pow_positive, begin_after)

pub overflow_cast-left-in-loop-i-2 : goal.overflow_cast-left-in-loop-i-2
overflow_cast-left-in-loop-i-2 c = record { fits = after_byte c.args.few c.eight_bytes-word.result c.requires.some c.requires.few (omega (arith, c.eight_bytes-word.ensures)) }

pub loop-i-preserved : goal.loop-i-preserved
loop-i-preserved c = grind (arith, after_less, word_after, put_mid)
