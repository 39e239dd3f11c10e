use Rattle.std.proofs.Common.{◌/◌, refl}
use Rattle.track_sink.proofs.Moving.{all_moved}
use Rattle.track_sink.proofs.held.move_bits.Goals as goal

pub returns-clause-bits : goal.returns-clause-bits
returns-clause-bits c =
    all_moved c.args.bytes.now c.move_words.new.bytes c.move_few.new.bytes c.args.start c.args.count (c.args.start / 8) refl c.move_words.ensures.rest c.move_words.ensures.bits
    c.move_few.ensures.before c.move_few.ensures.bits
