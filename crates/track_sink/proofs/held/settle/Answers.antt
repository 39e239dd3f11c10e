use Rattle.std.proofs.Common.{◌-◌, refl, length, arith}
use Rattle.std.proofs.lemmas.List.{take_rest}
use Rattle.track_sink.proofs.Moving.{settled_bits, settled_none}
use Rattle.track_sink.proofs.held.settle.Goals as goal

pub returns-then-skip-gt0-clause-bits : goal.returns-then-skip-gt0-clause-bits
returns-then-skip-gt0-clause-bits c =
    let room = c.requires.room in
    settled_bits c.args.bytes.now _ _ c.move_bits.new.bytes c.args.at (length c.args.bytes.now - c.args.at) c.args.skip c.args.count (omega arith) refl (take_rest c.args.bytes.now c.args.at) refl c.move_bits.ensures.bits

pub returns-else-skip-gt0-clause-bits : goal.returns-else-skip-gt0-clause-bits
returns-else-skip-gt0-clause-bits c = settled_none c.args.bytes.now c.args.at c.args.skip c.args.count (omega (arith, c.if-skip-gt0.false))
