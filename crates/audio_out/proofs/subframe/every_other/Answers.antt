use Rattle.audio_out.proofs.EveryOther.{ones, twos, fours, joined, gathered, gathered_is}
use Rattle.audio_out.proofs.subframe.every_other.Goals as goal

pub returns : goal.returns
unfolding ones twos fours joined gathered
returns c = gathered_is c.args.bits
