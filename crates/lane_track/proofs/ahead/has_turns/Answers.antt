use Rattle.lane_track.proofs.Sevens.{sevens, none_seen}
use Rattle.lane_track.proofs.ahead.has_turns.Goals as goal

pub returns : goal.returns
unfolding sevens
returns c = λ nothing k mask one ten. none_seen c.args.bits c.args.mask k nothing mask one ten
