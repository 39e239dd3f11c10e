use Rattle.tmds_word.specs.Bits.{bytes_bits}
use Rattle.lane_track.proofs.Seeking.{none_past, first_past}
use Rattle.lane_track.proofs.ahead.next_past.Goals as goal

pub returns-in-Some : goal.returns-in-Some
returns-in-Some c = first_past (bytes_bits c.args.bytes.now) c.args.skip c.args.from c.args.until c.args.phase c.phase_past.result c.in-Some.place c.phase_past.ensures.same c.in-Some.ensures

pub returns-in-None : goal.returns-in-None
returns-in-None c = none_past (bytes_bits c.args.bytes.now) c.args.skip c.args.from c.args.until c.args.phase c.phase_past.result c.phase_past.ensures.same c.in-None.ensures
