use Rattle.biphase_listing.proofs.Fours.{flags_fours}
use Rattle.biphase_listing.proofs.frame_line.flags_of.Goals as goal

pub returns : goal.returns
returns c = flags_fours c.args.side.now.sub c.args.side.now.fours c.requires.sound.flags c.requires.fours
