use Rattle.audio_out.proofs.EveryOther.{ones, twos, fours, fours_below, joined}
use Rattle.audio_out.proofs.Fields.{turns_of}
use Rattle.audio_out.proofs.FoursRead.{fours_of}
use Rattle.biphase_listing.proofs.Fours.{has_fours}
use Rattle.biphase_listing.proofs.side.fours.Goals as goal

pub returns : goal.returns
unfolding ones twos fours joined turns_of
returns c = λ sub h.
    has_fours sub _ (fours_below (turns_of c.from_le_bytes-halves.result)) (fours_of sub c.args.group.now c.from_le_bytes-halves.result c.told-group c.fits-group c.from_le_bytes-halves.ensures h)
