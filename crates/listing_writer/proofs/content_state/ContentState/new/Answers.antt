use Rattle.std.proofs.Common.{refl}
use Rattle.listing_writer.specs.ContentText.{last_vic, last_avi}
use Rattle.listing_writer.proofs.content_state.ContentState.new.Goals as goal

pub returns : goal.returns
unfolding last_vic last_avi
returns c = record { frames = c.new.ensures; vic = refl }
