use Rattle.link_laws.proofs.Local.{video_anywhere}
use Rattle.link_laws.proofs.link.video_anywhere.Goals as goal

pub returns : goal.returns
returns c = video_anywhere
