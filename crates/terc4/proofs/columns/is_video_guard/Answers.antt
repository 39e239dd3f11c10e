use Rattle.terc4.proofs.Counts.{video_counted}
use Rattle.terc4.proofs.columns.is_video_guard.Goals as goal

pub returns : goal.returns
returns c = video_counted _ _ c.video_guard_words.ensures.count
