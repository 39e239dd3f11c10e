use Rattle.track_sink.specs.StrayRule.{stray_is_rule}
use Rattle.track_sink.proofs.Reaching.{some_track}
use Rattle.track_laws.proofs.some_track.Goals as goal

pub returns : goal.returns
returns c = λ begun z fed. some_track stray_is_rule begun z fed
