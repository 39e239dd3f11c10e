use Rattle.track_sink.specs.Staying.{end_stays}
use Rattle.track_laws.proofs.end_stays.Goals as goal

pub returns : goal.returns
returns c = end_stays
