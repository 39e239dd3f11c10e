use Rattle.audio_out.proofs.Spelled.{one_reading}
use Rattle.audio_out.proofs.laws.one_reading.Goals as goal

pub returns : goal.returns
returns c = one_reading
