use Rattle.audio_out.proofs.Spelled.{one_spelling}
use Rattle.audio_out.proofs.laws.one_spelling.Goals as goal

pub returns : goal.returns
returns c = one_spelling
