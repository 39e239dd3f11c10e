use Rattle.audio_packets.proofs.Notes.{read_samples_fit}
use Rattle.audio_packets.proofs.laws.read_samples_fit.Goals as goal

pub returns : goal.returns
returns c = read_samples_fit
