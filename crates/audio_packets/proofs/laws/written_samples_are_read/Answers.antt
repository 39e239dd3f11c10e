use Rattle.audio_packets.proofs.WrittenSamples.{written_samples_are_read}
use Rattle.audio_packets.proofs.laws.written_samples_are_read.Goals as goal

pub returns : goal.returns
returns c = written_samples_are_read
