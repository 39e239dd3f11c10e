use Rattle.audio_packets.proofs.WrittenClock.{written_acr_is_read}
use Rattle.audio_packets.proofs.laws.written_acr_is_read.Goals as goal

pub returns : goal.returns
returns c = written_acr_is_read
