use Rattle.std.proofs.Common.{refl}
use Rattle.infoframe.specs.Written.{fits}
use Rattle.infoframe.specs.Fields.{audio_fits, audio_table}
use Rattle.source_end.proofs.generator.audio_packet.Goals as goal

pub write-requires : goal.write-requires
unfolding fits audio_fits audio_table
write-requires c = refl
