use Rattle.std.proofs.Common.{refl}
use Rattle.infoframe.specs.Written.{fits}
use Rattle.infoframe.specs.Fields.{avi_fits, avi_table}
use Rattle.source_end.proofs.generator.avi_packet.Goals as goal

pub write-requires : goal.write-requires
unfolding fits avi_fits avi_table
write-requires c = refl
