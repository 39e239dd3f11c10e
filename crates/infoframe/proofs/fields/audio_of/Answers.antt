use Rattle.std.proofs.Common.{arith}
use Rattle.infoframe.specs.Fields.{audio_of, audio_table}
use Rattle.infoframe.proofs.Numbers.{field_in_byte, field_whole}
use Rattle.infoframe.proofs.fields.audio_of.Goals as goal

pub returns : goal.returns
unfolding audio_of audio_table
returns c = grind (arith, field_in_byte, field_whole)
