use Rattle.std.proofs.Common.{refl}
use Rattle.audio_out.specs.Blocks.{open_run, last_run}
use Rattle.audio_out.proofs.blocks.Blocks.new.Goals as goal

pub returns : goal.returns
unfolding open_run last_run
returns c = record { left = refl; right = refl }
