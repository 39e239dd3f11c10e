-- What is answered in place of what a packet carries of which a block is lost.
use Rattle.std.specs.Prelude.{ℕ, Option, Some, None, Result, Err}
use Rattle.audio_packets.specs.declared.fault.AudioFault.{AudioFault}
use Rattle.audio_packets.specs.declared.fault.AudioFault.TheVariants.{Lost as lost_at}

-- an answer, or the block that is lost in its place
abbrev pub unless_lost : {T : Type 0} → Option ℕ → Result T AudioFault → Result T AudioFault
unless_lost None answer = answer
unless_lost (Some block) answer = Err (lost_at block)
