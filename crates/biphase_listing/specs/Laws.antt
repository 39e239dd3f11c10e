-- What holds of streams, of what they are refused for, and of the samples of packets.
use Rattle.std.specs.Prelude.{◌≡◌, ℕ, ◌<◌, ◌≤◌, false, List, All, length, map}
use Rattle.bch_block.specs.declared.Verdict.TheVariants.{Lost}
use Rattle.island_pack.specs.Taken.{spotless, verdict_on}
use Rattle.island_pack.specs.declared.packet.Packet.{Packet}
use Rattle.island_pack.specs.declared.packet.PacketVerdicts.{PacketVerdicts}
use Rattle.audio_packets.specs.Samples.{IsSample}
use Rattle.audio_packets.specs.declared.sample.Sample.{Sample}
use Rattle.audio_out.specs.Frames.{biphase, from_start}
use Rattle.period_grammar.specs.Events.{packet}
use Rattle.biphase_listing.specs.Groups.{IsStream, most_frames}
use Rattle.biphase_listing.specs.Refusals.{IsFault, IsRefused}
use Rattle.biphase_listing.specs.StreamText.{samples_at}
use Rattle.biphase_listing.specs.declared.fault.BiphaseFault.{BiphaseFault}

-- nothing is said of flat lines
abbrev pub without_flat : Sample → Sample
without_flat s = record s { flat = false }

-- the stream of samples is one, of those from the first block's start on
abbrev pub StreamIsRead : Type 0
StreamIsRead = (samples : List Sample) → All IsSample samples → length (from_start samples) ≤ most_frames → IsStream (map without_flat (from_start samples)) (biphase samples)

-- bytes are a stream of one list of samples at most
abbrev pub OneStream : Type 0
OneStream = (a b : List Sample) (bytes : List ℕ) → IsStream a bytes → IsStream b bytes → a ≡ b

-- what is a stream has no fault
abbrev pub StreamIsFaultless : Type 0
StreamIsFaultless = (samples : List Sample) (bytes : List ℕ) (fault : BiphaseFault) → IsStream samples bytes → IsFault bytes fault → ⊥

-- bytes are refused for one fault, after the frames of one list of samples
abbrev pub OneRefusal : Type 0
OneRefusal = (bytes : List ℕ) (f g : BiphaseFault) (us vs : List Sample) → IsRefused bytes f us → IsRefused bytes g vs → (f ≡ g) × (us ≡ vs)

-- the samples of a packet that has lost no block are those of its header and its bodies
abbrev pub SamplesOfPayload : Type 0
SamplesOfPayload =
    (pair : ℕ) (p q : Packet) (verdicts : PacketVerdicts) (x y : ℕ) → p.header ≡ q.header → p.bodies ≡ q.bodies
    → ((b : ℕ) → b < 5 → verdict_on verdicts b ≡ Lost → ⊥) → samples_at pair (packet p verdicts x) ≡ samples_at pair (packet q spotless y)
