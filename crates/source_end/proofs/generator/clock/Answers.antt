use Rattle.std.proofs.Common.{List, ℕ, ap, ◌∙◌}
use Rattle.audio_packets.specs.Clock.{acr_packet}
use Rattle.source_end.specs.Generator.{clock_packet}
use Rattle.source_end.proofs.generator.clock.Goals as goal

pub returns : goal.returns
unfolding clock_packet
returns c = c.write_acr.ensures ∙ ap (λ (sync : List ℕ). acr_packet (record { n = 6144; cts = 25200 }) sync) c.zeros-packet.ensures
