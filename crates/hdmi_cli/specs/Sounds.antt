-- Which samples `recover biphase K` writes of the capture of a tap of columns that conforming periods spell, received
-- with sparse damage.
use Rattle.std.specs.Prelude.{◌≡◌, ◌+◌, ℕ, true, List, flat_map, length, Option}
use Rattle.std.specs.Io.KnownBytes.{Appends}
use Rattle.audio_packets.specs.declared.sample.Sample.{Sample}
use Rattle.audio_out.specs.Frames.{biphase}
use Rattle.island_pack.specs.Taken.{spotless}
use Rattle.period_grammar.specs.Events.{packet}
use Rattle.link_laws.specs.Account.{account}
use Rattle.link_laws.specs.Laws.{IsAccounted, BeginColumn}
use Rattle.listing_laws.specs.ListingLaws.{Each, as_sent_at}
use Rattle.listing_laws.specs.PacketLaws.{Placed, ReportedPacket, received_packet, packets_received, placed}
use Rattle.biphase_listing.specs.StreamText.{biphase_faults, samples_at}
use Rattle.hdmi_cli.specs.Headline.{TappedStream, aligned_of}
use Rattle.capture_commands.specs.Outcome.{status_with}

-- the samples of a pair of channels that a packet gives as it is reported: none if it is of another type than 2 or has
-- lost a block
abbrev pub samples_reported : ℕ → ReportedPacket → List Sample
samples_reported pair reported = samples_at pair (packet reported.packet reported.verdicts reported.column)

-- those that it gives as it was sent
abbrev pub samples_sent : ℕ → Placed → List Sample
samples_sent pair k = samples_at pair (packet k.packet spotless k.at)

-- the output grew by the biphase stream of the samples of the packets that were received whole among the columns that
-- are aligned at three edges, which begin with column a, twelve before the end of a control period; each packet of
-- which at most one word was received unlike, or few were and no fault is found, gives the samples that it was sent with; and
-- the status says whether a packet of samples has lost a block
pub record AreSamples (pair : ℕ) (t : TappedStream) (d e f a status : ℕ) (old new : Option (List ℕ)) : Type 0 where
  pub accounted : IsAccounted t.periods t.sent t.received (aligned_of t d e f) a
  pub begins : BeginColumn t.offset t.skews (a + 12) d e f
  pub status_is : status ≡ status_with (biphase_faults (account t.periods t.sent t.received a (length (aligned_of t d e f))))
  pub written : Appends old new (biphase (flat_map (samples_reported pair) (packets_received t.sent t.received a (a + length (aligned_of t d e f)) (placed 0 t.periods))))
  pub samples : Each (λ k. as_sent_at t.sent t.received k ≡ true → samples_reported pair (received_packet t.sent t.received a k) ≡ samples_sent pair k) (placed 0 t.periods)
