-- Which rows, frames and packets `recover content` lists of the capture of a tap of a raster's columns, received with
-- sparse damage.
use Rattle.std.specs.Prelude.{◌≡◌, ◌+◌, ◌-◌, ℕ, true, List, ◌++◌, map, length, codes, Option, None}
use Rattle.std.specs.List.{filter, flat_map}
use Rattle.std.specs.Io.KnownBytes.{Appends}
use Rattle.island_pack.specs.Taken.{spotless}
use Rattle.link_laws.specs.Account.{account}
use Rattle.link_laws.specs.Laws.{IsAccounted, BeginColumn}
use Rattle.source_end.specs.declared.mode.Mode.{Mode}
use Rattle.source_end.specs.Content.{Frame}
use Rattle.source_end.specs.Raster.{raster_of}
use Rattle.source_end.specs.RasterRefusals.{raster_fault}
use Rattle.listing_writer.specs.ContentText.{content_lines, packet_lines, text_of}
use Rattle.listing_laws.specs.FrameLaws.{frames_received}
use Rattle.listing_laws.specs.ListingLaws.{Each, line_of, tells_packet, tells_picture, reported_lines, as_sent_at}
use Rattle.listing_laws.specs.PacketLaws.{content_packets, payload_of, received_packet, packets_received, placed, reported_packets}
use Rattle.hdmi_cli.specs.Headline.{TappedStream, aligned_of}

-- the output grew by the content listing of the account of the columns that are aligned at three edges, which begin with
-- column a, twelve before the end of a control period; of its lines those of rows and frames, and of rows of another length
-- than the first of their frame, are the rows and frames of the raster that was received
pub record ArePictures (mode : Mode) (frames : List Frame) (t : TappedStream) (d e f a : ℕ) (old new : Option (List ℕ)) : Type 0 where
  pub accounted : IsAccounted t.periods t.sent t.received (aligned_of t d e f) a
  pub begins : BeginColumn t.offset t.skews (a + 12) d e f
  pub written : Appends old new (text_of (content_lines (account t.periods t.sent t.received a (length (aligned_of t d e f)))) ++ codes "end\n")
  pub pictures :
      filter tells_picture (content_lines (account t.periods t.sent t.received a (length (aligned_of t d e f))))
      ≡ map line_of (frames_received mode t.sent t.received a (a + length (aligned_of t d e f)) 0 frames)

-- the output grew by that listing; of its lines those of packets are the lines of the packets that were received whole, in
-- order; each of which at most one word was received unlike, or few were and no fault is found, has the lines of the packet as
-- it was sent. The packets that were sent of a raster are those of its content
pub record ArePackets (t : TappedStream) (d e f a : ℕ) (old new : Option (List ℕ)) : Type 0 where
  pub accounted : IsAccounted t.periods t.sent t.received (aligned_of t d e f) a
  pub begins : BeginColumn t.offset t.skews (a + 12) d e f
  pub written : Appends old new (text_of (content_lines (account t.periods t.sent t.received a (length (aligned_of t d e f)))) ++ codes "end\n")
  pub listed :
      filter tells_packet (content_lines (account t.periods t.sent t.received a (length (aligned_of t d e f))))
      ≡ flat_map reported_lines (packets_received t.sent t.received a (a + length (aligned_of t d e f)) (placed 0 t.periods))
  pub packets :
      reported_packets (account t.periods t.sent t.received a (length (aligned_of t d e f)))
      ≡ packets_received t.sent t.received a (a + length (aligned_of t d e f)) (placed 0 t.periods)
  pub lines : Each (λ k. as_sent_at t.sent t.received k ≡ true → reported_lines (received_packet t.sent t.received a k) ≡ packet_lines k.packet spotless (k.at - a)) (placed 0 t.periods)
  pub content :
      (mode : Mode) (frames : List Frame) → raster_fault mode frames ≡ None → t.periods ≡ raster_of mode frames
      → map (λ k. payload_of k.packet) (placed 0 t.periods) ≡ map payload_of (content_packets frames)
