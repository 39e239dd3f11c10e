-- The rows and frames that `recover content` and `recover content relock` list of a raster, and the packets that they list of any
-- stream, are those that were received.
use Rattle.std.proofs.Common.{◌≡◌, ◌≤◌, ℕ, ◌+◌, List, length, map, ap, ◌∙◌, arith}
use Rattle.std.specs.Prelude.{Option, Some, None}
use Rattle.std.specs.List.{flat_map}
use Rattle.std.proofs.lemmas.Bool.{cases_lt}
use Rattle.std.proofs.lemmas.List.{get_or_past, length-take, length-drop}
use Rattle.tmds_word.specs.Column.{Column}
use Rattle.island_pack.specs.Periods.{Period}
use Rattle.link_laws.specs.Laws.{ReceivedOf, IsAccounted}
use Rattle.link_laws.proofs.Spelled.{fitting}
use Rattle.link_laws.proofs.Lanes.{fitting_length}
use Rattle.source_end.specs.declared.mode.Mode.{Mode}
use Rattle.source_end.specs.Content.{Frame}
use Rattle.source_end.specs.Raster.{raster_of}
use Rattle.source_end.specs.RasterRefusals.{raster_fault}
use Rattle.listing_writer.specs.ContentText.{content_text}
use Rattle.listing_laws.proofs.PictureLines.{frame_lines_come_back}
use Rattle.listing_laws.specs.ListingLaws.{reported_lines}
use Rattle.listing_laws.specs.PacketLaws.{content_packets, payload_of, placed}
use Rattle.listing_laws.proofs.Contents.{raster_packets}
use Rattle.listing_laws.proofs.PacketLines.{packet_lines_come_back}
use Rattle.listing_laws.proofs.PacketsListed.{packet_lines_are_listed}
use Rattle.listing_laws.proofs.Reported.{packets_come_back}
use Rattle.command_line.specs.declared.command.Command.{Command}
use Rattle.capture_commands.specs.Listings.{content_listing}
use Rattle.command_line.specs.Commands.{IsCommand}
use Rattle.link_laws.specs.Account.{account}
use Rattle.hdmi_cli.specs.Headline.{TappedStream, IsTapped, IsRecovered, Aligns, FromFirst, aligned_of}
use Rattle.hdmi_cli.specs.Pictures.{ArePackets, ArePictures}
use Rattle.capture_commands.specs.Endings.{Devices, RunEnds, Unless, status_of}
use Rattle.capture_commands.specs.Outcome.{Does, ListsCapture, RunOutcome}
use Rattle.link_sink.specs.Grammar.{link_grammar}
use Rattle.capture_commands.specs.declared.ending.Ending.{Ending}
use Rattle.hdmi_cli.proofs.Headline.{recovered, unless_so}

-- aligned columns are some of those that were received
pub within_received : (ps : List Period) (sent received aligned : List Column) (a : ℕ) → ReceivedOf ps sent received → IsAccounted ps sent received aligned a → a + length aligned ≤ length received
within_received ps sent received aligned a reception accounted = grind (arith, fitting_length, fitting, length-take, length-drop, cases_lt, get_or_past)

-- what is recovered of a raster lists its rows and frames that were received
pub pictures_are : (mode : Mode) (frames : List Frame) → raster_fault mode frames ≡ None → (t : TappedStream) → t.periods ≡ raster_of mode frames
    → (d e f a status : ℕ) (old new : Option (List ℕ)) → ReceivedOf t.periods t.sent t.received → IsRecovered content_listing t d e f a status old new
    → ArePictures mode frames t d e f a old new
unfolding content_text
pictures_are mode frames none t is d e f a status old new reception h = grind (arith, frame_lines_come_back, within_received)

pub pictured : (Known : TappedStream → Type 0) → ((t : TappedStream) → Known t → Aligns t) → (this : Command)
    → ((t : TappedStream) → IsTapped t → Known t → (o : RunOutcome) → Does this t.bytes o → ListsCapture link_grammar content_listing t.bytes o)
    → (words : List (List ℕ)) (ending : Ending) (before after : Devices) (status : ℕ) → RunEnds words ending before after → status ≡ status_of ending → IsCommand words this
    → (mode : Mode) (frames : List Frame) → raster_fault mode frames ≡ None → (t : TappedStream) → t.periods ≡ raster_of mode frames → IsTapped t → Known t → before.left ≡ Some t.bytes
    → Unless (λ s old new. FromFirst t (λ d e f a. ArePictures mode frames t d e f a old new)) status before after
pictured Known aligns this lists words ending before after status ends is named mode frames none t raster tapped known left =
    unless_so
    (λ s old new. FromFirst t (λ d e f a. IsRecovered content_listing t d e f a s old new))
    (λ s old new. FromFirst t (λ d e f a. ArePictures mode frames t d e f a old new))
    status before after
    (λ h. (h.0, h.1, h.2, h.3, (h.4.0, h.4.1, pictures_are mode frames none t raster h.0 h.1 h.2 h.4.0 status before.held after.held tapped.reception h.4.2)))
    (recovered Known aligns content_listing this lists words ending before after status ends is named t tapped known left)

-- the packets of a raster are those of its content
packets_of_content : (t : TappedStream) (mode : Mode) (frames : List Frame) → raster_fault mode frames ≡ None → t.periods ≡ raster_of mode frames
    → map (λ k. payload_of k.packet) (placed 0 t.periods) ≡ map payload_of (content_packets frames)
packets_of_content t mode frames none is = ap (λ (periods : List Period). map (λ k. payload_of k.packet) (placed 0 periods)) is ∙ raster_packets mode frames none

-- what is recovered lists the received packets
packets_are : (t : TappedStream) (d e f a status : ℕ) (old new : Option (List ℕ)) → ReceivedOf t.periods t.sent t.received → IsRecovered content_listing t d e f a status old new → ArePackets t d e f a old new
unfolding content_text
packets_are t d e f a status old new reception h =
    let aligned = aligned_of t d e f in
    let back = packets_come_back t.periods t.sent t.received reception a (length aligned) h.accounted.ends (within_received t.periods t.sent t.received aligned a reception h.accounted) in
    record {
      accounted = h.accounted;
      begins = h.begins;
      written = h.written;
      listed = packet_lines_are_listed (account t.periods t.sent t.received a (length aligned)) ∙ ap (flat_map reported_lines) back;
      packets = back;
      lines = packet_lines_come_back t.periods t.sent t.received reception a;
      content = packets_of_content t;
    }

pub packeted : (Known : TappedStream → Type 0) → ((t : TappedStream) → Known t → Aligns t) → (this : Command)
    → ((t : TappedStream) → IsTapped t → Known t → (o : RunOutcome) → Does this t.bytes o → ListsCapture link_grammar content_listing t.bytes o)
    → (words : List (List ℕ)) (ending : Ending) (before after : Devices) (status : ℕ) → RunEnds words ending before after → status ≡ status_of ending → IsCommand words this
    → (t : TappedStream) → IsTapped t → Known t → before.left ≡ Some t.bytes
    → Unless (λ s old new. FromFirst t (λ d e f a. ArePackets t d e f a old new)) status before after
packeted Known aligns this lists words ending before after status ends is named t tapped known left =
    unless_so
    (λ s old new. FromFirst t (λ d e f a. IsRecovered content_listing t d e f a s old new))
    (λ s old new. FromFirst t (λ d e f a. ArePackets t d e f a old new))
    status before after
    (λ h. (h.0, h.1, h.2, h.3, (h.4.0, h.4.1, packets_are t h.0 h.1 h.2 h.4.0 status before.held after.held tapped.reception h.4.2)))
    (recovered Known aligns content_listing this lists words ending before after status ends is named t tapped known left)
