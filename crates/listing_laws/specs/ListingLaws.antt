-- Which lines of a content listing give rows and frames and which give packets, and what is listed of a packet of which at
-- most one word was received unlike, or few were and no fault is found.
use Rattle.std.specs.Prelude.{◌≡◌, ℕ, ◌+◌, ◌-◌, ◌≤◌, Bool, true, false, ◌&&◌, ◌||◌, ◌==◌, List, [], ◌∷◌, ◌++◌, map, length, take, drop, None, codes}
use Rattle.std.specs.List.{filter, flat_map}
use Rattle.hex.specs.Hex.{encode_lower}
use Rattle.tmds_word.specs.Column.{Column}
use Rattle.island_pack.specs.Periods.{Period}
use Rattle.island_pack.specs.Spelling.{column_words}
use Rattle.island_pack.specs.Packets.{Carries}
use Rattle.island_pack.specs.Taken.{spotless}
use Rattle.island_pack.specs.declared.packet.Packet.{Packet}
use Rattle.island_pack.specs.declared.packet.PacketVerdicts.{PacketVerdicts}
use Rattle.island_pack.specs.Repaired.{verdicts_of}
use Rattle.period_grammar.specs.Events.{Event}
use Rattle.period_grammar.specs.Heard.{heard}
use Rattle.link_laws.specs.Account.{is_as_sent, packet_row}
use Rattle.link_laws.specs.Laws.{ReceivedOf, EndsControl}
use Rattle.source_end.specs.declared.mode.Mode.{Mode}
use Rattle.source_end.specs.Content.{Frame}
use Rattle.source_end.specs.Raster.{raster_of}
use Rattle.source_end.specs.RasterRefusals.{raster_fault}
use Rattle.listing_writer.specs.Fields.{with_fields, begins_with}
use Rattle.listing_writer.specs.ContentText.{packet_lines, content_lines}
use Rattle.listing_writer.specs.Listed.{Listed, row, frame}
use Rattle.listing_laws.specs.FrameLaws.{frames_received}
use Rattle.listing_laws.specs.PacketLaws.{IsAsSent, Placed, placed, ReportedPacket, received_packet, reported_packets}

-- a line `row ..`, `frame ..` or `! ragged ..`
abbrev pub tells_picture : List ℕ → Bool
tells_picture line = begins_with (codes "row ") line || (begins_with (codes "frame ") line || begins_with (codes "! ragged ") line)

abbrev pub line_of : Listed → List ℕ
line_of (row bytes note) = codes "row " ++ encode_lower bytes
line_of (frame note) = with_fields (codes "frame") (note.width ∷ note.height ∷ [])

-- the lines `row ..`, `frame ..` and `! ragged ..` of a content listing of columns a up to a + m of a raster are the rows and
-- frames that were received: no row has another length than the first of its frame
abbrev pub FrameLinesComeBack : Type 0
FrameLinesComeBack =
    (mode : Mode) (frames : List Frame) → raster_fault mode frames ≡ None
    → (sent received : List Column) → ReceivedOf (raster_of mode frames) sent received
    → (a m : ℕ) → EndsControl (raster_of mode frames) (a + 11) → a + m ≤ length received
    → filter tells_picture (content_lines (heard (take m (drop a received)))) ≡ map line_of (frames_received mode sent received a (a + m) 0 frames)

-- the content lines of a packet are those of its header and its bodies
abbrev pub LinesOfPayload : Type 0
LinesOfPayload =
    (p q : Packet) (verdicts : PacketVerdicts) (column : ℕ) → p.header ≡ q.header → p.bodies ≡ q.bodies → packet_lines p verdicts column ≡ packet_lines q verdicts column

-- the content lines of such a packet are those of the packet as it was sent
abbrev pub PacketLinesAsSent : Type 0
PacketLinesAsSent =
    (p : Packet) (first : Bool) (sent received : List Column) → Carries p first (map column_words sent) → length received ≡ 32
    → is_as_sent sent received ≡ true → (column : ℕ) → packet_lines (packet_row p sent received) (verdicts_of received) column ≡ packet_lines p spotless column

-- each of these packets
abbrev pub Each : (Placed → Type 0) → List Placed → Type 0
Each P [] = Unit {0}
Each P (k ∷ ks) = P k × Each P ks

-- whether a packet of periods is as sent in the account: at most one of its words was received unlike, or few were and no
-- fault is found
abbrev pub as_sent_at : List Column → List Column → Placed → Bool
as_sent_at sent received k = is_as_sent (take 32 (drop k.at sent)) (take 32 (drop k.at received))

-- the content lines of a reported packet
abbrev pub reported_lines : ReportedPacket → List (List ℕ)
reported_lines reported = packet_lines reported.packet reported.verdicts reported.column

-- a line of what a packet carries, or of a fault in it
abbrev pub tells_packet : List ℕ → Bool
tells_packet line =
    begins_with (codes "acr ") line || (begins_with (codes "s ") line || (begins_with (codes "gcp ") line || (begins_with (codes "avi ") line
    || (begins_with (codes "audio ") line || (begins_with (codes "spd ") line || (begins_with (codes "info ") line || (begins_with (codes "packet ") line
    || (begins_with (codes "! uneven ") line || (begins_with (codes "! parity ") line || (begins_with (codes "! layout ") line
    || (begins_with (codes "! depth ") line || (begins_with (codes "! length ") line || begins_with (codes "! checksum ") line))))))))))))

-- of whatever is reported, these lines of a content listing are those of the reported packets, in order
abbrev pub PacketLinesAreListed : Type 0
PacketLinesAreListed = (events : List Event) → filter tells_packet (content_lines events) ≡ flat_map reported_lines (reported_packets events)

-- so are those of each packet of periods, as it is reported in columns from column a on
abbrev pub PacketLinesComeBack : Type 0
PacketLinesComeBack =
    (periods : List Period) (sent received : List Column) → ReceivedOf periods sent received → (a : ℕ)
    → Each (λ k. as_sent_at sent received k ≡ true → reported_lines (received_packet sent received a k) ≡ packet_lines k.packet spotless (k.at - a)) (placed 0 periods)

-- each such packet of periods is reported with its header and bodies, and none of its blocks is lost
abbrev pub PacketsAsSent : Type 0
PacketsAsSent =
    (periods : List Period) (sent received : List Column) → ReceivedOf periods sent received → (a : ℕ)
    → Each (λ k. as_sent_at sent received k ≡ true → IsAsSent k.packet (received_packet sent received a k).packet (received_packet sent received a k).verdicts) (placed 0 periods)
