-- Packets of periods received with sparse damage: which are reported, and with which bytes.
use Rattle.std.specs.Prelude.{◌≡◌, ℕ, ◌+◌, ◌-◌, ◌<◌, ◌≤◌, Bool, true, ◌&&◌, cond, List, [], ◌∷◌, ◌++◌, map, length, take, drop, nat_le, None}
use Rattle.tmds_word.specs.Column.{Column}
use Rattle.bch_block.specs.declared.Verdict.TheVariants.{Lost}
use Rattle.island_pack.specs.Periods.{Period, control, video, island, period_columns}
use Rattle.island_pack.specs.Spelling.{column_words}
use Rattle.island_pack.specs.Packets.{Carries}
use Rattle.island_pack.specs.Taken.{verdict_on}
use Rattle.island_pack.specs.declared.packet.Packet.{Packet}
use Rattle.island_pack.specs.declared.packet.PacketVerdicts.{PacketVerdicts}
use Rattle.period_grammar.specs.Events.{Event, packet}
use Rattle.island_pack.specs.Repaired.{verdicts_of}
use Rattle.link_laws.specs.Account.{is_as_sent, packet_row, account}
use Rattle.link_laws.specs.Laws.{ReceivedOf, EndsControl}
use Rattle.source_end.specs.declared.mode.Mode.{Mode}
use Rattle.source_end.specs.Content.{Frame}
use Rattle.source_end.specs.Raster.{raster_of}
use Rattle.source_end.specs.RasterRefusals.{raster_fault}

-- a packet, and the first of its 32 columns
pub record Placed : Type 0 where
  pub packet : Packet
  pub at : ℕ

unfoldable pub each_at : ℕ → List Packet → List Placed
each_at x [] = []
each_at x (p ∷ ps) = record { packet = p; at = x } ∷ each_at (x + 32) ps

-- the packets of periods, the first of which begins at column x
unfoldable pub placed : ℕ → List Period → List Placed
placed x [] = []
placed x (control runs ∷ periods) = placed (x + period_columns (control runs)) periods
placed x (video bytes ∷ periods) = placed (x + period_columns (video bytes)) periods
placed x (island i ∷ periods) = each_at (x + 2) i.packets ++ placed (x + period_columns (island i)) periods

-- a packet as it is reported
pub record ReportedPacket : Type 0 where
  pub packet : Packet
  pub verdicts : PacketVerdicts
  pub column : ℕ

abbrev pub reported_packet : Event → List ReportedPacket
reported_packet (packet p verdicts column) = record { packet = p; verdicts = verdicts; column = column } ∷ []
reported_packet _ = []

unfoldable pub reported_packets : List Event → List ReportedPacket
reported_packets [] = []
reported_packets (event ∷ events) = reported_packet event ++ reported_packets events

abbrev pub received_packet : List Column → List Column → ℕ → Placed → ReportedPacket
received_packet sent received a k = record {
  packet = packet_row k.packet (take 32 (drop k.at sent)) (take 32 (drop k.at received));
  verdicts = verdicts_of (take 32 (drop k.at received));
  column = k.at - a;
}

-- of placed packets those that were received whole, in columns a up to e
unfoldable pub packets_received : List Column → List Column → ℕ → ℕ → List Placed → List ReportedPacket
packets_received sent received a e [] = []
packets_received sent received a e (k ∷ ks) =
    cond (nat_le a k.at && nat_le (k.at + 32) e) (received_packet sent received a k ∷ []) [] ++ packets_received sent received a e ks

-- the packets that are reported are those that were received whole, in order
abbrev pub PacketsComeBack : Type 0
PacketsComeBack =
    (periods : List Period) (sent received : List Column) → ReceivedOf periods sent received
    → (a m : ℕ) → EndsControl periods (a + 11) → a + m ≤ length received
    → reported_packets (account periods sent received a m) ≡ packets_received sent received a (a + m) (placed 0 periods)

-- a packet reported as it was sent, but for its sync values: no block of it is lost, so its content lines are those of
-- the packet
pub record IsAsSent (p : Packet) (reported : Packet) (verdicts : PacketVerdicts) : Type 0 where
  pub header : reported.header ≡ p.header
  pub bodies : reported.bodies ≡ p.bodies
  pub kept : (b : ℕ) → b < 5 → verdict_on verdicts b ≡ Lost → ⊥

-- so is each of which at most one word was received unlike, or few were and no fault is found
abbrev pub OnePacketAsSent : Type 0
OnePacketAsSent =
    (p : Packet) (first : Bool) (sent received : List Column) → Carries p first (map column_words sent) → length received ≡ 32
    → is_as_sent sent received ≡ true → IsAsSent p (packet_row p sent received) (verdicts_of received)

-- header and bodies, which a raster does not change
pub record Payload : Type 0 where
  pub header : List ℕ
  pub bodies : List ℕ

abbrev pub payload_of : Packet → Payload
payload_of p = record { header = p.header; bodies = p.bodies }

unfoldable pub content_packets : List Frame → List Packet
content_packets [] = []
content_packets (f ∷ frames) = f.packets ++ content_packets frames

-- the packets of a raster are those of the content, in order
abbrev pub RasterPackets : Type 0
RasterPackets =
    (mode : Mode) (frames : List Frame) → raster_fault mode frames ≡ None
    → map (λ k. payload_of k.packet) (placed 0 (raster_of mode frames)) ≡ map payload_of (content_packets frames)
