-- What a packet says by its fields, and the lines of a content listing that say it.
use Rattle.std.specs.Prelude.{◌≡◌, ℕ, ◌+◌, ◌<◌, ◌≤◌, true, List, [], ◌∷◌, ◌++◌, map, length, take, All, None, codes, IsTrue}
use Rattle.tmds_word.specs.Column.{Column}
use Rattle.island_pack.specs.Periods.{Period}
use Rattle.island_pack.specs.Taken.{first_lost}
use Rattle.island_pack.specs.declared.packet.Packet.{Packet}
use Rattle.island_pack.specs.declared.packet.PacketVerdicts.{PacketVerdicts}
use Rattle.infoframe.specs.Written.{fits, IsWritten}
use Rattle.infoframe.specs.declared.content.Info.{Info}
use Rattle.infoframe.specs.declared.content.Info.TheVariants.{Avi, Audio, Spd, Raw}
use Rattle.audio_packets.specs.Clock.{IsAcr, acr_packet}
use Rattle.audio_packets.specs.Samples.{IsSample, samples_packet}
use Rattle.audio_packets.specs.declared.clock.Acr.{Acr}
use Rattle.audio_packets.specs.declared.sample.Sample.{Sample}
use Rattle.link_laws.specs.Account.{account}
use Rattle.link_laws.specs.Laws.{ReceivedOf, EndsControl}
use Rattle.source_end.specs.declared.mode.Mode.{Mode}
use Rattle.source_end.specs.Content.{Frame}
use Rattle.source_end.specs.Raster.{raster_of}
use Rattle.source_end.specs.RasterRefusals.{raster_fault}
use Rattle.listing_reader.specs.InfoPackets.{info_packet}
use Rattle.listing_writer.specs.ContentText.{content_lines, packet_lines, avi_words, audio_words, spd_words, raw_words, sample_words}
use Rattle.listing_writer.specs.Fields.{with_fields}
use Rattle.listing_laws.specs.ListingLaws.{as_sent_at}
use Rattle.listing_laws.specs.PacketLaws.{Placed, placed, content_packets, payload_of}

pub data Said : Type 0 where
  -- the fields of an InfoFrame, or the bytes of one of no known layout
  info : Info → Said
  -- N and CTS
  clock : Acr → Said
  -- one to four samples
  samples : List Sample → Said

-- a packet says it, with nothing else set
abbrev pub Says : Said → Packet → Type 0
Says (info x) p = IsTrue (fits x) × IsWritten x p
Says (clock acr) p = IsAcr acr × (p ≡ acr_packet acr p.sync)
Says (samples xs) p = (1 ≤ length xs) × (length xs ≤ 4) × All IsSample xs × (p ≡ samples_packet xs p.sync)

-- the line of an InfoFrame
abbrev pub info_line : Info → List ℕ
info_line (Avi x) = avi_words x
info_line (Audio x) = audio_words x
info_line (Spd x) = spd_words x
info_line (Raw kind version length bytes) = raw_words kind version (take length bytes)

-- the lines that say it: `avi ..`, `audio ..`, `spd ..` or `info ..`; `acr N CTS`; a line `s ..` for each sample
abbrev pub lines_saying : Said → List (List ℕ)
lines_saying (info x) = info_line x ∷ []
lines_saying (clock acr) = with_fields (codes "acr") (acr.n ∷ acr.cts ∷ []) ∷ []
lines_saying (samples xs) = map sample_words xs

-- one of a list
abbrev pub IsAmong : {A : Type 0} → List A → A → Type 0
IsAmong {A} xs x = (before : List A) × (after : List A) × (xs ≡ before ++ (x ∷ after))

-- each of these is one of a list
abbrev pub AreAmong : {A : Type 0} → List A → List A → Type 0
AreAmong xs [] = Unit {0}
AreAmong xs (y ∷ ys) = IsAmong xs y × AreAmong xs ys

-- a packet that says fields, and of which no block is lost, has the lines of these fields and no others
abbrev pub SaidLines : Type 0
SaidLines =
    (said : Said) (p : Packet) (verdicts : PacketVerdicts) (column : ℕ) → Says said p → first_lost verdicts ≡ None
    → packet_lines p verdicts column ≡ lines_saying said

-- the lines of fields that a packet of periods says are among those of a content listing of columns a up to e, if the packet was
-- received whole, with at most one damaged word, or few and no fault
abbrev pub AreListed : List Column → List Column → ℕ → ℕ → List (List ℕ) → Placed → Packet → Type 0
AreListed sent received a e lines k p =
    (said : Said) → Says said p → a ≤ k.at → k.at + 32 ≤ e → as_sent_at sent received k ≡ true → AreAmong lines (lines_saying said)

-- so are those of each packet of periods
abbrev pub FieldsAreListed : Type 0
FieldsAreListed =
    (periods : List Period) (sent received : List Column) → ReceivedOf periods sent received
    → (a m : ℕ) → EndsControl periods (a + 11) → a + m ≤ length received
    → (k : Placed) → IsAmong (placed 0 periods) k → AreListed sent received a (a + m) (content_lines (account periods sent received a m)) k k.packet

-- each packet of a content stands at a place in the raster, with its header and its bodies, and there it is so
abbrev pub AreFieldsOf : List Frame → List Period → List Column → List Column → ℕ → ℕ → List (List ℕ) → Type 0
AreFieldsOf frames periods sent received a e lines =
    (p : Packet) → IsAmong (content_packets frames) p
    → (k : Placed) × IsAmong (placed 0 periods) k × (payload_of k.packet ≡ payload_of p) × AreListed sent received a e lines k p

abbrev pub ContentFieldsAreListed : Type 0
ContentFieldsAreListed =
    (mode : Mode) (frames : List Frame) → raster_fault mode frames ≡ None
    → (sent received : List Column) → ReceivedOf (raster_of mode frames) sent received
    → (a m : ℕ) → EndsControl (raster_of mode frames) (a + 11) → a + m ≤ length received
    → AreFieldsOf frames (raster_of mode frames) sent received a (a + m) (content_lines (account (raster_of mode frames) sent received a m))

-- bytes and numbers of two bytes, as many as the fields of an InfoFrame have
abbrev pub IsShaped : Info → Type 0
IsShaped (Avi x) = (length x.bars ≡ 4) × All (λ bar. bar < 65536) x.bars
IsShaped (Audio x) = x.ca < 256
IsShaped (Spd x) = (length x.vendor ≡ 8) × (length x.product ≡ 16) × All (λ b. b < 256) x.vendor × All (λ b. b < 256) x.product × (x.kind < 256)
IsShaped (Raw kind version n bytes) = (kind < 256) × (version < 256) × (length bytes ≡ 27) × All (λ b. b < 256) bytes

-- what a line `avi ..`, `audio ..`, `spd ..` or `info ..` of a content listing gives is a packet that says its fields
abbrev pub ListedIsSaid : Type 0
ListedIsSaid = (x : Info) → IsShaped x → IsTrue (fits x) → Says (info x) (info_packet x)
