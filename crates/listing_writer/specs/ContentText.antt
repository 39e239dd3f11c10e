-- The text of a content listing: rows, frames, what packets carry, and what is wrong (docs/guide/FORMATS.md). `reported` is all that
-- was reported before an event, the oldest first.
use Rattle.std.specs.Prelude.{ℕ, ◌/◌, ◌%◌, ◌==◌, Bool, true, false, not, ◌&&◌, ◌||◌, if◌then◌else◌, List, [], ◌∷◌, ◌++◌, map, reverse, length, flat_map, filter_map, count_by, slice_index, nat_le, Option, Some, None, option_map, is_some, Result, Ok, Err, codes}
use Rattle.hex.specs.Hex.{encode_lower}
use Rattle.island_pack.specs.Packets.{body_of}
use Rattle.island_pack.specs.declared.packet.Packet.{Packet}
use Rattle.island_pack.specs.declared.packet.PacketVerdicts.{PacketVerdicts}
use Rattle.infoframe.specs.Fields.{avi_of, audio_of, spd_of}
use Rattle.island_pack.specs.Taken.{first_lost}
use Rattle.infoframe.specs.Frames.{Frame, frame_of, kind_of, avi_in}
use Rattle.infoframe.specs.declared.content.Avi.{Avi}
use Rattle.infoframe.specs.declared.content.AudioInfo.{AudioInfo}
use Rattle.infoframe.specs.declared.content.Spd.{Spd}
use Rattle.infoframe.specs.declared.content.InfoKind.{InfoKind}
use Rattle.infoframe.specs.declared.content.InfoKind.TheVariants.{Avi as AviKind, Audio as AudioKind, Spd as SpdKind, Raw as RawKind}
use Rattle.infoframe.specs.declared.content.InfoFault.{InfoFault}
use Rattle.infoframe.specs.declared.content.InfoFault.TheVariants.{Lost as LostInfo, Length, Checksum}
use Rattle.audio_packets.specs.Clock.{acr_of}
use Rattle.audio_packets.specs.Samples.{samples_of}
use Rattle.audio_packets.specs.declared.clock.Acr.{Acr}
use Rattle.audio_packets.specs.declared.sample.Sample.{Sample}
use Rattle.audio_packets.specs.declared.sample.SampleNote.{SampleNote}
use Rattle.audio_packets.specs.declared.fault.AudioFault.{AudioFault}
use Rattle.audio_packets.specs.declared.fault.AudioFault.TheVariants.{Lost as LostAudio, Uneven, Layout}
use Rattle.frame_build.specs.FrameEvent.{FrameEvent, run as run_frame_event, line as line_frame_event, word_fault, other}
use Rattle.frame_build.specs.Group.{frame_at, line_at}
use Rattle.frame_build.specs.declared.FrameNote.{FrameNote}
use Rattle.frame_build.specs.declared.LineNote.{LineNote}
use Rattle.source_end.specs.Formats.{formats, mode_in}
use Rattle.source_end.specs.Raster.{active}
use Rattle.source_end.specs.declared.mode.Mode.{Mode}
use Rattle.period_grammar.specs.Events.{Event, run, line, word, open_island, packet, close_island}
use Rattle.listing_writer.specs.Texts.{line_words}
use Rattle.listing_writer.specs.Fields.{with_fields}

-- lines without their line feeds, each with one after it
unfoldable pub text_of : List (List ℕ) → List ℕ
text_of lines = flat_map (λ line. line ++ codes "\n") lines

-- a fault line begins with an exclamation mark
abbrev pub is_fault_line : List ℕ → Bool
is_fault_line [] = false
is_fault_line (first ∷ later) = first == 33

unfoldable pub fault_line_count : List (List ℕ) → ℕ
fault_line_count lines = count_by is_fault_line lines

-- a row of a group that counts; where it is not as wide as the group's first, its number follows
unfoldable pub row_lines : List ℕ → LineNote → List (List ℕ)
row_lines pixels note =
    if note.counts
    then (codes "row " ++ encode_lower pixels) ∷ (if note.ragged then with_fields (codes "! ragged") (note.row ∷ []) ∷ [] else [])
    else []

-- whether a mode is known, and has other active numbers than the frame
unfoldable pub has_other_size : Option Mode → FrameNote → Bool
has_other_size None frame = false
has_other_size (Some mode) frame = not ((active mode.across == frame.width) && (active mode.down == frame.height))

unfoldable pub vic_lines : Option ℕ → FrameNote → List (List ℕ)
vic_lines None frame = []
vic_lines (Some vic) frame = if has_other_size (mode_in formats vic) frame then with_fields (codes "! vic") (vic ∷ []) ∷ [] else []

-- a frame, judged by a video identification code
unfoldable pub frame_lines : Option ℕ → Option FrameNote → List (List ℕ)
frame_lines vic None = []
frame_lines vic (Some frame) = with_fields (codes "frame") (frame.width ∷ frame.height ∷ []) ∷ vic_lines vic frame

-- N and CTS, or that the four bodies are not alike
unfoldable pub clock_lines : ℕ → Result Acr AudioFault → List (List ℕ)
clock_lines column (Ok acr) = with_fields (codes "acr") (acr.n ∷ acr.cts ∷ []) ∷ []
clock_lines column (Err Uneven) = with_fields (codes "! uneven") (column ∷ []) ∷ []
clock_lines column (Err Layout) = []
clock_lines column (Err (LostAudio block)) = []

-- the six digits of a value of 24 bits
unfoldable pub value_digits : ℕ → List ℕ
value_digits value = encode_lower (value / 65536 % 256 ∷ value / 256 % 256 ∷ value % 256 ∷ [])

abbrev pub digit_of : Bool → ℕ
digit_of true = 1
digit_of false = 0

unfoldable pub sample_words : Sample → List ℕ
sample_words s =
    with_fields (codes "s " ++ value_digits s.left ++ codes " " ++ value_digits s.right)
    (s.left_flags ∷ s.right_flags ∷ digit_of s.start ∷ digit_of s.flat ∷ [])

-- a side that has an odd number of ones: the packet's column, the body, `l` or `r`
unfoldable pub parity_words : ℕ → ℕ → List ℕ → List ℕ
parity_words column place side = with_fields (codes "! parity") (column ∷ place ∷ []) ++ codes " " ++ side

abbrev pub side_lines : ℕ → ℕ → List ℕ → Bool → List (List ℕ)
side_lines column place side true = []
side_lines column place side false = parity_words column place side ∷ []

unfoldable pub note_lines : ℕ → SampleNote → List (List ℕ)
note_lines column note =
    sample_words note.sample ∷ side_lines column note.place (codes "l") note.left_even ++ side_lines column note.place (codes "r") note.right_even

-- the samples of the present bodies, or that the layout is not that of two channels
unfoldable pub sample_lines : ℕ → Result (List SampleNote) AudioFault → List (List ℕ)
sample_lines column (Ok notes) = flat_map (note_lines column) notes
sample_lines column (Err Layout) = with_fields (codes "! layout") (column ∷ []) ∷ []
sample_lines column (Err Uneven) = []
sample_lines column (Err (LostAudio block)) = []

-- a depth of colour that is not indicated, or is 24 bits
abbrev pub is_usual_depth : ℕ → Bool
is_usual_depth depth = (depth == 0) || (depth == 4)

-- any other
unfoldable pub depth_lines : ℕ → ℕ → List (List ℕ)
depth_lines column depth = if is_usual_depth depth then [] else with_fields (codes "! depth") (column ∷ depth ∷ []) ∷ []

-- general control (HDMI 1.4, section 5.3.6): in the first body set mute is bit 0 of byte 0, clear mute its bit 4, and the
-- depth of colour bits 0 to 3 of byte 1
abbrev pub depth_in : List ℕ → ℕ
depth_in bodies = slice_index bodies 1 % 16

unfoldable pub control_words : List ℕ → List ℕ
control_words bodies = with_fields (codes "gcp") (slice_index bodies 0 % 2 ∷ slice_index bodies 0 / 16 % 2 ∷ depth_in bodies ∷ [])

unfoldable pub control_lines : ℕ → List ℕ → List (List ℕ)
control_lines column bodies = control_words bodies ∷ depth_lines column (depth_in bodies)

unfoldable pub avi_words : Avi → List ℕ
avi_words x =
    with_fields (codes "avi")
    (x.s ∷ x.b ∷ x.a ∷ x.y ∷ x.r ∷ x.m ∷ x.c ∷ x.sc ∷ x.q ∷ x.ec ∷ x.itc ∷ x.vic ∷ x.pr ∷ map (slice_index x.bars) (0 ∷ 1 ∷ 2 ∷ 3 ∷ []))

unfoldable pub audio_words : AudioInfo → List ℕ
audio_words x = with_fields (codes "audio") (x.cc ∷ x.ct ∷ x.ss ∷ x.sf ∷ x.ca ∷ x.lsv ∷ x.dm ∷ [])

unfoldable pub spd_words : Spd → List ℕ
spd_words x = codes "spd " ++ encode_lower x.vendor ++ codes " " ++ encode_lower x.product ++ codes " " ++ encode_lower (x.kind ∷ [])

-- nothing, or a space and the digits
abbrev pub payload_words : List ℕ → List ℕ
payload_words [] = []
payload_words (byte ∷ bytes) = codes " " ++ encode_lower (byte ∷ bytes)

unfoldable pub raw_words : ℕ → ℕ → List ℕ → List ℕ
raw_words type_code version payload =
    codes "info " ++ encode_lower (type_code ∷ []) ++ codes " " ++ encode_lower (version ∷ []) ++ payload_words payload

-- the fields of a known layout, else the bytes
unfoldable pub info_words : InfoKind → Frame → List ℕ
info_words AviKind frame = avi_words (avi_of frame.payload)
info_words AudioKind frame = audio_words (audio_of frame.payload)
info_words SpdKind frame = spd_words (spd_of frame.payload)
info_words RawKind frame = raw_words frame.type_code frame.version frame.payload

-- the sum of an InfoFrame with a wrong checksum has two digits
unfoldable pub checksum_words : ℕ → ℕ → List ℕ
checksum_words column total = with_fields (codes "! checksum") (column ∷ []) ++ codes " " ++ encode_lower (total ∷ [])

-- an InfoFrame, or why it is none
unfoldable pub info_lines : ℕ → Result Frame InfoFault → List (List ℕ)
info_lines column (Ok frame) = info_words (kind_of frame.type_code frame.version) frame ∷ []
info_lines column (Err Length) = with_fields (codes "! length") (column ∷ []) ∷ []
info_lines column (Err (Checksum total)) = checksum_words column total ∷ []
info_lines column (Err (LostInfo block)) = []

-- any other packet: its header and its bodies
unfoldable pub other_words : Packet → List ℕ
other_words p =
    codes "packet " ++ encode_lower p.header ++ codes " " ++ encode_lower (body_of p 0) ++ codes " " ++ encode_lower (body_of p 1)
    ++ codes " " ++ encode_lower (body_of p 2) ++ codes " " ++ encode_lower (body_of p 3)

-- what a packet carries, by its type (HDMI 1.4, section 5.3.1): a Null packet nothing
unfoldable pub carried_lines : ℕ → Packet → PacketVerdicts → ℕ → List (List ℕ)
carried_lines type_code p verdicts column =
    if type_code == 0 then []
    else (if type_code == 1 then clock_lines column (acr_of p verdicts)
    else (if type_code == 2 then sample_lines column (samples_of p verdicts)
    else (if type_code == 3 then control_lines column p.bodies
    else (if nat_le 0x80 type_code then info_lines column (frame_of p verdicts)
    else other_words p ∷ []))))

-- nothing is listed of a packet that has lost a block
unfoldable pub packet_lines : Packet → PacketVerdicts → ℕ → List (List ℕ)
packet_lines p verdicts column = if is_some (first_lost verdicts) then [] else carried_lines (slice_index p.header 0) p verdicts column

-- what frames see of an event: of a line the number of its pixels
unfoldable pub frame_event_of : Event → FrameEvent
frame_event_of (run value count) = run_frame_event value count
frame_event_of (line pixels) = line_frame_event (length pixels / 3)
frame_event_of (word lane column) = word_fault
frame_event_of _ = other

abbrev pub frame_events : List Event → List FrameEvent
frame_events reported = map frame_event_of reported

-- the AVI InfoFrame that a packet is read as
unfoldable pub avi_read : Result Frame InfoFault → Option Avi
avi_read (Ok frame) = avi_in (kind_of frame.type_code frame.version) frame.payload
avi_read (Err fault) = None

unfoldable pub avi_at : Event → Option Avi
avi_at (packet p verdicts column) = avi_read (frame_of p verdicts)
avi_at _ = None

abbrev pub first_of : {A : Type 0} → List A → Option A
first_of [] = None
first_of (first ∷ later) = Some first

-- the last AVI InfoFrame that was read
unfoldable pub last_avi : List Event → Option Avi
last_avi reported = first_of (reverse (filter_map avi_at reported))

-- and the video identification code that it names
unfoldable pub last_vic : List Event → Option ℕ
last_vic reported = option_map (λ avi. avi.vic) (last_avi reported)

-- the lines of an event that is reported next
unfoldable pub lines_at : List Event → Event → List (List ℕ)
lines_at reported (run value count) = frame_lines (last_vic reported) (frame_at (frame_events reported) (run_frame_event value count))
lines_at reported (line pixels) = row_lines pixels (line_at (frame_events reported) (length pixels / 3))
lines_at reported (packet p verdicts column) = packet_lines p verdicts column
lines_at reported (open_island a b) = []
lines_at reported (close_island a b) = []
lines_at reported event = line_words event ∷ []

-- the lines of events that are reported next, one after another
unfoldable pub lines_after : List Event → List Event → List (List ℕ)
lines_after reported [] = []
lines_after reported (event ∷ later) = lines_at reported event ++ lines_after (reported ++ event ∷ []) later

-- the lines of all that is reported but the last
unfoldable pub content_lines : List Event → List (List ℕ)
content_lines events = lines_after [] events

-- the whole listing
unfoldable pub content_text : List Event → List ℕ
content_text events = text_of (content_lines events) ++ codes "end\n"

-- how many fault lines it has
unfoldable pub content_faults : List Event → ℕ
content_faults events = fault_line_count (content_lines events)
