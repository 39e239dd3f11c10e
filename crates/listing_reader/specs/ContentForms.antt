-- The forms of the lines of a content listing (docs/guide/FORMATS.md).
use Rattle.std.specs.Prelude.{ℕ, ◌+◌, ◌*◌, ◌%◌, Bool, true, false, ◌==◌, ◌&&◌, if◌then◌else◌, List, [], ◌∷◌, ◌++◌, length, take, drop, nat_le, nat_lt, nat_eq, slice_index, Option, Some, None, Result, Ok, Err, codes}
use Rattle.std.specs.List.{list_all, starts_with}
use Rattle.hex.specs.Hex.{decode_of}
use Rattle.hex.specs.declared.error.FromHexError.{FromHexError}
use Rattle.island_pack.specs.declared.packet.Packet.{Packet}
use Rattle.infoframe.specs.Written.{fits, padded}
use Rattle.infoframe.specs.declared.content.Info.{Info}
use Rattle.infoframe.specs.declared.content.Info.TheVariants.{Avi, Audio, Spd, Raw}
use Rattle.audio_packets.specs.Clock.{acr_packet}
use Rattle.audio_packets.specs.declared.sample.Sample.{Sample}
use Rattle.source_end.specs.Formats.{formats, mode_in}
use Rattle.source_end.specs.declared.mode.Mode.{Mode}
use Rattle.listing_reader.specs.Lines.{before_pieces}
use Rattle.listing_reader.specs.Forms.{number_of, part, is_fault}
use Rattle.listing_reader.specs.InfoPackets.{info_packet, control_packet, no_sync}
use Rattle.listing_reader.specs.declared.lines.TheConstants.{LINE_LIMIT}

-- what a line says; none where one of its numbers is outside its range
pub data ContentLine : Type 0 where
  -- `vic V` and `mode HA HF HS HB VA VF VS VB P`
  mode_line : Option Mode → ContentLine
  -- `row X`: the bytes of the pixels
  row_line : List ℕ → ContentLine
  -- `frame W H`
  frame_line : ℕ → ℕ → ContentLine
  -- `avi ..`, `audio ..`, `spd ..`, `info ..`, `acr ..`, `gcp ..` and `packet ..`
  packet_line : Option Packet → ContentLine
  -- `s L R l r B X`
  sample_line : Option Sample → ContentLine
  end_line : ContentLine
  -- `! ..` and `cut ..`, which only a receiver writes
  fault_line : ContentLine
  -- none of these
  no_line : ContentLine

-- ---- fields of decimal numbers

-- a text cut at its spaces
unfoldable pub fields_of : List ℕ → List (List ℕ)
fields_of [] = [] ∷ []
fields_of (c ∷ text) = before_pieces (c == 32) c (fields_of text)

abbrev pub then_number : Option ℕ → Option (List ℕ) → Option (List ℕ)
then_number (Some n) (Some ns) = Some (n ∷ ns)
then_number _ _ = None

-- the numbers that fields are
unfoldable pub numbers_of : List (List ℕ) → Option (List ℕ)
numbers_of [] = Some []
numbers_of (field ∷ fields) = then_number (number_of field) (numbers_of fields)

abbrev pub numbers_by : ℕ → (List ℕ → ContentLine) → Option (List ℕ) → ContentLine
numbers_by count form None = no_line
numbers_by count form (Some ns) = if length ns == count then form ns else no_line

-- so many numbers, with one space between any two
unfoldable pub numbers_form : ℕ → (List ℕ → ContentLine) → List ℕ → ContentLine
numbers_form count form rest = numbers_by count form (numbers_of (fields_of rest))

-- numbers of a byte, and of two
abbrev pub are_bytes : List ℕ → Bool
are_bytes ns = list_all (λ n. nat_lt n 256) ns

abbrev pub are_words : List ℕ → Bool
are_words ns = list_all (λ n. nat_lt n 65536) ns

abbrev pub within : {T : Type 0} → Bool → T → Option T
within true reported = Some reported
within false reported = None

-- `vic V`
unfoldable pub vic_reported : List ℕ → ContentLine
vic_reported ns = mode_line (mode_in formats (slice_index ns 0))

-- `mode ..`: active, front porch, sync and back porch across, the same down, and 1 for positive polarity
unfoldable pub mode_reported : List ℕ → ContentLine
mode_reported ns =
    mode_line (within (are_words (take 4 ns) && (are_words (take 4 (drop 4 ns)) && nat_lt (slice_index ns 8) 2))
    (record { across = take 4 ns; down = take 4 (drop 4 ns); positive = slice_index ns 8 == 1 }))

abbrev pub frame_reported : List ℕ → ContentLine
frame_reported ns = frame_line (slice_index ns 0) (slice_index ns 1)

-- the packet of an InfoFrame whose fields fit
unfoldable pub info_reported : Info → Option Packet
info_reported info = within (fits info) (info_packet info)

-- `avi S B A Y R M C SC Q EC ITC VIC PR T0 T1 T2 T3`: numbers of a byte, and four bars of two bytes
abbrev pub avi_from : List ℕ → List ℕ → Info
avi_from ns bars = Avi (record {
  s = slice_index ns 0;
  b = slice_index ns 1;
  a = slice_index ns 2;
  y = slice_index ns 3;
  r = slice_index ns 4;
  m = slice_index ns 5;
  c = slice_index ns 6;
  sc = slice_index ns 7;
  q = slice_index ns 8;
  ec = slice_index ns 9;
  itc = slice_index ns 10;
  vic = slice_index ns 11;
  pr = slice_index ns 12;
  bars = bars;
})

abbrev pub reported_if : Bool → Option Packet → Option Packet
reported_if true reported = reported
reported_if false reported = None

unfoldable pub avi_reported : List ℕ → ContentLine
avi_reported ns =
    packet_line (reported_if (are_bytes (take 13 ns) && are_words (take 4 (drop 13 ns))) (info_reported (avi_from (take 13 ns) (take 4 (drop 13 ns)))))

-- `audio CC CT SS SF CA LSV DM`: numbers of a byte
abbrev pub audio_from : List ℕ → Info
audio_from ns = Audio (record {
  cc = slice_index ns 0;
  ct = slice_index ns 1;
  ss = slice_index ns 2;
  sf = slice_index ns 3;
  ca = slice_index ns 4;
  lsv = slice_index ns 5;
  dm = slice_index ns 6;
})

unfoldable pub audio_reported : List ℕ → ContentLine
audio_reported ns = packet_line (reported_if (are_bytes ns) (info_reported (audio_from ns)))

-- `acr N CTS`
unfoldable pub acr_reported : List ℕ → ContentLine
acr_reported ns =
    packet_line (within (nat_lt (slice_index ns 0) 1048576 && nat_lt (slice_index ns 1) 1048576) (acr_packet (record { n = slice_index ns 0; cts = slice_index ns 1 }) no_sync))

-- `gcp S C D`
unfoldable pub gcp_reported : List ℕ → ContentLine
gcp_reported ns =
    packet_line (within (nat_lt (slice_index ns 0) 2 && (nat_lt (slice_index ns 1) 2 && nat_lt (slice_index ns 2) 16)) (control_packet (slice_index ns 0) (slice_index ns 1) (slice_index ns 2)))

-- ---- fields of hexadecimal digits

abbrev pub is_space : List ℕ → ℕ → Bool
is_space rest i = slice_index rest i == 32

-- what follows `row `: six hexadecimal digits a pixel
abbrev pub row_by : Bool → Result (List ℕ) FromHexError → ContentLine
row_by true (Ok bytes) = row_line bytes
row_by _ _ = no_line

unfoldable pub row_form : List ℕ → ContentLine
row_form rest = row_by (length rest % 6 == 0) (decode_of rest)

-- a field of hexadecimal digits
abbrev pub decoded_by : (List ℕ → ContentLine) → Result (List ℕ) FromHexError → ContentLine
decoded_by form (Ok bytes) = form bytes
decoded_by form (Err e) = no_line

abbrev pub hex_field : List ℕ → (List ℕ → ContentLine) → ContentLine
hex_field digits form = decoded_by form (decode_of digits)

-- what follows `spd `: 16, 32 and 2 digits
abbrev pub spd_reported : List ℕ → List ℕ → List ℕ → ContentLine
spd_reported vendor product kind = packet_line (info_reported (Spd (record { vendor = vendor; product = product; kind = slice_index kind 0 })))

unfoldable pub spd_form : List ℕ → ContentLine
spd_form rest =
    if (length rest == 52) && (is_space rest 16 && is_space rest 49)
    then hex_field (part 0 16 rest) (λ vendor. hex_field (part 17 32 rest) (λ product. hex_field (part 50 2 rest) (spd_reported vendor product)))
    else no_line

-- what follows the version of `info TT VV X`: nothing, or a space and the digits of 1 to 27 bytes
unfoldable pub payload_form : List ℕ → (List ℕ → ContentLine) → ContentLine
payload_form [] form = form []
payload_form (c ∷ digits) form = if (c == 32) && (nat_le 1 (length digits) && nat_le (length digits) 54) then hex_field digits form else no_line

abbrev pub info_line : List ℕ → List ℕ → List ℕ → ContentLine
info_line kind version bytes = packet_line (info_reported (Raw (slice_index kind 0) (slice_index version 0) (length bytes) (padded bytes)))

-- what follows `info `
unfoldable pub info_form : List ℕ → ContentLine
info_form rest =
    if nat_le 5 (length rest) && is_space rest 2
    then hex_field (part 0 2 rest) (λ kind. hex_field (part 3 2 rest) (λ version. payload_form (drop 5 rest) (info_line kind version)))
    else no_line

-- what follows `packet `: 6, 14, 14, 14 and 14 digits
abbrev pub packet_reported : List ℕ → List ℕ → ContentLine
packet_reported header bodies = packet_line (Some (record { header = header; bodies = bodies; sync = no_sync }))

unfoldable pub packet_form : List ℕ → ContentLine
packet_form rest =
    if (length rest == 66) && (is_space rest 6 && (is_space rest 21 && (is_space rest 36 && is_space rest 51)))
    then hex_field (part 0 6 rest) (λ header. hex_field (part 7 14 rest) (λ a. hex_field (part 22 14 rest) (λ b. hex_field (part 37 14 rest) (λ c.
    hex_field (part 52 14 rest) (λ d. packet_reported header (a ++ b ++ c ++ d))))))
    else no_line

-- what follows `s `: six and six digits, the low byte of each value last, and four numbers
abbrev pub value_of : List ℕ → ℕ
value_of bytes = 65536 * slice_index bytes 0 + 256 * slice_index bytes 1 + slice_index bytes 2

unfoldable pub sample_reported : List ℕ → List ℕ → List ℕ → ContentLine
sample_reported left right ns =
    sample_line (within (nat_lt (slice_index ns 0) 8 && (nat_lt (slice_index ns 1) 8 && (nat_lt (slice_index ns 2) 2 && nat_lt (slice_index ns 3) 2)))
    (record { left = value_of left; right = value_of right; left_flags = slice_index ns 0; right_flags = slice_index ns 1; start = slice_index ns 2 == 1; flat = slice_index ns 3 == 1 }))

unfoldable pub sample_form : List ℕ → ContentLine
sample_form rest =
    if nat_le 14 (length rest) && (is_space rest 6 && is_space rest 13)
    then hex_field (part 0 6 rest) (λ left. hex_field (part 7 6 rest) (λ right. numbers_form 4 (sample_reported left right) (drop 14 rest)))
    else no_line

-- ---- a line

-- a line of decimal numbers by its name
unfoldable pub numbers_line : List ℕ → ContentLine
numbers_line line =
    if starts_with nat_eq line (codes "vic ") then numbers_form 1 vic_reported (drop 4 line)
    else if starts_with nat_eq line (codes "mode ") then numbers_form 9 mode_reported (drop 5 line)
    else if starts_with nat_eq line (codes "frame ") then numbers_form 2 frame_reported (drop 6 line)
    else if starts_with nat_eq line (codes "avi ") then numbers_form 17 avi_reported (drop 4 line)
    else if starts_with nat_eq line (codes "audio ") then numbers_form 7 audio_reported (drop 6 line)
    else if starts_with nat_eq line (codes "acr ") then numbers_form 2 acr_reported (drop 4 line)
    else if starts_with nat_eq line (codes "gcp ") then numbers_form 3 gcp_reported (drop 4 line)
    else no_line

-- a line of hexadecimal digits by its name
unfoldable pub digits_line : List ℕ → ContentLine
digits_line line =
    if starts_with nat_eq line (codes "spd ") then spd_form (drop 4 line)
    else if starts_with nat_eq line (codes "info ") then info_form (drop 5 line)
    else if starts_with nat_eq line (codes "packet ") then packet_form (drop 7 line)
    else numbers_line line

-- the form of a line without its line feed; a line of more than 32,768 bytes has none
unfoldable pub content_form_of : List ℕ → ContentLine
content_form_of line =
    if is_fault line then fault_line
    else if nat_lt LINE_LIMIT (length line) then no_line
    else if starts_with nat_eq line (codes "row ") then row_form (drop 4 line)
    else if starts_with nat_eq line (codes "s ") then sample_form (drop 2 line)
    else if starts_with nat_eq line (codes "end") && (length line == 3) then end_line
    else digits_line line
