-- How many lines of each kind an event has.
use Rattle.std.proofs.Common.{◌≡◌, ◌∙◌, ℕ, ◌+◌, Bool, true, false, if◌then◌else◌, List, [], ◌∷◌, ◌++◌, length, Option, Some, None, refl, ap, ap₂, sym, arith}
use Rattle.std.specs.Prelude.{◌==◌, codes, count_by, is_some, slice_index, nat_le, Result, Ok, Err}
use Rattle.std.specs.List.{flat_map}
use Rattle.std.proofs.lemmas.Bool.{ne_eqb}
use Rattle.island_pack.specs.declared.packet.Packet.{Packet}
use Rattle.island_pack.specs.declared.packet.PacketVerdicts.{PacketVerdicts}
use Rattle.island_pack.specs.Taken.{first_lost}
use Rattle.infoframe.specs.Frames.{Frame}
use Rattle.audio_packets.specs.Faults.{unless_lost}
use Rattle.infoframe.specs.declared.content.InfoKind.{InfoKind}
use Rattle.infoframe.specs.declared.content.InfoFault.{InfoFault}
use Rattle.audio_packets.specs.Samples.{samples_of}
use Rattle.audio_packets.specs.declared.clock.Acr.{Acr}
use Rattle.audio_packets.specs.declared.sample.SampleNote.{SampleNote}
use Rattle.audio_packets.specs.declared.fault.AudioFault.{AudioFault}
use Rattle.period_grammar.specs.Events.{Event, packet, cut, open_island, close_island}
use Rattle.period_grammar.specs.Lending.{fault_event}
use Rattle.period_grammar.specs.declared.event.Fault.{Fault}
use Rattle.period_grammar.specs.declared.event.Fault.TheVariants.{Code, Symbols, Mended}
use Rattle.frame_build.specs.FrameEvent.{FrameEvent, other}
use Rattle.frame_build.specs.declared.FrameNote.{FrameNote}
use Rattle.frame_build.specs.declared.LineNote.{LineNote}
use Rattle.listing_writer.specs.Fields.{with_fields}
use Rattle.listing_writer.specs.Texts.{line_words}
use Rattle.listing_writer.specs.ContentText.{row_lines, vic_lines, frame_lines, clock_lines, sample_words, parity_words, side_lines, note_lines, sample_lines, is_usual_depth, depth_in, depth_lines, control_words, control_lines, avi_words, audio_words, spd_words, raw_words, info_words, checksum_words, info_lines, other_words, carried_lines, packet_lines, frame_event_of, lines_at}
use Rattle.listing_writer.specs.Listed.{listed_at}
use Rattle.sampling.specs.Counts.{lines_with, is_packet}
use Rattle.sampling.proofs.Growing.{with_append}

-- how many lines of each kind there are, and packets
pub record Kinds : Type 0 where
  pub frames : ℕ
  pub rows : ℕ
  pub packets : ℕ
  pub samples : ℕ
  pub symbols : ℕ
  pub mended : ℕ
  pub code : ℕ

abbrev pub kinds_of : ℕ → List (List ℕ) → Kinds
kinds_of packets lines = record {
  frames = lines_with (codes "frame ") lines;
  rows = lines_with (codes "row ") lines;
  packets = packets;
  samples = lines_with (codes "s ") lines;
  symbols = lines_with (codes "! symbols ") lines;
  mended = lines_with (codes "! mended ") lines;
  code = lines_with (codes "! code ") lines;
}

-- those of an event
abbrev pub kinds_at : List Event → Event → Kinds
kinds_at reported event = kinds_of (count_by is_packet (event ∷ [])) (lines_at reported event)

-- so many packets and samples
abbrev pub sampled : ℕ → ℕ → Kinds
sampled packets samples = record { frames = 0; rows = 0; packets = packets; samples = samples; symbols = 0; mended = 0; code = 0 }

abbrev pub none : Kinds
none = sampled 0 0

-- one frame or one row
abbrev pub pictured : ℕ → ℕ → Kinds
pictured frames rows = record { frames = frames; rows = rows; packets = 0; samples = 0; symbols = 0; mended = 0; code = 0 }

-- one line of a fault
abbrev pub faulted : ℕ → ℕ → ℕ → Kinds
faulted symbols mended code = record { frames = 0; rows = 0; packets = 0; samples = 0; symbols = symbols; mended = mended; code = code }

-- ---- frames and rows

other_size : (t : Bool) (note : FrameNote) (vic : ℕ)
    → kinds_of 0 (with_fields (codes "frame") (note.width ∷ note.height ∷ []) ∷ (if t then with_fields (codes "! vic") (vic ∷ []) ∷ [] else [])) ≡ pictured 1 0
unfolding lines_with
other_size t note vic = grind arith

pub one_frame : (vic : Option ℕ) (note : FrameNote) → kinds_of 0 (frame_lines vic (Some note)) ≡ pictured 1 0
unfolding frame_lines vic_lines lines_with
one_frame vic note = grind (arith, other_size)

pub no_frame : (vic : Option ℕ) → kinds_of 0 (frame_lines vic None) ≡ none
unfolding frame_lines lines_with
no_frame vic = refl

abbrev row_with : Bool → Bool → List ℕ → ℕ → List (List ℕ)
row_with counts ragged digits n = if counts then (codes "row " ++ digits) ∷ (if ragged then with_fields (codes "! ragged") (n ∷ []) ∷ [] else []) else []

counted_row : (counts ragged : Bool) (digits : List ℕ) (n : ℕ) → counts ≡ true → kinds_of 0 (row_with counts ragged digits n) ≡ pictured 0 1
unfolding lines_with
counted_row counts ragged digits n h = grind arith

uncounted_row : (counts ragged : Bool) (digits : List ℕ) (n : ℕ) → counts ≡ false → kinds_of 0 (row_with counts ragged digits n) ≡ none
unfolding lines_with
uncounted_row counts ragged digits n h = grind arith

pub one_row : (pixels : List ℕ) (note : LineNote) → note.counts ≡ true → kinds_of 0 (row_lines pixels note) ≡ pictured 0 1
unfolding row_lines
one_row pixels note counts = counted_row note.counts note.ragged _ note.row counts

pub no_row : (pixels : List ℕ) (note : LineNote) → note.counts ≡ false → kinds_of 0 (row_lines pixels note) ≡ none
unfolding row_lines
no_row pixels note counts = uncounted_row note.counts note.ragged _ note.row counts

-- ---- packets

-- of these lines so many give samples, and none is of another kind
abbrev Tell : List (List ℕ) → ℕ → Type 0
Tell lines samples = kinds_of 0 lines ≡ sampled 0 samples

both : (xs ys : List (List ℕ)) (m n : ℕ) → Tell xs m → Tell ys n → Tell (xs ++ ys) (m + n)
both xs ys m n h k = grind (arith, with_append)

choice : (t : Bool) (xs ys : List (List ℕ)) (m n : ℕ) → Tell xs m → Tell ys n → Tell (if t then xs else ys) (if t then m else n)
choice t xs ys m n h k = grind arith

nothing : Tell [] 0
unfolding lines_with
nothing = refl

clock : (column : ℕ) (r : Result Acr AudioFault) → Tell (clock_lines column r) 0
unfolding clock_lines lines_with
clock column r = grind arith

left_side : (column place : ℕ) (even : Bool) → Tell (side_lines column place (codes "l") even) 0
unfolding parity_words lines_with
left_side column place even = grind arith

right_side : (column place : ℕ) (even : Bool) → Tell (side_lines column place (codes "r") even) 0
unfolding parity_words lines_with
right_side column place even = grind arith

one_sample : (note : SampleNote) → Tell (sample_words note.sample ∷ []) 1
unfolding sample_words lines_with
one_sample note = refl

one_note : (column : ℕ) (note : SampleNote) → Tell (note_lines column note) 1
unfolding note_lines
one_note column note =
    both (sample_words note.sample ∷ []) (side_lines column note.place (codes "l") note.left_even ++ side_lines column note.place (codes "r") note.right_even) 1 0 (one_sample note)
    (both (side_lines column note.place (codes "l") note.left_even) (side_lines column note.place (codes "r") note.right_even) 0 0 (left_side column note.place note.left_even) (right_side column note.place note.right_even))

notes_tell : (column : ℕ) (notes : List SampleNote) → Tell (flat_map (note_lines column) notes) (length notes)
notes_tell column [] = nothing
notes_tell column (note ∷ notes) =
    both (note_lines column note) (flat_map (note_lines column) notes) 1 (length notes) (one_note column note) (notes_tell column notes)
    ∙ ap (sampled 0) (let e : 1 + length notes ≡ length (note ∷ notes) = omega arith in e)

-- how many samples are read
abbrev pub samples_read : Result (List SampleNote) AudioFault → ℕ
samples_read (Ok notes) = length notes
samples_read (Err fault) = 0

samples_tell : (column : ℕ) (r : Result (List SampleNote) AudioFault) → Tell (sample_lines column r) (samples_read r)
unfolding sample_lines lines_with
samples_tell column r = grind (arith, notes_tell)

deep : (t : Bool) (column depth : ℕ) → Tell (if t then [] else with_fields (codes "! depth") (column ∷ depth ∷ []) ∷ []) 0
unfolding lines_with
deep t column depth = grind arith

control_tells : (column : ℕ) (bodies : List ℕ) → Tell (control_lines column bodies) 0
unfolding control_lines control_words depth_lines lines_with
control_tells column bodies = both (control_words bodies ∷ []) (depth_lines column (depth_in bodies)) 0 0 refl (deep (is_usual_depth (depth_in bodies)) column (depth_in bodies))

info_tells : (kind : InfoKind) (f : Frame) → Tell (info_words kind f ∷ []) 0
unfolding info_words avi_words audio_words spd_words raw_words lines_with
info_tells kind f = grind arith

infos_tell : (column : ℕ) (r : Result Frame InfoFault) → Tell (info_lines column r) 0
unfolding info_lines checksum_words lines_with
infos_tell column r = grind (arith, info_tells)

other_tells : (p : Packet) → Tell (other_words p ∷ []) 0
unfolding other_words lines_with
other_tells p = refl

-- how many samples are listed of a packet of a type
abbrev pub samples_carried : ℕ → Packet → PacketVerdicts → ℕ
samples_carried type_code p v =
    if type_code == 0 then 0
    else (if type_code == 1 then 0
    else (if type_code == 2 then samples_read (samples_of p v)
    else (if type_code == 3 then 0
    else (if nat_le 0x80 type_code then 0 else 0))))

abbrev pub samples_in : Packet → PacketVerdicts → ℕ
samples_in p v = if is_some (first_lost v) then 0 else samples_carried (slice_index p.header 0) p v

packet_tells : (p : Packet) (v : PacketVerdicts) (column : ℕ) → Tell (packet_lines p v column) (samples_in p v)
unfolding packet_lines carried_lines
packet_tells p v column = grind (arith, choice, nothing, clock, samples_tell, control_tells, infos_tell, other_tells)

-- the lines of samples among those of a packet
pub packet_samples : (p : Packet) (v : PacketVerdicts) (column : ℕ) → lines_with (codes "s ") (packet_lines p v column) ≡ samples_in p v
packet_samples p v column = ap (λ (x : Kinds). x.samples) (packet_tells p v column)

pub packet_kinds : (reported : List Event) (p : Packet) (v : PacketVerdicts) (column : ℕ) → kinds_at reported (packet p v column) ≡ sampled 1 (samples_in p v)
unfolding lines_at
packet_kinds reported p v column = grind (arith, packet_tells)

-- ---- faults, the cut and guards

pub symbols_kinds : (reported : List Event) (j n : ℕ) → kinds_at reported (fault_event (Symbols j n)) ≡ faulted 1 0 0
unfolding lines_at line_words lines_with
symbols_kinds reported j n = refl

pub mended_kinds : (reported : List Event) (j block bit : ℕ) → kinds_at reported (fault_event (Mended j block bit)) ≡ faulted 0 1 0
unfolding lines_at line_words lines_with
mended_kinds reported j block bit = refl

pub code_kinds : (reported : List Event) (lane j : ℕ) → kinds_at reported (fault_event (Code lane j)) ≡ faulted 0 0 1
unfolding lines_at line_words lines_with
code_kinds reported lane j = refl

-- a fault of no kind that has a count of its own
pub plain_kinds : (reported : List Event) (fault : Fault) → ((j n : ℕ) → fault ≡ Symbols j n → ⊥) → ((j block bit : ℕ) → fault ≡ Mended j block bit → ⊥) → ((lane j : ℕ) → fault ≡ Code lane j → ⊥)
    → kinds_at reported (fault_event fault) ≡ none
unfolding lines_at line_words lines_with
plain_kinds reported fault h k l = grind arith

pub fault_unlisted : (es : List FrameEvent) (fault : Fault) → listed_at es (fault_event fault) ≡ []
unfolding frame_event_of
fault_unlisted es fault = grind arith

-- an event of which nothing is counted, but that parts lines of pixels
pub record IsUnlisted (event : Event) : Type 0 where
  pub frame_event : other ≡ frame_event_of event
  pub kinds : (reported : List Event) → kinds_at reported event ≡ none
  pub unlisted : (es : List FrameEvent) → listed_at es event ≡ []

pub open_unlisted : (a b : ℕ) → IsUnlisted (open_island a b)
unfolding frame_event_of lines_at lines_with
open_unlisted a b = record { frame_event = refl; kinds = λ reported. refl; unlisted = λ es. refl }

pub close_unlisted : (a b : ℕ) → IsUnlisted (close_island a b)
unfolding frame_event_of lines_at lines_with
close_unlisted a b = record { frame_event = refl; kinds = λ reported. refl; unlisted = λ es. refl }

pub cut_unlisted : (j : ℕ) → IsUnlisted (cut j)
unfolding frame_event_of lines_at line_words lines_with
cut_unlisted j = record { frame_event = refl; kinds = λ reported. refl; unlisted = λ es. refl }

-- ---- samples of a packet, as they are read

passed : (t : Bool) (n : ℕ) → n ≡ 0 → (if t then 0 else n) ≡ 0
passed t n h = grind arith

passed_other : (t : Bool) (m n : ℕ) → t ≡ false → n ≡ 0 → (if t then m else n) ≡ 0
passed_other t m n h k = grind arith

-- no other packet gives samples
pub no_samples : (p : Packet) (v : PacketVerdicts) → (slice_index p.header 0 ≡ 2 → ⊥) → 0 ≡ samples_in p v
no_samples p v unlike =
    let t = slice_index p.header 0 in
    sym (passed (is_some (first_lost v)) _ (passed (t == 0) _ (passed (t == 1) _ (passed_other (t == 2) _ _ (ne_eqb t 2 unlike) (passed (t == 3) _ (passed (nat_le 0x80 t) 0 refl))))))

lost_by : (lost : Option ℕ) (r : Result (List SampleNote) AudioFault) → (if is_some lost then 0 else samples_read (unless_lost lost r)) ≡ samples_read (unless_lost lost r)
lost_by lost r = grind arith

-- a packet of samples gives those that are read
pub all_samples : (p : Packet) (v : PacketVerdicts) → slice_index p.header 0 ≡ 2 → samples_read (samples_of p v) ≡ samples_in p v
all_samples p v is = grind (arith, lost_by)
