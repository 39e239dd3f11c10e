-- What the lines of a content listing have said so far: the mode, whole frames, the frame that is still open, and the
-- samples of neighbouring lines that still lack a packet.
use Rattle.std.specs.Prelude.{ℕ, ◌+◌, ◌*◌, Bool, true, false, not, ◌==◌, ◌&&◌, ◌||◌, if◌then◌else◌, List, [], ◌∷◌, ◌++◌, length, nat_lt, Option, Some, None}
use Rattle.audio_packets.specs.Samples.{samples_packet}
use Rattle.audio_packets.specs.declared.sample.Sample.{Sample}
use Rattle.source_end.specs.Content.{Frame, empty_frame, with_packet, with_row}
use Rattle.source_end.specs.Raster.{active}
use Rattle.source_end.specs.RasterRefusals.{is_in_range, numbers_of}
use Rattle.source_end.specs.declared.mode.Mode.{Mode}
use Rattle.listing_reader.specs.declared.fault.ListCause.{ListCause}
use Rattle.listing_reader.specs.declared.fault.ListCause.TheVariants.{Fault, Form, Range, Order, Size, Long}
use Rattle.listing_reader.specs.Causes.{unless}
use Rattle.listing_reader.specs.InfoPackets.{no_sync}
use Rattle.listing_reader.specs.ContentForms.{ContentLine, mode_line, row_line, frame_line, packet_line, sample_line, end_line, fault_line, no_line}

pub record ContentDraft : Type 0 where
  pub mode : Option Mode
  pub frames : List Frame
  pub current : Frame
  -- fewer than four
  pub samples : List Sample

abbrev pub no_content : ContentDraft
no_content = record { mode = None; frames = []; current = empty_frame; samples = [] }

-- samples make one packet more
abbrev pub with_samples : List Sample → Frame → Frame
with_samples [] f = f
with_samples (s ∷ samples) f = with_packet (samples_packet (s ∷ samples) no_sync) f

-- a line of another kind ends the neighbours: one to three samples make one packet more
abbrev pub settled : ContentDraft → ContentDraft
settled draft = record draft { current = with_samples draft.samples draft.current; samples = [] }

-- four neighbours make a packet
abbrev pub with_sample : Sample → ContentDraft → ContentDraft
with_sample s draft =
    let samples = draft.samples ++ s ∷ [] in
    if length samples == 4 then settled (record draft { samples = samples }) else record draft { samples = samples }

-- what is given after a line that is taken
abbrev pub with_content : ContentLine → ContentDraft → ContentDraft
with_content (mode_line mode) draft = record draft { mode = mode }
with_content (row_line bytes) draft = record (settled draft) { current = with_row bytes (settled draft).current }
with_content (frame_line width height) draft = record (settled draft) { frames = draft.frames ++ (settled draft).current ∷ []; current = empty_frame }
with_content (packet_line (Some packet)) draft = record (settled draft) { current = with_packet packet (settled draft).current }
with_content (packet_line None) draft = draft
with_content (sample_line (Some s)) draft = with_sample s draft
with_content (sample_line None) draft = draft
with_content end_line draft = draft
with_content fault_line draft = draft
with_content no_line draft = draft

-- ---- why a line is refused: the first cause decides

abbrev pub has_mode : ContentDraft → Bool
has_mode draft = elim draft.mode [ Some mode ↦ true | None ↦ false ]

-- rows of the open frame
abbrev pub has_row : ContentDraft → Bool
has_row draft = nat_lt 0 (length draft.current.rows)

-- nothing of a frame is given
abbrev pub is_settled : ContentDraft → Bool
is_settled draft = (length draft.current.rows == 0) && ((length draft.current.packets == 0) && (length draft.samples == 0))

-- a frame has at most 65,535 packets
abbrev pub has_room : ContentDraft → Bool
has_room draft = nat_lt (length (settled draft).current.packets) 65535

-- a sample begins a packet where no other waits for neighbours
abbrev pub has_sample_room : ContentDraft → Bool
has_sample_room draft = nat_lt 0 (length draft.samples) || nat_lt (length draft.current.packets) 65535

-- numbers of a mode, from number i on, are those of a raster
abbrev pub are_numbers_in_range : ℕ → List ℕ → Bool
are_numbers_in_range i [] = true
are_numbers_in_range i (n ∷ numbers) = is_in_range i n && are_numbers_in_range (i + 1) numbers

unfoldable pub is_raster_mode : Mode → Bool
is_raster_mode mode = are_numbers_in_range 0 (numbers_of mode)

-- the row has the mode's width, and is one of the mode's rows; in a mode without a raster any row fits
abbrev pub row_fits : Mode → ℕ → List ℕ → Bool
row_fits mode rows bytes = not (is_raster_mode mode) || ((length bytes == 3 * active mode.across) && nat_lt rows (active mode.down))

-- the frame has the mode's size, as it is given and by its rows
abbrev pub frame_fits : Mode → ℕ → ℕ → ℕ → Bool
frame_fits mode rows width height =
    not (is_raster_mode mode) || ((width == active mode.across) && ((height == active mode.down) && (rows == active mode.down)))

abbrev pub in_mode : Option Mode → (Mode → Bool) → Bool
in_mode None test = true
in_mode (Some mode) test = test mode

abbrev pub row_cause : ContentDraft → List ℕ → Option ListCause
row_cause draft bytes =
    unless (has_mode draft) Order
    (unless (in_mode draft.mode (λ mode. row_fits mode (length draft.current.rows) bytes)) Size
    None)

abbrev pub frame_cause : ContentDraft → ℕ → ℕ → Option ListCause
frame_cause draft width height =
    unless (has_mode draft && has_row draft) Order
    (unless (in_mode draft.mode (λ mode. frame_fits mode (length draft.current.rows) width height)) Size
    None)

unfoldable pub content_cause : ContentDraft → ContentLine → Option ListCause
content_cause draft fault_line = Some Fault
content_cause draft no_line = Some Form
content_cause draft (mode_line None) = Some Range
content_cause draft (mode_line (Some mode)) = unless (not (has_mode draft)) Order None
content_cause draft (row_line bytes) = row_cause draft bytes
content_cause draft (frame_line width height) = frame_cause draft width height
content_cause draft (packet_line None) = Some Range
content_cause draft (packet_line (Some packet)) = unless (has_mode draft) Order (unless (has_room draft) Long None)
content_cause draft (sample_line None) = Some Range
content_cause draft (sample_line (Some s)) = unless (has_mode draft) Order (unless (has_sample_room draft) Long None)
content_cause draft end_line = unless (has_mode draft && (nat_lt 0 (length draft.frames) && is_settled draft)) Order None
