-- What the reader of a content listing keeps of the lines that it has taken: the frames only as long as they may have a
-- raster, and else their number and their first fault. What a line does to that, and how it stands for what
-- the lines said.
use Rattle.std.specs.Prelude.{◌≡◌, ℕ, ◌+◌, Bool, true, false, not, ◌==◌, ◌&&◌, ◌||◌, if◌then◌else◌, List, [], ◌∷◌, ◌++◌, length, nat_lt, Option, Some, None, Result, Ok, Err}
use Rattle.audio_packets.specs.declared.sample.Sample.{Sample}
use Rattle.source_end.specs.Content.{Frame, empty_frame, with_packet, with_row}
use Rattle.source_end.specs.FrameFaults.{next_fault}
use Rattle.source_end.specs.RasterRefusals.{bad_mode, numbers_of, raster_fault}
use Rattle.source_end.specs.declared.mode.Mode.{Mode}
use Rattle.source_end.specs.declared.refusal.RasterFault.{RasterFault}
use Rattle.listing_reader.specs.declared.fault.ListCause.{ListCause}
use Rattle.listing_reader.specs.declared.fault.ListCause.TheVariants.{Fault, Form, Range, Order, Size, Long}
use Rattle.listing_reader.specs.Causes.{unless}
use Rattle.listing_reader.specs.LineSteps.{LineStep, tells, closes, wrong, Read, accepts, refuses}
use Rattle.listing_reader.specs.ContentForms.{ContentLine, mode_line, row_line, frame_line, packet_line, sample_line, end_line, fault_line, no_line, content_form_of}
use Rattle.listing_reader.specs.ContentDrafts.{ContentDraft, frame_fits, in_mode, row_fits, with_samples}
use Rattle.listing_reader.specs.ContentReported.{open_frame, pending, whole_frames}

pub record ContentKept : Type 0 where
  pub mode : Option Mode
  -- the first fault of the whole frames
  pub fault : Option RasterFault
  -- how many whole frames there are
  pub count : ℕ
  -- how many rows and packets the open frame has
  pub rows : ℕ
  pub packets : ℕ
  -- the whole frames, and the open one; none where there is a fault
  pub frames : List Frame
  pub current : Frame
  -- fewer than four
  pub samples : List Sample

abbrev pub kept : Option Mode → Option RasterFault → ℕ → ℕ → ℕ → Bool → List Frame → List Sample → ContentKept
kept mode fault count rows packets is_open frames samples = record {
  mode = mode;
  fault = fault;
  count = count;
  rows = rows;
  packets = packets;
  frames = whole_frames is_open frames;
  current = open_frame is_open frames;
  samples = samples;
}

-- the frames where there is no fault are as many as were given, and so are the rows of the open one
abbrev pub AreKept : Option RasterFault → ℕ → ℕ → Bool → List Frame → Type 0
AreKept None count rows is_open frames = (count ≡ length (whole_frames is_open frames)) × (rows ≡ length (open_frame is_open frames).rows)
AreKept (Some fault) count rows is_open frames = is_open ≡ false

abbrev pub nothing_kept : ContentKept
nothing_kept = record { mode = None; fault = None; count = 0; rows = 0; packets = 0; frames = []; current = empty_frame; samples = [] }

-- what is kept where there is a fault or not
abbrev pub unless_fault : {T : Type 0} → Option RasterFault → T → T → T
unless_fault None kept dropped = kept
unless_fault (Some fault) kept dropped = dropped

abbrev pub kept_frame : Option RasterFault → Frame → Frame
kept_frame fault frame = unless_fault fault frame empty_frame

-- ---- why a line is refused: as by what the lines said

abbrev pub is_reported : Option Mode → Bool
is_reported mode = elim mode [ Some mode ↦ true | None ↦ false ]

abbrev pub kept_row_cause : ContentKept → List ℕ → Option ListCause
kept_row_cause k bytes = unless (is_reported k.mode) Order (unless (in_mode k.mode (λ mode. row_fits mode k.rows bytes)) Size None)

abbrev pub kept_frame_cause : ContentKept → ℕ → ℕ → Option ListCause
kept_frame_cause k width height =
    unless (is_reported k.mode && nat_lt 0 k.rows) Order (unless (in_mode k.mode (λ mode. frame_fits mode k.rows width height)) Size None)

-- nothing of a frame is given
abbrev pub is_kept_settled : ContentKept → Bool
is_kept_settled k = (k.rows == 0) && ((k.packets == 0) && (length k.samples == 0))

abbrev pub has_kept_room : ContentKept → Bool
has_kept_room k = nat_lt (k.packets + pending k.samples) 65535

abbrev pub has_kept_sample_room : ContentKept → Bool
has_kept_sample_room k = nat_lt 0 (length k.samples) || nat_lt k.packets 65535

unfoldable pub kept_cause : ContentKept → ContentLine → Option ListCause
kept_cause k fault_line = Some Fault
kept_cause k no_line = Some Form
kept_cause k (mode_line None) = Some Range
kept_cause k (mode_line (Some mode)) = unless (not (is_reported k.mode)) Order None
kept_cause k (row_line bytes) = kept_row_cause k bytes
kept_cause k (frame_line width height) = kept_frame_cause k width height
kept_cause k (packet_line None) = Some Range
kept_cause k (packet_line (Some packet)) = unless (is_reported k.mode) Order (unless (has_kept_room k) Long None)
kept_cause k (sample_line None) = Some Range
kept_cause k (sample_line (Some s)) = unless (is_reported k.mode) Order (unless (has_kept_sample_room k) Long None)
kept_cause k end_line = unless (is_reported k.mode && (nat_lt 0 k.count && is_kept_settled k)) Order None

-- ---- what is kept after a line that is taken

-- the samples that lack a packet make one
abbrev pub settled_kept : ContentKept → ContentKept
settled_kept k = record k { packets = k.packets + pending k.samples; current = kept_frame k.fault (with_samples k.samples k.current); samples = [] }

-- four neighbours make a packet
abbrev pub with_kept_sample : Sample → ContentKept → ContentKept
with_kept_sample s k =
    let samples = k.samples ++ s ∷ [] in
    if length samples == 4 then settled_kept (record k { samples = samples }) else record k { samples = samples }

-- the first fault with one frame more
abbrev pub fault_after : Option Mode → Option RasterFault → ℕ → ℕ → Option RasterFault
fault_after None fault count packets = fault
fault_after (Some mode) fault count packets = next_fault mode fault count packets

-- the open frame ends
abbrev pub with_frame_of : Option RasterFault → ContentKept → ContentKept
with_frame_of fault k = record k { fault = fault; count = k.count + 1; rows = 0; packets = 0; frames = unless_fault fault (k.frames ++ k.current ∷ []) []; current = empty_frame }

abbrev pub with_frame : ContentKept → ContentKept
with_frame k = with_frame_of (fault_after k.mode k.fault k.count k.packets) k

-- the mode, before which nothing is given
abbrev pub begun_in : Mode → ContentKept
begun_in mode = record nothing_kept { mode = Some mode; fault = bad_mode 0 (numbers_of mode) }

abbrev pub with_kept : ContentLine → ContentKept → ContentKept
with_kept (mode_line None) k = k
with_kept (mode_line (Some mode)) k = begun_in mode
with_kept (row_line bytes) k = record (settled_kept k) { rows = k.rows + 1; current = kept_frame k.fault (with_row bytes (settled_kept k).current) }
with_kept (frame_line width height) k = with_frame (settled_kept k)
with_kept (packet_line None) k = k
with_kept (packet_line (Some packet)) k = record (settled_kept k) { packets = (settled_kept k).packets + 1; current = kept_frame k.fault (with_packet packet (settled_kept k).current) }
with_kept (sample_line None) k = k
with_kept (sample_line (Some s)) k = with_kept_sample s k
with_kept end_line k = k
with_kept fault_line k = k
with_kept no_line k = k

-- ---- what a line does

-- the frames of a content, or the first fault
abbrev pub frames_or : Mode → Option RasterFault → List Frame → Result (Mode × List Frame) RasterFault
frames_or mode None frames = Ok (mode, frames)
frames_or mode (Some fault) frames = Err fault

-- what the line `end` ends
abbrev pub closed_kept : ContentKept → Option Mode → LineStep ContentKept (Result (Mode × List Frame) RasterFault)
closed_kept k (Some mode) = closes (frames_or mode k.fault k.frames)
closed_kept k None = wrong Order

abbrev pub kept_step_by : Option ListCause → ContentLine → ContentKept → LineStep ContentKept (Result (Mode × List Frame) RasterFault)
kept_step_by (Some cause) form k = wrong cause
kept_step_by None end_line k = closed_kept k k.mode
kept_step_by None (mode_line mode) k = tells (with_kept (mode_line mode) k)
kept_step_by None (row_line bytes) k = tells (with_kept (row_line bytes) k)
kept_step_by None (frame_line width height) k = tells (with_kept (frame_line width height) k)
kept_step_by None (packet_line packet) k = tells (with_kept (packet_line packet) k)
kept_step_by None (sample_line sample) k = tells (with_kept (sample_line sample) k)
kept_step_by None fault_line k = tells k
kept_step_by None no_line k = tells k

unfoldable pub kept_step : ContentKept → List ℕ → LineStep ContentKept (Result (Mode × List Frame) RasterFault)
kept_step k line = kept_step_by (kept_cause k (content_form_of line)) (content_form_of line) k

-- so many lines at least said this
abbrev pub kept_lines : ContentKept → ℕ
kept_lines k = k.count + k.rows + k.packets + pending k.samples

-- ---- what it stands for

abbrev pub fault_in : Option Mode → List Frame → Option RasterFault
fault_in None frames = None
fault_in (Some mode) frames = raster_fault mode frames

-- what is kept of what the lines said
abbrev pub kept_of : ContentDraft → ContentKept
kept_of draft = record {
  mode = draft.mode;
  fault = fault_in draft.mode draft.frames;
  count = length draft.frames;
  rows = length draft.current.rows;
  packets = length draft.current.packets;
  frames = unless_fault (fault_in draft.mode draft.frames) draft.frames [];
  current = kept_frame (fault_in draft.mode draft.frames) draft.current;
  samples = draft.samples;
}

-- a content, or why it has no raster
abbrev pub rastered : Mode × List Frame → Result (Mode × List Frame) RasterFault
rastered reported = frames_or reported.0 (raster_fault reported.0 reported.1) reported.1

-- what is read of a text, made into something else
abbrev pub read_by : {T U : Type 0} → (T → U) → Read T → Read U
read_by make (accepts reported) = accepts (make reported)
read_by make (refuses line cause) = refuses line cause
