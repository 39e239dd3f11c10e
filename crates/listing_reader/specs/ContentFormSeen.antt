-- How what is seen in a line of a content listing shows its form.
use Rattle.std.specs.Prelude.{◌≡◌, ℕ, ◌%◌, Bool, true, false, List, length, take, Option, Some, None}
use Rattle.audio_packets.specs.Samples.{IsSample}
use Rattle.audio_packets.specs.declared.sample.Sample.{Sample as SeenSample}
use Rattle.hex.specs.Hex.{decode_of}
use Rattle.listing_reader.specs.ContentForms.{ContentLine, mode_line, row_by, frame_line, packet_line, sample_line, end_line, fault_line, no_line, numbers_form, hex_field, payload_form}
use Rattle.listing_reader.specs.declared.content_form.ContentForm.{ContentForm as Seen}
use Rattle.listing_reader.specs.declared.content_form.ContentForm.TheVariants.{Mode, Row, Frame, Packet, Sample, End, Fault, Other}

-- what follows `row `, six bytes a pixel: whether they are digits, only their decoding shows
pub record IsRow (digits : List ℕ) (form : ContentLine) : Type 0 where
  pub pixels : length digits % 6 ≡ 0
  pub reported : form ≡ row_by true (decode_of digits)

-- what is seen shows this form
abbrev pub IsContentForm : Seen → ContentLine → Type 0
IsContentForm (Mode mode) form = form ≡ mode_line mode
IsContentForm (Row digits) form = IsRow digits.now form
IsContentForm (Frame width height) form = form ≡ frame_line width height
IsContentForm (Packet packet) form = form ≡ packet_line packet
IsContentForm (Sample sample) form = form ≡ sample_line sample
IsContentForm End form = form ≡ end_line
IsContentForm Fault form = form ≡ fault_line
IsContentForm Other form = form ≡ no_line

-- a sample that is seen fits its bits
abbrev pub SampleFits : Option SeenSample → Type 0
SampleFits None = Unit {0}
SampleFits (Some s) = IsSample s

abbrev pub IsFit : Seen → Type 0
IsFit (Sample sample) = SampleFits sample
IsFit (Mode mode) = Unit {0}
IsFit (Row digits) = Unit {0}
IsFit (Frame width height) = Unit {0}
IsFit (Packet packet) = Unit {0}
IsFit End = Unit {0}
IsFit Fault = Unit {0}
IsFit Other = Unit {0}

-- whether all fields are so many numbers, and which
abbrev pub IsNumbers : List ℕ → ℕ → List ℕ → Bool → Type 0
IsNumbers rest count ns true = (form : List ℕ → ContentLine) → numbers_form count form rest ≡ form ns
IsNumbers rest count ns false = (form : List ℕ → ContentLine) → numbers_form count form rest ≡ no_line

-- the bytes that digits are, or that they are none
abbrev pub IsHexField : List ℕ → List ℕ → Bool → Type 0
IsHexField digits bytes true = (form : List ℕ → ContentLine) → hex_field digits form ≡ form bytes
IsHexField digits bytes false = (form : List ℕ → ContentLine) → hex_field digits form ≡ no_line

-- the payload of a raw InfoFrame, which so many of the bytes are, or that there is none
abbrev pub IsPayload : List ℕ → List ℕ → Option ℕ → Type 0
IsPayload rest bytes None = (form : List ℕ → ContentLine) → payload_form rest form ≡ no_line
IsPayload rest bytes (Some n) = (form : List ℕ → ContentLine) → payload_form rest form ≡ form (take n bytes)

-- the same of digits, an odd number of them perhaps
abbrev pub IsHexPart : List ℕ → List ℕ → Option ℕ → Type 0
IsHexPart digits bytes None = (form : List ℕ → ContentLine) → hex_field digits form ≡ no_line
IsHexPart digits bytes (Some n) = (form : List ℕ → ContentLine) → hex_field digits form ≡ form (take n bytes)
