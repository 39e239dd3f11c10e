-- The one line that the program writes on standard error for each status from 2 on.
use Rattle.std.specs.Prelude.{ℕ, List, ◌++◌, codes, decimal}
use Rattle.biphase_listing.specs.declared.fault.BiphaseFault.{BiphaseFault}
use Rattle.biphase_listing.specs.declared.fault.BiphaseFault.TheVariants as frames
use Rattle.capture_file.specs.declared.fault.CaptureFault.{CaptureFault}
use Rattle.capture_file.specs.declared.fault.CaptureFault.TheVariants.{Magic, Version, Short, Padding, Trailing}
use Rattle.source_end.specs.declared.refusal.RasterFault.{RasterFault}
use Rattle.source_end.specs.declared.refusal.RasterFault.TheVariants.{BadMode, Row, NoRoom, Long, NoMemory}
use Rattle.listing_reader.specs.declared.fault.ListCause.{ListCause}
use Rattle.listing_reader.specs.declared.fault.ListCause.TheVariants.{Fault, Form, Range, Order, Control, Preamble, Size, Long as LongText, Unended, After}

abbrev pub cause_name : ListCause → List ℕ
cause_name Fault = codes "fault"
cause_name Form = codes "form"
cause_name Range = codes "range"
cause_name Order = codes "order"
cause_name Control = codes "control"
cause_name Preamble = codes "preamble"
cause_name Size = codes "size"
cause_name LongText = codes "long"
cause_name Unended = codes "unended"
cause_name After = codes "after"

abbrev pub listing_note : ℕ → ListCause → List ℕ
listing_note line cause = codes "input: line " ++ decimal line ++ codes " " ++ cause_name cause ++ codes "\n"

abbrev pub capture_name : CaptureFault → List ℕ
capture_name (Magic place) = codes "magic "
capture_name (Version found) = codes "version "
capture_name (Short place) = codes "short "
capture_name (Padding place) = codes "padding "
capture_name (Trailing place) = codes "trailing "

-- the place, or the version that was found
abbrev pub capture_number : CaptureFault → ℕ
capture_number (Magic place) = place
capture_number (Version found) = found
capture_number (Short place) = place
capture_number (Padding place) = place
capture_number (Trailing place) = place

abbrev pub capture_note : CaptureFault → List ℕ
capture_note fault = codes "input: " ++ capture_name fault ++ decimal (capture_number fault) ++ codes "\n"

-- the number of the hit that passes the capture's end
abbrev pub place_note : ℕ → List ℕ
place_note i = codes "input: place " ++ decimal i ++ codes "\n"

-- more than 20,000,000 columns
abbrev pub long_note : List ℕ
long_note = codes "input: long\n"

-- why bytes are no list of frames
abbrev pub frames_note : BiphaseFault → List ℕ
frames_note (frames.Subframe n) = codes "input: subframe " ++ decimal n ++ codes "\n"
frames_note frames.Long = long_note
frames_note (frames.Short n) = codes "input: short " ++ decimal n ++ codes "\n"

-- why a content has no raster in its mode: the number of the mode that is out of range, the first packet that has no room,
-- or that there are too many columns. A row that does not fit is refused before, by its line
abbrev pub raster_note : RasterFault → List ℕ
raster_note (BadMode i) = codes "input: mode " ++ decimal i ++ codes "\n"
raster_note (Row frame row) = codes "input: row " ++ decimal frame ++ codes " " ++ decimal row ++ codes "\n"
raster_note (NoRoom frame packet) = codes "input: noroom " ++ decimal frame ++ codes " " ++ decimal packet ++ codes "\n"
raster_note Long = long_note
raster_note NoMemory = codes "out of memory\n"

abbrev pub usage_note : List ℕ
usage_note = codes "usage: make, recover, check, damage or sample\n"

abbrev pub read_note : List ℕ
read_note = codes "read failed\n"

abbrev pub write_note : List ℕ
write_note = codes "write failed\n"

abbrev pub memory_note : List ℕ
memory_note = codes "out of memory\n"

abbrev pub alignment_note : List ℕ
alignment_note = codes "no alignment\n"
