-- The numbers of what a call answers, and what it answers where a reader ends so.
use Rattle.std.specs.Prelude.{ℤ, pos, Bool, true, false}
use Rattle.capture_commands.specs.declared.ending.Ending.{Ending}
use Rattle.capture_commands.specs.declared.ending.Ending.TheVariants as ends
use Rattle.c_capture.specs.declared.status.ListingStatus.{ListingStatus}
use Rattle.c_capture.specs.declared.status.ListingStatus.TheVariants.{Done, Full, Misuse, NoMemory, Faulty, NoCapture, Unaligned, NoListing}

abbrev pub code_of : ListingStatus → ℤ
code_of Done = pos 0
code_of Full = pos 1
code_of Misuse = pos 2
code_of NoMemory = pos 4
code_of Faulty = pos 5
code_of NoCapture = pos 6
code_of Unaligned = pos 7
code_of NoListing = pos 8

abbrev pub status_of : Ending → ListingStatus
status_of ends.Done = Done
status_of ends.Faulty = Faulty
status_of (ends.Capture fault) = NoCapture
status_of ends.Unaligned = Unaligned
status_of _ = NoMemory

-- all was listed that there is to list
abbrev pub has_text : ListingStatus → Bool
has_text Done = true
has_text Faulty = true
has_text NoCapture = true
has_text Unaligned = true
has_text _ = false
