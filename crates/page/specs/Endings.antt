-- How the recovery of a capture ends.
use Rattle.std.specs.Prelude.{ℕ, zero, suc, Result, Ok, Err}
use Rattle.capture_reading.specs.declared.reading.ReadCaptureError.{ReadCaptureError}
use Rattle.capture_reading.specs.declared.reading.ReadCaptureError.TheVariants.{Bad, Read, Ear}
use Rattle.page.specs.declared.ending.Ending.{Ending}
use Rattle.page.specs.declared.ending.Ending.TheVariants.{Done, Faulty, NoCapture, ReadFailed, WriteFailed, Unaligned}

abbrev pub status_of : Ending → ℕ
status_of Done = 0
status_of Faulty = 1
status_of (NoCapture fault) = 3
status_of ReadFailed = 4
status_of WriteFailed = 5
status_of Unaligned = 7

-- how it ends where a capture was not read to its end
abbrev pub unheard_as : ReadCaptureError → Ending
unheard_as (Bad fault) = NoCapture fault
unheard_as Read = ReadFailed
unheard_as Ear = WriteFailed

-- how it ends where the last line was written, or not, after so many faults
abbrev pub judged_as : {E : Type 0} → Result (Unit {0}) E → ℕ → Ending
judged_as (Ok done) zero = Done
judged_as (Ok done) (suc n) = Faulty
judged_as (Err failed) n = WriteFailed
