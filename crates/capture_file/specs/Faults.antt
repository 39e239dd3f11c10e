-- A failed read.
use Rattle.std.specs.Prelude.{ℕ}
use Rattle.outside_io.specs.Causes.{Rose}
use Rattle.capture_file.specs.declared.fault.CaptureError.{CaptureError}
use Rattle.capture_file.specs.declared.fault.CaptureError.TheVariants.{Bad, Read}

-- a read failed only where the count of faults rose
abbrev pub IsCaused : ℕ → ℕ → CaptureError → Type 0
IsCaused before now Read = Rose before now
IsCaused before now (Bad fault) = Unit {0}
