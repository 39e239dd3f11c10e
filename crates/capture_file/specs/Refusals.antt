-- What a function that reads a header says where it gives up.
use Rattle.std.specs.Prelude.{ℕ}
use Rattle.outside_io.specs.Causes.{Rose}
use Rattle.capture_file.specs.declared.fault.CaptureError.{CaptureError}
use Rattle.capture_file.specs.declared.fault.CaptureError.TheVariants as errors
use Rattle.capture_file.specs.declared.damaging.DamageError.{DamageError}
use Rattle.capture_file.specs.declared.damaging.DamageError.TheVariants.{Bad, Place, Read, Write}

-- the same refusal as one of damage
abbrev pub refused : CaptureError → DamageError
refused (errors.Bad fault) = Bad fault
refused errors.Read = Read

-- a read failed only where the count of faults rose, and nothing was written
abbrev pub IsReadCause : ℕ → ℕ → DamageError → Type 0
IsReadCause before now (Bad fault) = Unit {0}
IsReadCause before now (Place i) = Unit {0}
IsReadCause before now Read = Rose before now
IsReadCause before now Write = ⊥
