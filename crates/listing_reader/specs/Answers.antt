-- How an answer of a reader fits what the text reads as.
use Rattle.std.specs.Prelude.{◌≡◌, ℕ, Result, Ok, Err}
use Rattle.outside_io.specs.Causes.{Rose}
use Rattle.listing_reader.specs.declared.fault.ListError.{ListError}
use Rattle.listing_reader.specs.declared.fault.ListError.TheVariants.{Bad, Read as read_failed, NoMemory}
use Rattle.listing_reader.specs.LineSteps.{Read, accepts, refuses}

-- what is given is that of the whole text, or the fault is the text's
abbrev pub Answers : {T : Type 0} → Read T → Result T ListError → Type 0
Answers reading (Ok reported) = reading ≡ accepts reported
Answers reading (Err (Bad fault)) = reading ≡ refuses fault.line fault.cause
Answers reading (Err read_failed) = Unit {0}
Answers reading (Err NoMemory) = Unit {0}

-- a read failed only where the count of faults rose
abbrev pub IsCaused : ℕ → ℕ → ListError → Type 0
IsCaused before now read_failed = Rose before now
IsCaused before now (Bad fault) = Unit {0}
IsCaused before now NoMemory = Unit {0}
