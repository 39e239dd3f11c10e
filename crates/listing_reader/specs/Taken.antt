-- How the answers for a line fit what the line does.
use Rattle.std.specs.Prelude.{◌≡◌, ℕ, ◌+◌, ◌≤◌, Result, Ok, Err}
use Rattle.listing_reader.specs.declared.fault.ListError.{ListError}
use Rattle.listing_reader.specs.declared.fault.ListError.TheVariants.{Bad, Read as read_failed, NoMemory as out_of_memory}
use Rattle.listing_reader.specs.declared.teller.Refusal.{Refusal}
use Rattle.listing_reader.specs.declared.teller.Refusal.TheVariants.{Cause, NoMemory}
use Rattle.listing_reader.specs.declared.teller.Taken.{Taken}
use Rattle.listing_reader.specs.declared.teller.Taken.TheVariants.{More, End}
use Rattle.listing_reader.specs.LineSteps.{LineStep, tells, closes, wrong}

-- a line that is taken gives or ends what it should, and one that is refused is wrong, but for want of memory
abbrev pub Takes : {D T : Type 0} → LineStep D T → Result (Taken D T) Refusal → Type 0
Takes does (Ok (More reported)) = does ≡ tells reported
Takes does (Ok (End reported)) = does ≡ closes reported
Takes does (Err (Cause cause)) = does ≡ wrong cause
Takes does (Err NoMemory) = Unit {0}

-- the same of line n; nothing is read for it
abbrev pub TakesLine : {D T : Type 0} → ℕ → LineStep D T → Result (Taken D T) ListError → Type 0
TakesLine n does (Ok (More reported)) = does ≡ tells reported
TakesLine n does (Ok (End reported)) = does ≡ closes reported
TakesLine n does (Err (Bad fault)) = (fault.line ≡ n) × (does ≡ wrong fault.cause)
TakesLine n does (Err read_failed) = ⊥
TakesLine n does (Err out_of_memory) = Unit {0}

-- the line is one more of those that gave what is given now
abbrev pub CountsLine : {D T : Type 0} → (D → ℕ) → ℕ → Taken D T → Type 0
CountsLine lines before (More reported) = lines reported ≤ before + 1
CountsLine lines before (End reported) = Unit {0}

-- the answer for line n that was refused
abbrev pub RefusedAs : ℕ → Refusal → ListError → Type 0
RefusedAs line (Cause cause) error = error ≡ Bad (record { line = line; cause = cause })
RefusedAs line NoMemory error = error ≡ out_of_memory
