-- What a line leaves of a text to read.
use Rattle.std.specs.Prelude.{◌≡◌, ℕ, ◌+◌, ◌*◌, ◌≤◌, List, ◌++◌, length, Option, Some, None, Result, Ok, Err}
use Rattle.listing_reader.specs.declared.fault.ListError.{ListError}
use Rattle.listing_reader.specs.declared.teller.Taken.{Taken}
use Rattle.listing_reader.specs.declared.teller.Taken.TheVariants.{More, End}
use Rattle.listing_reader.specs.Lines.{pieces_of}
use Rattle.listing_reader.specs.LineSteps.{Read, LineStep, ended_by, read_lines}
use Rattle.listing_reader.specs.Answers.{Answers}
use Rattle.listing_reader.specs.Held.{Held}

-- `reading` is what is read from before line n, which ends after `upto` bytes of the text; `ahead` are the
-- lines after it
abbrev pub LeavesTo : {D T : Type 0} → (D → List ℕ → LineStep D T) → ℕ → ℕ → Read T → List (List ℕ) → Result (Taken D T) ListError → Type 0
LeavesTo step n upto reading ahead (Ok (More reported)) = reading ≡ read_lines step (n + 1) upto reported ahead
LeavesTo step n upto reading ahead (Ok (End reported)) = reading ≡ ended_by (n + 1) reported ahead
LeavesTo step n upto reading ahead (Err error) = Answers reading (Err error)

-- Where the bytes of the source are known, before and after line n, which begins `at` bytes after the text's beginning
abbrev pub Leaves : {D T : Type 0} → (D → List ℕ → LineStep D T) → ℕ → ℕ → D → Option (List ℕ) → Option (List ℕ) → Held → Held → Result (Taken D T) ListError → Type 0
Leaves step n at reported (Some left) (Some rest) before now result =
    LeavesTo step n (at + length now.line + 1) (read_lines step n at reported (pieces_of (before.pending ++ left))) (pieces_of (now.pending ++ rest)) result
Leaves step n at reported (Some left) None before now result = ⊥
Leaves step n at reported None rest before now result = Unit {0}

-- line n begins `at` bytes after the text's beginning: each line before it has a byte at least beside its line feed, and
-- they are no more bytes than a text may have
pub record IsPlace (n at : ℕ) : Type 0 where
  pub first : 1 ≤ n
  pub lines : 2 * n ≤ at + 2
  pub short : at ≤ 4294967295
