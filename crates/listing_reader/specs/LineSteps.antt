-- What a text reads as, line by line: its first wrong line and the first cause of it, or what the line `end` ends. What a
-- line does after the lines before it is a step; the steps of a listing are its own.
use Rattle.std.specs.Prelude.{ℕ, ◌+◌, Bool, true, false, List, [], ◌∷◌, length, nat_le}
use Rattle.listing_reader.specs.declared.fault.ListCause.{ListCause}
use Rattle.listing_reader.specs.declared.fault.ListCause.TheVariants.{Long, Unended, After}

pub data Read (T : Type 0) : Type 0 where
  accepts : T → Read T
  refuses : ℕ → ListCause → Read T

-- what a line does: it gives something, it ends what was given, or it is wrong
pub data LineStep (D T : Type 0) : Type 0 where
  tells : D → LineStep D T
  closes : T → LineStep D T
  wrong : ListCause → LineStep D T

-- a text has at most 4,294,967,295 bytes; its end is the last cause that is tried
abbrev pub within_text : {D T : Type 0} → Bool → LineStep D T → LineStep D T
within_text true step = step
within_text false (tells reported) = wrong Long
within_text false (closes reported) = wrong Long
within_text false (wrong cause) = wrong cause

-- line n, which the input ends in: it lacks its line feed
abbrev pub cut_short : {D T : Type 0} → ℕ → List ℕ → LineStep D T → Read T
cut_short n [] step = refuses n Unended
cut_short n (c ∷ line) (tells reported) = refuses n Unended
cut_short n (c ∷ line) (closes reported) = refuses n Unended
cut_short n (c ∷ line) (wrong cause) = refuses n cause

-- nothing may follow the line `end`; n is the number of the line after it
abbrev pub ended_by : {T : Type 0} → ℕ → T → List (List ℕ) → Read T
ended_by n reported ([] ∷ []) = accepts reported
ended_by n reported _ = refuses n After

-- line n does this step; `rest` reads the lines after it
abbrev pub steps_on : {D T : Type 0} → ℕ → List (List ℕ) → (D → Read T) → LineStep D T → Read T
steps_on n after rest (tells reported) = rest reported
steps_on n after rest (closes reported) = ended_by (n + 1) reported after
steps_on n after rest (wrong cause) = refuses n cause

-- the lines from line n on, `at` bytes after the text's beginning, after what those before said
unfoldable pub read_lines : {D T : Type 0} → (D → List ℕ → LineStep D T) → ℕ → ℕ → D → List (List ℕ) → Read T
read_lines step n at reported [] = refuses n Unended
read_lines step n at reported (line ∷ []) = cut_short n line (within_text (nat_le (at + length line) 4294967295) (step reported line))
read_lines step n at reported (line ∷ (next ∷ more)) =
    steps_on n (next ∷ more) (λ now. read_lines step (n + 1) (at + length line + 1) now (next ∷ more))
    (within_text (nat_le (at + length line + 1) 4294967295) (step reported line))
