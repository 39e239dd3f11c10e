-- What a line leaves of a text to read, whatever a line does.
use Rattle.std.proofs.Common.{◌≡◌, ℕ, ◌+◌, ◌≤◌, List, [], ◌++◌, length, ap, sym, subst, ◌∙◌}
use Rattle.std.specs.Prelude.{Option, Some, None, Result, Ok, Err, nat_le}
use Rattle.listing_reader.specs.declared.fault.ListCause.TheVariants.{After}
use Rattle.listing_reader.specs.declared.fault.ListError.{ListError}
use Rattle.listing_reader.specs.declared.fault.ListError.TheVariants.{Bad, Read as read_failed, NoMemory as out_of_memory}
use Rattle.listing_reader.specs.declared.lines.Piece.{Piece}
use Rattle.listing_reader.specs.declared.lines.Piece.TheVariants.{Line, Last, Long as Long_piece}
use Rattle.listing_reader.specs.declared.teller.Taken.{Taken}
use Rattle.listing_reader.specs.declared.teller.Taken.TheVariants.{More, End}
use Rattle.listing_reader.specs.Lines.{pieces_of}
use Rattle.listing_reader.specs.LineSteps.{Read, accepts, refuses, LineStep, within_text, cut_short, ended_by, steps_on, read_lines}
use Rattle.listing_reader.specs.Answers.{Answers}
use Rattle.listing_reader.specs.Held.{Held, IsEnded, IsRest, IsTooLong, IsNext}
use Rattle.listing_reader.specs.Leaves.{Leaves, LeavesTo}
use Rattle.listing_reader.specs.Taken.{TakesLine}
use Rattle.listing_reader.proofs.LineReads.{line_does, last_does, long_does, nothing_after, something_after, pending_after}

-- ---- what a line leaves

module _ {D T : Type 0} (step : D → List ℕ → LineStep D T) (n at : ℕ) (reported : D) where
  line_to : (upto : ℕ) (reading : Read T) (ahead : List (List ℕ)) (does : LineStep D T) (result : Result (Taken D T) ListError) → reading ≡ steps_on n ahead (λ now. read_lines step (n + 1) upto now ahead) does
      → TakesLine n does result → LeavesTo step n upto reading ahead result
  line_to upto reading ahead does (Ok (More now)) is takes = is ∙ ap (steps_on n ahead (λ now. read_lines step (n + 1) upto now ahead)) takes
  line_to upto reading ahead does (Ok (End now)) is takes = is ∙ ap (steps_on n ahead (λ now. read_lines step (n + 1) upto now ahead)) takes
  line_to upto reading ahead does (Err (Bad fault)) is takes =
      is ∙ ap (steps_on n ahead (λ now. read_lines step (n + 1) upto now ahead)) takes.1 ∙ ap (λ (m : ℕ). refuses m fault.cause) (sym takes.0)
  line_to upto reading ahead does (Err read_failed) is takes = tt
  line_to upto reading ahead does (Err out_of_memory) is takes = tt

  -- a line that its line feed ends
  pub leaves_line : (left rest : Option (List ℕ)) (before now : Held) (upto : ℕ) (result : Result (Taken D T) ListError) → IsEnded left rest before now → upto ≡ at + length now.line + 1
      → TakesLine n (within_text (nat_le upto 4294967295) (step reported now.line)) result → Leaves step n at reported left rest before now result
  leaves_line None rest before now upto result is size takes = tt
  leaves_line (Some left) None before now upto result is size takes = absurd is.given
  leaves_line (Some left) (Some rest) before now upto result is size takes =
      let ends = at + length now.line + 1 in
      line_to ends _ (pieces_of (now.pending ++ rest)) (within_text (nat_le ends 4294967295) (step reported now.line)) result
      (line_does step n at reported left rest before now is)
      (subst (λ (u : ℕ). TakesLine n (within_text (nat_le u 4294967295) (step reported now.line)) result) size takes)

  same_reading : (reading other : Read T) (error : ListError) → reading ≡ other → Answers other (Err error) → Answers reading (Err error)
  same_reading reading other error same answers = subst (λ (r : Read T). Answers r (Err error)) (sym same) answers

  -- the line that the input ends in
  pub leaves_last : (left rest : Option (List ℕ)) (before now : Held) (error : ListError) → IsRest left rest before now
      → Answers (cut_short n now.line (within_text (nat_le (at + length now.line) 4294967295) (step reported now.line))) (Err error) → Leaves step n at reported left rest before now (Err error)
  leaves_last None rest before now error is answers = tt
  leaves_last (Some left) None before now error is answers = absurd is.given
  leaves_last (Some left) (Some rest) before now error is answers = same_reading _ _ error (last_does step n at reported left rest before now is) answers

  -- the first bytes of a line that is too long
  pub leaves_long : (left rest : Option (List ℕ)) (before now : Held) (error : ListError) → IsTooLong left rest before now
      → ((more : List ℕ) → TakesLine n (step reported (now.line ++ more)) (Err error)) → Leaves step n at reported left rest before now (Err error)
  leaves_long None rest before now error is takes = tt
  leaves_long (Some left) None before now error is takes = absurd is.given
  leaves_long (Some left) (Some rest) before now (Bad fault) is takes =
      long_does step n at reported left rest before now fault.cause is (λ more. (takes more).1) ∙ ap (λ (m : ℕ). refuses m fault.cause) (sym (takes []).0)
  leaves_long (Some left) (Some rest) before now read_failed is takes = tt
  leaves_long (Some left) (Some rest) before now out_of_memory is takes = tt

-- ---- what follows the line `end`

module _ {T : Type 0} (n : ℕ) (reported : T) where
  after : (reading : Read T) (error : ListError) → reading ≡ refuses n After → error ≡ Bad (record { line = n; cause = After }) → Answers reading (Err error)
  after reading error is e = subst (λ (x : ListError). Answers reading (Err x)) (sym e) is

  -- a byte that was read and not yet given
  pub finish_pending : (left : List ℕ) (before : Held) (error : ListError) → 1 ≤ length before.pending → error ≡ Bad (record { line = n; cause = After })
      → Answers (ended_by n reported (pieces_of (before.pending ++ left))) (Err error)
  finish_pending left before error some e = after _ error (pending_after n reported before.pending left some) e

  given_some : (left : List ℕ) (before now : Held) (piece : Piece) → IsNext (Some left) None before now piece → ⊥
  given_some left before now Line is = is.given
  given_some left before now Last is = is.given
  given_some left before now Long_piece is = is.given

  -- what is read then
  pub finish_after : (left : List ℕ) (rest : Option (List ℕ)) (before now : Held) (piece : Piece) (error : ListError) → IsNext (Some left) rest before now piece → (piece ≡ Last → 1 ≤ length now.line)
      → error ≡ Bad (record { line = n; cause = After }) → Answers (ended_by n reported (pieces_of (before.pending ++ left))) (Err error)
  finish_after left None before now piece error is some e = absurd (given_some left before now piece is)
  finish_after left (Some rest) before now piece error is some e = after _ error (something_after n reported left rest before now piece is some) e

  -- nothing
  pub finish_nothing : (left : List ℕ) (rest : Option (List ℕ)) (before now : Held) → IsRest (Some left) rest before now → now.line ≡ [] → ended_by n reported (pieces_of (before.pending ++ left)) ≡ accepts reported
  finish_nothing left None before now is empty = absurd is.given
  finish_nothing left (Some rest) before now is empty = nothing_after n reported left rest before now is empty

-- ---- a whole text

module _ {D T : Type 0} (step : D → List ℕ → LineStep D T) where
  -- what is read from line n on
  abbrev pub IsReadFrom : Read T → ℕ → ℕ → D → Option (List ℕ) → Held → Type 0
  IsReadFrom reading n at reported left held = (rest : List ℕ) × (left ≡ Some rest) × (reading ≡ read_lines step n at reported (pieces_of (held.pending ++ rest)))
