-- Which of the lines of `Notes` a run writes, by its status.
use Rattle.std.specs.Prelude.{◌≡◌, ◌⊎◌, ℕ, List, [], Option, Some}
use Rattle.capture_commands.specs.Notes.{usage_note, read_note, write_note, memory_note, alignment_note}
use Rattle.capture_commands.specs.Outcome.{RunOutcome, IsOutcome}

-- what the notes are to grow by, for the words, what the input had left, and the status
pub record IsNoteOf (words : List (List ℕ)) (left : Option (List ℕ)) (status : ℕ) (note : List ℕ) : Type 0 where
  pub done : (status ≡ 0) ⊎ (status ≡ 1) → note ≡ []
  pub usage : status ≡ 2 → note ≡ usage_note
  pub refused : status ≡ 3 → (text : List ℕ) → left ≡ Some text → (o : RunOutcome) × IsOutcome words text o × (o.status ≡ 3) × (note ≡ o.note)
  pub read_failed : status ≡ 4 → note ≡ read_note
  pub write_failed : status ≡ 5 → note ≡ write_note
  pub no_memory : status ≡ 6 → note ≡ memory_note
  pub unaligned : status ≡ 7 → note ≡ alignment_note
