-- What each clause of a run says, from how the run ended.
use Rattle.std.proofs.Common.{◌≡◌, ◌⊎◌, ℕ, zero, suc, true, false, not, ◌==◌, List, [], ◌∷◌, refl, ap, sym, ◌∙◌, subst, inl, inr, arith, eq-eqb}
use Rattle.std.specs.Prelude.{Option, None, Some, Result, Ok, IfOk, MatchOption, Contains}
use Rattle.std.specs.List.{list_all}
use Rattle.std.specs.Io.KnownBytes.{Appends, IsAtEnd, Keeps}
use Rattle.outside_io.specs.Causes.{Rose}
use Rattle.outside_io.specs.declared.NoMemory.{NoMemory as NoMemoryAnswer}
use Rattle.command_line.specs.Commands.{IsCommand}
use Rattle.command_line.proofs.OneCommand.{command_once}
use Rattle.capture_commands.specs.Notes.{usage_note, memory_note}
use Rattle.capture_commands.specs.Outcome.{RunOutcome, IsOutcome, NamesNone}
use Rattle.capture_commands.specs.Manners.{ReadsInput, WritesLast, WritesOn}
use Rattle.capture_commands.specs.Endings.{Devices, Answers, Ends, RunEnds, RunReadFailed, RunWriteFailed, status_of, note_of}
use Rattle.hdmi_cli.specs.RunNotes.{IsNoteOf}
use Rattle.capture_commands.specs.Samples.{SampleEnds, IsSampleWritten}
use Rattle.capture_commands.proofs.Answered.{keeps_itself, sample_answers}
use Rattle.command_line.specs.declared.command.Command.{Command}
use Rattle.command_line.specs.declared.command.Command.TheVariants.{Sample}
use Rattle.capture_commands.specs.declared.ending.Ending.{Ending}
use Rattle.capture_commands.specs.declared.ending.Ending.TheVariants.{Done, Faulty, Usage, Listing, Raster, Capture, Place, Frames, TooLong, ReadFailed, WriteFailed, NoMemory, Unaligned}

-- all that a run says of its status and its note
pub record Says (words : List (List ℕ)) (before after : Devices) (status : ℕ) (note : List ℕ) : Type 0 where
  pub status_known : Contains (0 ∷ 1 ∷ 2 ∷ 3 ∷ 4 ∷ 5 ∷ 6 ∷ 7 ∷ []) status
  pub outcome :
      (text : List ℕ) → before.left ≡ Some text
      → Rose before.input_faults after.input_faults ⊎ Rose before.output_faults after.output_faults ⊎ (status ≡ 6)
      ⊎ ((o : RunOutcome) × IsOutcome words text o × (status ≡ o.status))
  pub usage : status ≡ 2 → NamesNone words
  pub unnamed : NamesNone words → (status ≡ 2) ⊎ (status ≡ 6)
  pub done :
      Contains (0 ∷ 1 ∷ 3 ∷ 7 ∷ []) status → (text : List ℕ) → before.left ≡ Some text
      → (o : RunOutcome) × IsOutcome words text o × (o.status ≡ status) × Appends before.held after.held o.output
  pub read_failed : status ≡ 4 → Rose before.input_faults after.input_faults
  pub write_failed : status ≡ 5 → Rose before.output_faults after.output_faults
  pub memory : status ≡ 6 → (command : Command) → IsCommand words command → WritesOn command → Keeps before.left after.left
  pub ended : ((n : ℕ) → IsCommand words (Sample n) → ⊥) → Contains (0 ∷ 1 ∷ 7 ∷ []) status → IsAtEnd after.left
  pub unread : status ≡ 2 → Keeps before.left after.left
  pub unwritten : Contains (2 ∷ 6 ∷ 7 ∷ []) status → Keeps before.held after.held
  pub refused : status ≡ 3 → (command : Command) → IsCommand words command → WritesLast command → Keeps before.held after.held
  pub cut_short : status ≡ 4 → RunReadFailed words before after
  pub part : status ≡ 5 → RunWriteFailed words before after
  pub sampled : (n : ℕ) → IsCommand words (Sample n) → Keeps before.left after.left × IsSampleWritten n status before.held after.held
  pub noted : IsNoteOf words before.left status note

-- what an ending with an outcome says
answered : (words : List (List ℕ)) (command : Command) (e : Ending) (before after : Devices) → IsCommand words command → Answers command e before after
    → (text : List ℕ) → before.left ≡ Some text
    → (o : RunOutcome) × IsOutcome words text o × (o.status ≡ status_of e) × (o.note ≡ note_of e) × Appends before.held after.held o.output
answered words command e before after named answers text reported =
    let a = answers text reported in
    (a.outcome, inl (command, named, a.does), a.status, a.note, a.written)

known_at : (words : List (List ℕ)) (command : Command) (e : Ending) (before after : Devices) → IsCommand words command → Answers command e before after
    → (text : List ℕ) → before.left ≡ Some text
    → Rose before.input_faults after.input_faults ⊎ Rose before.output_faults after.output_faults ⊎ (status_of e ≡ 6)
    ⊎ ((o : RunOutcome) × IsOutcome words text o × (status_of e ≡ o.status))
known_at words command e before after named answers text reported =
    let a = answered words command e before after named answers text reported in
    inr (inr (inr (a.0, a.1, sym a.2)))

written_at : (words : List (List ℕ)) (command : Command) (e : Ending) (before after : Devices) → IsCommand words command → Answers command e before after
    → (text : List ℕ) → before.left ≡ Some text
    → (o : RunOutcome) × IsOutcome words text o × (o.status ≡ status_of e) × Appends before.held after.held o.output
written_at words command e before after named answers text reported =
    let a = answered words command e before after named answers text reported in
    (a.0, a.1, a.2, a.4)

noted_at : (words : List (List ℕ)) (command : Command) (e : Ending) (before after : Devices) → IsCommand words command → Answers command e before after
    → status_of e ≡ 3 → (text : List ℕ) → before.left ≡ Some text
    → (o : RunOutcome) × IsOutcome words text o × (o.status ≡ 3) × (note_of e ≡ o.note)
noted_at words command e before after named answers three text reported =
    let a = answered words command e before after named answers text reported in
    (a.0, a.1, a.2 ∙ three, sym a.3)

same : (x n : ℕ) → x ≡ n → (x == n) ≡ true
same x n is = eq-eqb x n is

unlike : (x n : ℕ) → (x == n) ≡ false → x ≡ n → ⊥
unlike x n other is = grind (arith, same)

rest_all : (x n : ℕ) (xs : List ℕ) → list_all (λ x. not (x == n)) (x ∷ xs) ≡ true → list_all (λ x. not (x == n)) xs ≡ true
rest_all x n xs all = grind arith

-- a status that is none of a list
none_of : (xs : List ℕ) (n : ℕ) → list_all (λ x. not (x == n)) xs ≡ true → Contains xs n → ⊥
none_of [] n all h = absurd (omega arith)
none_of (x ∷ xs) n all (zero, lt, is) = grind (arith, same)
none_of (x ∷ xs) n all (suc k, lt, is) = none_of xs n (rest_all x n xs all) (k, omega arith, is)

-- a status that is neither 0 nor 1
no_done : (n : ℕ) → (n == 0) ≡ false → (n == 1) ≡ false → (n ≡ 0) ⊎ (n ≡ 1) → ⊥
no_done n h k l = grind (arith, unlike)

-- a command that reads the input is no `sample`
no_sample : (words : List (List ℕ)) (command : Command) (n : ℕ) → IsCommand words command → ReadsInput command → IsCommand words (Sample n) → ⊥
no_sample words command n named reads other = subst ReadsInput (command_once words command (Sample n) named other) reads

same_frames : (m n : ℕ) → Sample m ≡ Sample n → m ≡ n
same_frames m n e = cc

-- the number of frames is given by the words
frames_are : (words : List (List ℕ)) (m n : ℕ) → IsCommand words (Sample m) → IsCommand words (Sample n) → m ≡ n
frames_are words m n one other = same_frames m n (command_once words (Sample m) (Sample n) one other)

-- what an ending says that refuses the input
refused_says : (words : List (List ℕ)) (command : Command) (e : Ending) (before after : Devices) → IsCommand words command → ReadsInput command → Answers command e before after
    → status_of e ≡ 3 → (WritesLast command → Keeps before.held after.held) → Says words before after (status_of e) (note_of e)
refused_says words command e before after named reads answers is kept = record {
  status_known = (3, omega arith, sym is);
  outcome = known_at words command e before after named answers;
  usage = λ h. absurd (omega (arith, is, h));
  unnamed = λ none. absurd (none command named);
  done = λ h. written_at words command e before after named answers;
  read_failed = λ h. absurd (omega (arith, is, h));
  write_failed = λ h. absurd (omega (arith, is, h));
  memory = λ h. absurd (omega (arith, is, h));
  ended = λ other h. absurd (none_of (0 ∷ 1 ∷ 7 ∷ []) (status_of e) (ap (λ n. list_all (λ m. not (m == n)) (0 ∷ 1 ∷ 7 ∷ [])) is) h);
  unread = λ h. absurd (omega (arith, is, h));
  unwritten = λ h. absurd (none_of (2 ∷ 6 ∷ 7 ∷ []) (status_of e) (ap (λ n. list_all (λ m. not (m == n)) (2 ∷ 6 ∷ 7 ∷ [])) is) h);
  refused = λ h again other last. kept (subst WritesLast (command_once words again command other named) last);
  cut_short = λ h. absurd (omega (arith, is, h));
  part = λ h. absurd (omega (arith, is, h));
  sampled = λ n other. absurd (no_sample words command n named reads other);
  noted = record { done = λ h. absurd (no_done (status_of e) (ap (λ n. n == 0) is) (ap (λ n. n == 1) is) h); usage = λ h. absurd (omega (arith, is, h)); refused = λ h. noted_at words command e before after named answers is; read_failed = λ h. absurd (omega (arith, is, h)); write_failed = λ h. absurd (omega (arith, is, h)); no_memory = λ h. absurd (omega (arith, is, h)); unaligned = λ h. absurd (omega (arith, is, h)) };
}

-- what a command's ending says
command_says : (words : List (List ℕ)) (command : Command) (e : Ending) (before after : Devices) → IsCommand words command → ReadsInput command → Ends command e before after → Says words before after (status_of e) (note_of e)
command_says words command Done before after named reads ends = record {
  status_known = (0, omega arith, refl);
  outcome = known_at words command Done before after named ends.1;
  usage = λ h. absurd (omega arith);
  unnamed = λ none. absurd (none command named);
  done = λ h. written_at words command Done before after named ends.1;
  read_failed = λ h. absurd (omega arith);
  write_failed = λ h. absurd (omega arith);
  memory = λ h. absurd (omega arith);
  ended = λ other h. ends.0;
  unread = λ h. absurd (omega arith);
  unwritten = λ h. absurd (none_of (2 ∷ 6 ∷ 7 ∷ []) 0 refl h);
  refused = λ h. absurd (omega arith);
  cut_short = λ h. absurd (omega arith);
  part = λ h. absurd (omega arith);
  sampled = λ n other. absurd (no_sample words command n named reads other);
  noted = record { done = λ h. refl; usage = λ h. absurd (omega arith); refused = λ h. absurd (omega arith); read_failed = λ h. absurd (omega arith); write_failed = λ h. absurd (omega arith); no_memory = λ h. absurd (omega arith); unaligned = λ h. absurd (omega arith) };
}
command_says words command Faulty before after named reads ends = record {
  status_known = (1, omega arith, refl);
  outcome = known_at words command Faulty before after named ends.1;
  usage = λ h. absurd (omega arith);
  unnamed = λ none. absurd (none command named);
  done = λ h. written_at words command Faulty before after named ends.1;
  read_failed = λ h. absurd (omega arith);
  write_failed = λ h. absurd (omega arith);
  memory = λ h. absurd (omega arith);
  ended = λ other h. ends.0;
  unread = λ h. absurd (omega arith);
  unwritten = λ h. absurd (none_of (2 ∷ 6 ∷ 7 ∷ []) 1 refl h);
  refused = λ h. absurd (omega arith);
  cut_short = λ h. absurd (omega arith);
  part = λ h. absurd (omega arith);
  sampled = λ n other. absurd (no_sample words command n named reads other);
  noted = record { done = λ h. refl; usage = λ h. absurd (omega arith); refused = λ h. absurd (omega arith); read_failed = λ h. absurd (omega arith); write_failed = λ h. absurd (omega arith); no_memory = λ h. absurd (omega arith); unaligned = λ h. absurd (omega arith) };
}
command_says words command (Listing fault) before after named reads ends = refused_says words command (Listing fault) before after named reads ends.1 refl (λ last. ends.0)
command_says words command (Raster fault) before after named reads ends = refused_says words command (Raster fault) before after named reads ends.1 refl (λ last. ends.0)
command_says words command (Capture fault) before after named reads ends = refused_says words command (Capture fault) before after named reads ends.1 refl ends.0
command_says words command (Place i) before after named reads ends = refused_says words command (Place i) before after named reads ends.1 refl (λ last. ends.0)
command_says words command (Frames fault) before after named reads ends = refused_says words command (Frames fault) before after named reads ends.1 refl ends.0
command_says words command TooLong before after named reads ends = refused_says words command TooLong before after named reads ends.1 refl (λ last. ends.0)
command_says words command Unaligned before after named reads ends = record {
  status_known = (7, omega arith, refl);
  outcome = known_at words command Unaligned before after named ends.2;
  usage = λ h. absurd (omega arith);
  unnamed = λ none. absurd (none command named);
  done = λ h. written_at words command Unaligned before after named ends.2;
  read_failed = λ h. absurd (omega arith);
  write_failed = λ h. absurd (omega arith);
  memory = λ h. absurd (omega arith);
  ended = λ other h. ends.0;
  unread = λ h. absurd (omega arith);
  unwritten = λ h. ends.1;
  refused = λ h. absurd (omega arith);
  cut_short = λ h. absurd (omega arith);
  part = λ h. absurd (omega arith);
  sampled = λ n other. absurd (no_sample words command n named reads other);
  noted = record { done = λ h. absurd (no_done 7 refl refl h); usage = λ h. absurd (omega arith); refused = λ h. absurd (omega arith); read_failed = λ h. absurd (omega arith); write_failed = λ h. absurd (omega arith); no_memory = λ h. absurd (omega arith); unaligned = λ h. refl };
}
command_says words command ReadFailed before after named reads ends = record {
  status_known = (4, omega arith, refl);
  outcome = λ text reported. inl ends.0;
  usage = λ h. absurd (omega arith);
  unnamed = λ none. absurd (none command named);
  done = λ h. absurd (none_of (0 ∷ 1 ∷ 3 ∷ 7 ∷ []) 4 refl h);
  read_failed = λ h. ends.0;
  write_failed = λ h. absurd (omega arith);
  memory = λ h. absurd (omega arith);
  ended = λ other h. absurd (none_of (0 ∷ 1 ∷ 7 ∷ []) 4 refl h);
  unread = λ h. absurd (omega arith);
  unwritten = λ h. absurd (none_of (2 ∷ 6 ∷ 7 ∷ []) 4 refl h);
  refused = λ h. absurd (omega arith);
  cut_short = λ h. (command, named, ends.1);
  part = λ h. absurd (omega arith);
  sampled = λ n other. absurd (no_sample words command n named reads other);
  noted = record { done = λ h. absurd (no_done 4 refl refl h); usage = λ h. absurd (omega arith); refused = λ h. absurd (omega arith); read_failed = λ h. refl; write_failed = λ h. absurd (omega arith); no_memory = λ h. absurd (omega arith); unaligned = λ h. absurd (omega arith) };
}
command_says words command WriteFailed before after named reads ends = record {
  status_known = (5, omega arith, refl);
  outcome = λ text reported. inr (inl ends.0);
  usage = λ h. absurd (omega arith);
  unnamed = λ none. absurd (none command named);
  done = λ h. absurd (none_of (0 ∷ 1 ∷ 3 ∷ 7 ∷ []) 5 refl h);
  read_failed = λ h. absurd (omega arith);
  write_failed = λ h. ends.0;
  memory = λ h. absurd (omega arith);
  ended = λ other h. absurd (none_of (0 ∷ 1 ∷ 7 ∷ []) 5 refl h);
  unread = λ h. absurd (omega arith);
  unwritten = λ h. absurd (none_of (2 ∷ 6 ∷ 7 ∷ []) 5 refl h);
  refused = λ h. absurd (omega arith);
  cut_short = λ h. absurd (omega arith);
  part = λ h. (command, named, ends.1);
  sampled = λ n other. absurd (no_sample words command n named reads other);
  noted = record { done = λ h. absurd (no_done 5 refl refl h); usage = λ h. absurd (omega arith); refused = λ h. absurd (omega arith); read_failed = λ h. absurd (omega arith); write_failed = λ h. refl; no_memory = λ h. absurd (omega arith); unaligned = λ h. absurd (omega arith) };
}
command_says words command NoMemory before after named reads ends = record {
  status_known = (6, omega arith, refl);
  outcome = λ text reported. inr (inr (inl refl));
  usage = λ h. absurd (omega arith);
  unnamed = λ none. absurd (none command named);
  done = λ h. absurd (none_of (0 ∷ 1 ∷ 3 ∷ 7 ∷ []) 6 refl h);
  read_failed = λ h. absurd (omega arith);
  write_failed = λ h. absurd (omega arith);
  memory = λ h again other reads_it. ends.1 (subst WritesOn (command_once words again command other named) reads_it);
  ended = λ other h. absurd (none_of (0 ∷ 1 ∷ 7 ∷ []) 6 refl h);
  unread = λ h. absurd (omega arith);
  unwritten = λ h. ends.0;
  refused = λ h. absurd (omega arith);
  cut_short = λ h. absurd (omega arith);
  part = λ h. absurd (omega arith);
  sampled = λ n other. absurd (no_sample words command n named reads other);
  noted = record { done = λ h. absurd (no_done 6 refl refl h); usage = λ h. absurd (omega arith); refused = λ h. absurd (omega arith); read_failed = λ h. absurd (omega arith); write_failed = λ h. absurd (omega arith); no_memory = λ h. refl; unaligned = λ h. absurd (omega arith) };
}
command_says words command Usage before after named reads ends = absurd ends

-- what stands where the words name no command
none_says : (words : List (List ℕ)) (before after : Devices) → NamesNone words → Keeps before.left after.left → Keeps before.held after.held → Says words before after 2 usage_note
none_says words before after none left held = record {
  status_known = (2, omega arith, refl);
  outcome = λ text reported. inr (inr (inr (record { status = 2; output = []; note = usage_note }, inr (none, refl), refl)));
  usage = λ h. none;
  unnamed = λ h. inl refl;
  done = λ h. absurd (none_of (0 ∷ 1 ∷ 3 ∷ 7 ∷ []) 2 refl h);
  read_failed = λ h. absurd (omega arith);
  write_failed = λ h. absurd (omega arith);
  memory = λ h. absurd (omega arith);
  ended = λ other h. absurd (none_of (0 ∷ 1 ∷ 7 ∷ []) 2 refl h);
  unread = λ h. left;
  unwritten = λ h. held;
  refused = λ h. absurd (omega arith);
  cut_short = λ h. absurd (omega arith);
  part = λ h. absurd (omega arith);
  sampled = λ n named. absurd (none (Sample n) named);
  noted = record { done = λ h. absurd (no_done 2 refl refl h); usage = λ h. refl; refused = λ h. absurd (omega arith); read_failed = λ h. absurd (omega arith); write_failed = λ h. absurd (omega arith); no_memory = λ h. absurd (omega arith); unaligned = λ h. absurd (omega arith) };
}

-- what stands where there was no memory to read the words
no_memory_says : (words : List (List ℕ)) (before after : Devices) → Keeps before.left after.left → Keeps before.held after.held → Says words before after 6 memory_note
no_memory_says words before after left held = record {
  status_known = (6, omega arith, refl);
  outcome = λ text reported. inr (inr (inl refl));
  usage = λ h. absurd (omega arith);
  unnamed = λ none. inr refl;
  done = λ h. absurd (none_of (0 ∷ 1 ∷ 3 ∷ 7 ∷ []) 6 refl h);
  read_failed = λ h. absurd (omega arith);
  write_failed = λ h. absurd (omega arith);
  memory = λ h again other reads_it. left;
  ended = λ other h. absurd (none_of (0 ∷ 1 ∷ 7 ∷ []) 6 refl h);
  unread = λ h. absurd (omega arith);
  unwritten = λ h. held;
  refused = λ h. absurd (omega arith);
  cut_short = λ h. absurd (omega arith);
  part = λ h. absurd (omega arith);
  sampled = λ n named. (left, inr (inr (refl, held)));
  noted = record { done = λ h. absurd (no_done 6 refl refl h); usage = λ h. absurd (omega arith); refused = λ h. absurd (omega arith); read_failed = λ h. absurd (omega arith); write_failed = λ h. absurd (omega arith); no_memory = λ h. refl; unaligned = λ h. absurd (omega arith) };
}

-- what a sample's ending says
sample_says : (words : List (List ℕ)) (frames : ℕ) (e : Ending) (before after : Devices) → IsCommand words (Sample frames) → Keeps before.left after.left
    → SampleEnds frames e before.held after.held before.output_faults after.output_faults → Says words before after (status_of e) (note_of e)
sample_says words frames Done before after named left ends = record {
  status_known = (0, omega arith, refl);
  outcome = known_at words (Sample frames) Done before after named (sample_answers frames before after ends);
  usage = λ h. absurd (omega arith);
  unnamed = λ none. absurd (none (Sample frames) named);
  done = λ h. written_at words (Sample frames) Done before after named (sample_answers frames before after ends);
  read_failed = λ h. absurd (omega arith);
  write_failed = λ h. absurd (omega arith);
  memory = λ h. absurd (omega arith);
  ended = λ other h. absurd (other frames named);
  unread = λ h. absurd (omega arith);
  unwritten = λ h. absurd (none_of (2 ∷ 6 ∷ 7 ∷ []) 0 refl h);
  refused = λ h. absurd (omega arith);
  cut_short = λ h. absurd (omega arith);
  part = λ h. absurd (omega arith);
  sampled = λ n other. (left, subst (λ (m : ℕ). IsSampleWritten m 0 before.held after.held) (frames_are words frames n named other) (inl (refl, ends)));
  noted = record { done = λ h. refl; usage = λ h. absurd (omega arith); refused = λ h. absurd (omega arith); read_failed = λ h. absurd (omega arith); write_failed = λ h. absurd (omega arith); no_memory = λ h. absurd (omega arith); unaligned = λ h. absurd (omega arith) };
}
sample_says words frames WriteFailed before after named left ends = record {
  status_known = (5, omega arith, refl);
  outcome = λ text reported. inr (inl ends.0);
  usage = λ h. absurd (omega arith);
  unnamed = λ none. absurd (none (Sample frames) named);
  done = λ h. absurd (none_of (0 ∷ 1 ∷ 3 ∷ 7 ∷ []) 5 refl h);
  read_failed = λ h. absurd (omega arith);
  write_failed = λ h. ends.0;
  memory = λ h. absurd (omega arith);
  ended = λ other h. absurd (other frames named);
  unread = λ h. absurd (omega arith);
  unwritten = λ h. absurd (none_of (2 ∷ 6 ∷ 7 ∷ []) 5 refl h);
  refused = λ h. absurd (omega arith);
  cut_short = λ h. absurd (omega arith);
  part = λ h. (Sample frames, named, ends.1);
  sampled = λ n other. (left, subst (λ (m : ℕ). IsSampleWritten m 5 before.held after.held) (frames_are words frames n named other) (inr (inl (refl, ends.1))));
  noted = record { done = λ h. absurd (no_done 5 refl refl h); usage = λ h. absurd (omega arith); refused = λ h. absurd (omega arith); read_failed = λ h. absurd (omega arith); write_failed = λ h. refl; no_memory = λ h. absurd (omega arith); unaligned = λ h. absurd (omega arith) };
}
sample_says words frames NoMemory before after named left ends = no_memory_says words before after left ends
sample_says words frames Faulty before after named left ends = absurd ends
sample_says words frames Usage before after named left ends = absurd ends
sample_says words frames (Listing fault) before after named left ends = absurd ends
sample_says words frames (Raster fault) before after named left ends = absurd ends
sample_says words frames (Capture fault) before after named left ends = absurd ends
sample_says words frames (Place i) before after named left ends = absurd ends
sample_says words frames (Frames fault) before after named left ends = absurd ends
sample_says words frames TooLong before after named left ends = absurd ends
sample_says words frames ReadFailed before after named left ends = absurd ends
sample_says words frames Unaligned before after named left ends = absurd ends

-- what a run says
pub says : (words : List (List ℕ)) (e : Ending) (before after : Devices) (r : ℕ) → RunEnds words e before after → r ≡ status_of e → Says words before after r (note_of e)
says words e before after r (inl (command, named, reads, ends, stops)) is = subst (λ s. Says words before after s (note_of e)) (sym is) (command_says words command e before after named reads ends)
says words e before after r (inr (inl (frames, named, left, ends))) is = subst (λ s. Says words before after s (note_of e)) (sym is) (sample_says words frames e before after named left ends)
says words e before after r (inr (inr (inl (none, usage, left, held)))) is =
    subst (λ s. Says words before after s (note_of e)) (sym (is ∙ ap status_of usage))
    (subst (λ n. Says words before after 2 n) (sym (ap note_of usage)) (none_says words before after none left held))
says words e before after r (inr (inr (inr (unheld, left, held)))) is =
    subst (λ s. Says words before after s (note_of e)) (sym (is ∙ ap status_of unheld))
    (subst (λ n. Says words before after 6 n) (sym (ap note_of unheld)) (no_memory_says words before after left held))

-- ---- which words name a command

-- what the reader of words answered, as words name it
pub line_of : (words : List (List ℕ)) (r : Result (Option Command) NoMemoryAnswer) (o : Option Command) (command : Command)
    → IfOk r (λ answer. MatchOption answer ((c : Command) → IsCommand words c → ⊥) (λ c. IsCommand words c)) → r ≡ Ok o → o ≡ Some command → IsCommand words command
line_of words r o command answer ok some =
    subst (λ (x : Option Command). MatchOption x ((c : Command) → IsCommand words c → ⊥) (λ c. IsCommand words c)) some
    (subst (λ (x : Result (Option Command) NoMemoryAnswer). IfOk x (λ answer. MatchOption answer ((c : Command) → IsCommand words c → ⊥) (λ c. IsCommand words c))) ok answer)

pub none_named_ends : (words : List (List ℕ)) (devices : Devices) (r : Result (Option Command) NoMemoryAnswer) (o : Option Command)
    → IfOk r (λ answer. MatchOption answer ((c : Command) → IsCommand words c → ⊥) (λ c. IsCommand words c)) → r ≡ Ok o → o ≡ None → RunEnds words Usage devices devices
none_named_ends words devices r o answer ok none = grind (arith, keeps_itself)
