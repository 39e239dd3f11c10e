use Rattle.std.proofs.Common.{ℕ, ◌<◌, get_or}
use Rattle.capture_file.proofs.lanes.know_all.Given as goal

abbrev pub invariant-loop-word : goal.invariant-loop-word
invariant-loop-word l = (i d : ℕ) → i < l.word-index → get_or l.words i d < 1024
