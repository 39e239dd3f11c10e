use Rattle.std.proofs.Common.{◌<◌, All}
use Rattle.capture_file_tests.proofs.tests.hits_of.Given as goal

abbrev pub invariant-loop-word : goal.invariant-loop-word
invariant-loop-word l = All (λ h. h.lane < 3) l.hits.items
