use Rattle.std.proofs.Common.{◌≡◌, ◌≤◌}
use Rattle.word_tests.proofs.tests.coding.are_judged.Given as goal

abbrev pub invariant-loop-word : goal.invariant-loop-word
invariant-loop-word l = (l.judge.count ≡ l.count) × (l.count ≤ 12)
