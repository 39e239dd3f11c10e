use Rattle.std.proofs.Common.{◌≡◌, ◌+◌, false}
use Rattle.link_tests.proofs.dvi.hear_times.Given as goal

abbrev pub invariant-loop-k : goal.invariant-loop-k
invariant-loop-k l = record {
  columns : l.hearing.columns ≡ l.initial.hearing.columns + l.k;
  finished : l.hearing.finished ≡ false;
}
