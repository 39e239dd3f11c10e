use Rattle.std.proofs.Common.{◌≡◌, ◌-◌, ◌%◌, ◌≤◌, true}
use Rattle.link_sink.specs.Streams.{bits_fed}
use Rattle.link_tests.proofs.links.endless.feed_over.Given as goal

abbrev pub invariant-loop-fed : goal.invariant-loop-fed
invariant-loop-fed l = record {
  open_still : l.sink.is_open ≡ true;
  whole : l.fed % 8 ≡ 0;
  most : l.fed ≤ 4297632000;
  blue : bits_fed l.sink 0 ≡ l.fed;
  green : bits_fed l.sink 1 ≡ l.fed;
  red : bits_fed l.sink 2 ≡ l.fed;
}

abbrev pub decreases-loop-fed : goal.decreases-loop-fed
decreases-loop-fed l = 4297600000 - l.fed
