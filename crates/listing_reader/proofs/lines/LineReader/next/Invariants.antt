use Rattle.std.proofs.Common.{◌-◌, ◌≤◌, length, take, IsTrue}
use Rattle.std.specs.Io.KnownBytes.{Keeps}
use Rattle.listing_reader.specs.Held.{ahead, is_feedless}
use Rattle.outside_io.proofs.Consumed.{Takes}
use Rattle.listing_reader.proofs.lines.LineReader.next.Given as goal

abbrev pub invariant-reads : goal.invariant-reads
invariant-reads g l = record {
  kept : Keeps (ahead l.initial.self (g.S.Source.left l.initial.source)) (ahead l.self (g.S.Source.left l.source));
  taken : Takes (g.S.Source.left l.initial.source) (g.S.Source.left l.source);
  passed : l.searched ≤ length l.self.pending;
  short : l.searched ≤ 32768;
  feedless : IsTrue (is_feedless (take l.searched l.self.pending));
  later : g.S.Source.faults l.initial.source ≤ g.S.Source.faults l.source;
}

abbrev pub decreases-reads : goal.decreases-reads
decreases-reads g l = 65536 - length l.self.pending
