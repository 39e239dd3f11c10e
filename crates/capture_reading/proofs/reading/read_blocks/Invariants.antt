use Rattle.std.proofs.Common.{◌≡◌, ◌≤◌, ◌-◌, true, ℕ, List, Option}
use Rattle.capture_file.specs.Captures.{CanSay}
use Rattle.capture_reading.specs.Reading.{AreFed, HasHeard}
use Rattle.outside_io.proofs.Consumed.{Takes}
use Rattle.capture_reading.proofs.reading.read_blocks.Given as goal

abbrev pub invariant-loop : goal.invariant-loop
invariant-loop g l = record {
  goes_on : g.K.BlockSink.is_open l.sink ≡ true;
  more : l.reader.is_open ≡ true;
  same : l.reader.source.ghost_name ≡ l.initial.reader.source.ghost_name;
  said : CanSay l.reader.version l.reader.bits;
  fed : AreFed (g.K.BlockSink.bits l.sink) l.reader.bits l.reader.block;
  heard : (from : Option (List ℕ)) (first : g.row.E.Denot) → HasHeard g.K.BlockSink.heard l.initial.reader.version l.initial.reader.bits l.initial.reader.block from (g.S.Source.left l.initial.reader.source.now) l.initial.sink first l.initial.ear
      → HasHeard g.K.BlockSink.heard l.reader.version l.reader.bits l.reader.block from (g.S.Source.left l.reader.source.now) l.sink first l.ear;
  taken : Takes (g.S.Source.left l.initial.reader.source.now) (g.S.Source.left l.reader.source.now);
  input_later : g.S.Source.faults l.initial.reader.source.now ≤ g.S.Source.faults l.reader.source.now;
  ear_later : g.K.BlockSink.faults l.initial.ear ≤ g.K.BlockSink.faults l.ear;
}

abbrev pub decreases-loop : goal.decreases-loop
decreases-loop g l = 131072 - l.reader.block
