use Rattle.std.proofs.Common.{◌≤◌, ◌+◌, ◌-◌}
use Rattle.biphase_listing.specs.Groups.{most_frames}
use Rattle.biphase_listing.specs.Reading.{HasListed}
use Rattle.outside_io.proofs.Consumed.{Takes}
use Rattle.biphase_listing.proofs.reading.list_biphase.Given as goal

abbrev pub invariant-loop : goal.invariant-loop
invariant-loop g l = record {
  few : l.frames.count ≤ most_frames;
  listed :
      HasListed (g.S.Source.left l.initial.input) (g.S.Source.left l.input) (g.K.Sink.held l.initial.output) (g.K.Sink.held l.output) l.frames.blocks l.frames.count;
  taken : Takes (g.S.Source.left l.initial.input) (g.S.Source.left l.input);
  input_later : g.S.Source.faults l.initial.input ≤ g.S.Source.faults l.input;
  output_later : g.K.Sink.faults l.initial.output ≤ g.K.Sink.faults l.output;
}

abbrev pub decreases-loop : goal.decreases-loop
decreases-loop g l = most_frames + 256 - l.frames.count
