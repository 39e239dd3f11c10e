use Rattle.std.proofs.Common.{◌≡◌, ◌+◌, ◌*◌, ◌<◌, ◌^◌, List, ◌++◌, replicate}
use Rattle.source_end.specs.Raster.{Part, blank, laid, total}
use Rattle.source_end.specs.Lines.{left}
use Rattle.source_end.specs.Gathering.{size, Has}
use Rattle.source_end.proofs.lines.blank_lines.Given as goal

abbrev pub invariant-loop : goal.invariant-loop
invariant-loop l = record {
  rest : l.rest ≡ left l.mode (replicate l.counter (blank l.vsync)) l.packets;
  parts : (parts : List Part) → Has l.initial.out parts → size parts + l.counter * total l.mode.across < 2 ^ 32 → Has l.out (parts ++ laid l.mode (replicate l.counter (blank l.vsync)) l.packets);
}
