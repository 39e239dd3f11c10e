use Rattle.std.proofs.Common.{◌≡◌, ◌+◌, ◌*◌, ◌<◌, ◌^◌, List, ◌++◌, map, take}
use Rattle.source_end.specs.Raster.{Part, row_line, laid, total}
use Rattle.source_end.specs.Lines.{left}
use Rattle.source_end.specs.Gathering.{size, Has}
use Rattle.source_end.proofs.lines.row_lines.Given as goal

abbrev pub invariant-loop-i : goal.invariant-loop-i
invariant-loop-i l = record {
  rest : l.rest ≡ left l.mode (map row_line (take l.i l.rows)) l.packets;
  parts : (parts : List Part) → Has l.initial.out parts → size parts + l.i * total l.mode.across < 2 ^ 32 → Has l.out (parts ++ laid l.mode (map row_line (take l.i l.rows)) l.packets);
}
