use Rattle.std.proofs.Common.{◌≡◌, ◌+◌, ◌*◌, ◌≤◌, ◌++◌, length}
use Rattle.std.specs.Io.KnownBytes.{Appends}
use Rattle.capture_file.specs.Layout.{packed, blocks_below}
use Rattle.capture_file.specs.Captures.{header_of}
use Rattle.capture_file.specs.Taps.{row_part}
use Rattle.capture_file.proofs.writing.write_rows.Given as goal

abbrev pub invariant-loop-j : goal.invariant-loop-j
invariant-loop-j g l = record {
  gone : l.gone ≡ length (header_of l.version l.bits ++ blocks_below l.j (packed (row_part l.blue l.starts l.bits 0)) (packed (row_part l.green l.starts l.bits 1)) (packed (row_part l.red l.starts l.bits 2)));
  few : l.gone ≤ 16 + 12288 * l.j;
  grew : Appends (g.K.Sink.held l.fn.out) (g.K.Sink.held l.out)
      (header_of l.version l.bits ++ blocks_below l.j (packed (row_part l.blue l.starts l.bits 0)) (packed (row_part l.green l.starts l.bits 1)) (packed (row_part l.red l.starts l.bits 2)));
  later : g.K.Sink.faults l.fn.out ≤ g.K.Sink.faults l.out;
}
