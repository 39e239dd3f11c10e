use Rattle.std.proofs.Common.{◌≡◌, length, take, replicate}
use Rattle.column_rows.proofs.rows.fill.Given as goal

abbrev pub invariant-loop-i : goal.invariant-loop-i
invariant-loop-i l = record {
  size : length l.row ≡ length l.fn.row;
  words : take l.i l.row ≡ replicate l.i l.word;
}
