use Rattle.std.proofs.Common.{◌≡◌, ◌≤◌, ◌+◌, ◌-◌, drop, length}
use Rattle.std.specs.List.{prefix_len}
use Rattle.tmds_word.specs.Column.{column_of}
use Rattle.tmds_word.specs.Lent.{columns_in}
use Rattle.period_grammar.specs.GoesOn.{is_alike}
use Rattle.period_grammar.proofs.control.count_alike.Given as goal

abbrev pub invariant-loop-at : goal.invariant-loop-at
invariant-loop-at l = record {
  in_range : l.at ≤ length (columns_in l.columns);
  alike : prefix_len (is_alike (column_of l.other)) (columns_in l.columns) ≡ l.at + prefix_len (is_alike (column_of l.other)) (drop l.at (columns_in l.columns));
}

abbrev pub decreases-loop-at : goal.decreases-loop-at
decreases-loop-at l = length (columns_in l.columns) - l.at
