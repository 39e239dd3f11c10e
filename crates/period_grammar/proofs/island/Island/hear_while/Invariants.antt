use Rattle.std.proofs.Common.{◌≡◌, ◌≤◌, ◌+◌, ◌-◌, ◌++◌, List, length, take, drop}
use Rattle.tmds_word.specs.Column.{Column}
use Rattle.tmds_word.specs.Lent.{columns_in}
use Rattle.period_grammar.specs.GoesOn.{count_in_island}
use Rattle.period_grammar.specs.IslandAfter.{IsIslandAfter, IsBlocked}
use Rattle.period_grammar.proofs.island.Island.hear_while.Given as goal

abbrev pub invariant-loop-at : goal.invariant-loop-at
invariant-loop-at l = record {
  in_range : l.at ≤ length (columns_in l.columns);
  blocked : IsBlocked l.self;
  packets : l.self.packets ≡ l.initial.self.packets;
  placed : l.self.within ≤ l.initial.self.within + l.at;
  count : (rest : List Column) → IsIslandAfter l.initial.self rest → count_in_island rest (columns_in l.columns) ≡ l.at + count_in_island (rest ++ take l.at (columns_in l.columns)) (drop l.at (columns_in l.columns));
  heard : (rest : List Column) → IsIslandAfter l.initial.self rest → IsIslandAfter l.self (rest ++ take l.at (columns_in l.columns));
}

abbrev pub decreases-loop-at : goal.decreases-loop-at
decreases-loop-at l = length (columns_in l.columns) - l.at
