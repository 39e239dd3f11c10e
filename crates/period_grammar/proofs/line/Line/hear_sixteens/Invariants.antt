use Rattle.std.proofs.Common.{◌≡◌, ◌≤◌, ◌+◌, ◌-◌, ◌++◌, All, List, take, true}
use Rattle.tmds_word.specs.Column.{Column}
use Rattle.tmds_word.specs.Lent.{columns_in}
use Rattle.period_grammar.specs.Pixels.{is_pixel}
use Rattle.period_grammar.specs.Lines.{IsLineAfter}
use Rattle.period_grammar.proofs.line.Line.hear_sixteens.Given as goal

abbrev pub invariant-loop-at : goal.invariant-loop-at
invariant-loop-at l = record {
  in_range : l.at ≤ l.fits;
  counted : l.self.count ≡ l.initial.self.count + l.at;
  pixels : All (λ c. is_pixel c ≡ true) (take l.at (columns_in l.columns));
  heard : (pixels : List Column) → IsLineAfter l.initial.self pixels → IsLineAfter l.self (pixels ++ take l.at (columns_in l.columns));
}

abbrev pub decreases-loop-at : goal.decreases-loop-at
decreases-loop-at l = l.fits - l.at
