use Rattle.std.proofs.Common.{arith, ◌≡◌, ℕ, ◌+◌, ◌%◌, ◌<◌, ◌++◌, Bool, List, length, ap, ◌∙◌, length-append}
use Rattle.tmds_word.specs.Column.{Column}
use Rattle.tmds_word.specs.Words.{all_words, columns_of}
use Rattle.tmds_word.specs.Bits.{word_bits}
use Rattle.tmds_word.proofs.Lists.{length-word_bits}
use Rattle.capture_file.proofs.Columns.{columns-push, count_of_columns}
use Rattle.capture_file.proofs.lanes.LaneRowsColumnSink.column.Goals as goal

room_for : (blue green red : List Bool) (columns : List Column) → columns_of (all_words blue) (all_words green) (all_words red) ≡ columns
    → length green ≡ length blue → length red ≡ length blue → length blue % 10 ≡ 0 → length columns < 429496729 → length blue + 10 < 4294967296
room_for blue green red columns is e f whole few = omega (arith, count_of_columns blue green red e f, ap length is)

longer : (row now : List Bool) (w : ℕ) → now ≡ row ++ word_bits w → length now ≡ length row + 10
longer row now w e = ap length e ∙ length-append row (word_bits w) ∙ ap (λ n. length row + n) (length-word_bits w)

pub push_column-requires-clause-room : goal.push_column-requires-clause-room
push_column-requires-clause-room c =
    let i = c.self.invariant in
    room_for c.self.inside.blue c.self.inside.green c.self.inside.red c.args.self.now.columns (ap (λ s. s.columns) c.self.view_is) i.green i.red i.whole c.requires

pub invariant_of-self : goal.invariant_of-self
invariant_of-self c = grind (arith, longer, room_for)

pub returns-in-Ok-clause-ok : goal.returns-in-Ok-clause-ok
returns-in-Ok-clause-ok c = grind (arith, columns-push)
