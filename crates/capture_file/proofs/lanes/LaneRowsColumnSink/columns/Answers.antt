use Rattle.std.proofs.Common.{arith, ◌≡◌, ℕ, ◌+◌, ◌*◌, ◌%◌, ◌<◌, ◌≤◌, ◌++◌, Bool, List, length, ap, ◌∙◌, length-append}
use Rattle.tmds_word.specs.Column.{Column}
use Rattle.tmds_word.specs.Words.{all_words, columns_of}
use Rattle.tmds_word.specs.Bits.{row_bits}
use Rattle.tmds_word.proofs.Lists.{length-row_bits}
use Rattle.capture_file.proofs.Columns.{columns-more, count_of_columns}
use Rattle.capture_file.proofs.lanes.LaneRowsColumnSink.columns.Goals as goal

room_for : (blue green red : List Bool) (columns : List Column) (n : ℕ) → columns_of (all_words blue) (all_words green) (all_words red) ≡ columns
    → length green ≡ length blue → length red ≡ length blue → length blue % 10 ≡ 0 → length columns + n ≤ 429496729 → length blue + 10 * n < 4294967296
room_for blue green red columns n is e f whole few = omega (arith, count_of_columns blue green red e f, ap length is)

longer : (row now : List Bool) (ws : List ℕ) → now ≡ row ++ row_bits ws → length now ≡ length row + 10 * length ws
longer row now ws e = ap length e ∙ length-append row (row_bits ws) ∙ ap (λ n. length row + n) (length-row_bits ws)

pub push_columns-requires-clause-room : goal.push_columns-requires-clause-room
push_columns-requires-clause-room c =
    let i = c.self.invariant in
    room_for c.self.inside.blue c.self.inside.green c.self.inside.red c.args.self.now.columns (length c.args.blue.now) (ap (λ s. s.columns) c.self.view_is) i.green i.red i.whole c.requires.room

pub invariant_of-self : goal.invariant_of-self
invariant_of-self c =
    let i = c.self.invariant in
    let e = c.in-Ok.ensures in
    let blue = longer c.self.inside.blue c.push_columns.new.blue c.args.blue.now e.blue_ok in
    let green = longer c.self.inside.green c.push_columns.new.green c.args.green.now e.green_ok in
    let red = longer c.self.inside.red c.push_columns.new.red c.args.red.now e.red_ok in
    let room = room_for c.self.inside.blue c.self.inside.green c.self.inside.red c.args.self.now.columns (length c.args.blue.now) (ap (λ s. s.columns) c.self.view_is) i.green i.red i.whole c.requires.room in
    record {
      whole = omega (arith, blue, i.whole);
      short = omega (arith, blue, room);
      green = omega (arith, blue, green, i.green, c.requires.green);
      red = omega (arith, blue, red, i.red, c.requires.red);
      counted = i.counted;
    }

pub returns-in-Ok-clause-ok : goal.returns-in-Ok-clause-ok
returns-in-Ok-clause-ok c = grind (arith, columns-more)
