use Rattle.std.proofs.Common.{arith, ◌≡◌, ℕ, ◌+◌, ◌*◌, ◌/◌, ◌%◌, ◌<◌, ◌≤◌, ◌++◌, Bool, List, length, ap, ◌∙◌, length-append}
use Rattle.tmds_word.specs.Column.{Column}
use Rattle.tmds_word.specs.Words.{all_words, columns_of}
use Rattle.tmds_word.specs.Bits.{bytes_bits}
use Rattle.tmds_word.proofs.Lists.{length-bytes_bits}
use Rattle.capture_file.proofs.Columns.{columns-packed, count_of_columns}
use Rattle.capture_file.proofs.lanes.LaneRowsColumnSink.packed.Goals as goal

room_for : (blue green red : List Bool) (columns : List Column) (n : ℕ) → columns_of (all_words blue) (all_words green) (all_words red) ≡ columns
    → length green ≡ length blue → length red ≡ length blue → length blue % 10 ≡ 0 → n % 5 ≡ 0 → length columns + n / 5 * 4 ≤ 429496729 → length blue + 8 * n < 4294967296
room_for blue green red columns n is e f whole fives few = omega (arith, count_of_columns blue green red e f, ap length is)

longer : (row now : List Bool) (bytes : List ℕ) → now ≡ row ++ bytes_bits bytes → length now ≡ length row + 8 * length bytes
longer row now bytes e = ap length e ∙ length-append row (bytes_bits bytes) ∙ ap (λ n. length row + n) (length-bytes_bits bytes)

pub push_packed-requires-clause-room : goal.push_packed-requires-clause-room
push_packed-requires-clause-room c =
    let i = c.self.invariant in
    room_for c.self.inside.blue c.self.inside.green c.self.inside.red c.args.self.now.columns (length c.args.blue.now) (ap (λ s. s.columns) c.self.view_is) i.green i.red i.whole c.requires.fives c.requires.room

pub invariant_of-self : goal.invariant_of-self
invariant_of-self c = grind (arith, longer, room_for)

pub returns-in-Ok-clause-ok : goal.returns-in-Ok-clause-ok
returns-in-Ok-clause-ok c = grind (arith, columns-packed)
