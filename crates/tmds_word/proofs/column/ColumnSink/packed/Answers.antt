use Rattle.std.proofs.Common.{arith, ◌≡◌, ◌++◌, ◌∙◌, ap, length, take}
use Rattle.tmds_word.specs.Bits.{bytes_bits}
use Rattle.tmds_word.specs.Words.{all_words, packed_columns}
use Rattle.tmds_word.proofs.Lanes.{column_after, columns_all}
use Rattle.tmds_word.proofs.Eights.{count_in_bytes}
use Rattle.tmds_word.proofs.column.ColumnSink.packed.Goals as goal

pub loop-i-preserved : goal.loop-i-preserved
loop-i-preserved g c =
    let was = c.loop-i.invariant in
    let blue = c.args.blue.now in
    let green = c.args.green.now in
    let red = c.args.red.now in
    record {
      in_range = omega (arith, c.loop-i-test.true);
      taken =
          column_after (all_words (bytes_bits blue)) (all_words (bytes_bits green)) (all_words (bytes_bits red)) (g.Self.ColumnSink.taken c.args.self.now) (g.Self.ColumnSink.taken c.loop-i.self) (g.Self.ColumnSink.taken c.column.new.self) c.loop-i.i
          c.word_at.result c.word_at-in-loop-i.result c.word_at-in-loop-i-2.result 0 0 0
          (omega (arith, count_in_bytes blue, count_in_bytes green, c.requires.green)) (omega (arith, count_in_bytes blue, count_in_bytes red, c.requires.red)) (omega (arith, count_in_bytes blue, c.loop-i-test.true))
          was.taken c.in_ok-column.ensures.ok c.word_at.ensures c.word_at-in-loop-i.ensures c.word_at-in-loop-i-2.ensures;
      later = omega (arith, was.later, c.in_ok-column.ensures.cause.later);
    }

pub returns-clause-ok : goal.returns-clause-ok
returns-clause-ok g c =
    let columns = packed_columns c.args.blue.now c.args.green.now c.args.red.now in
    let words = all_words (bytes_bits c.args.blue.now) in
    let last : c.loop-i.i ≡ length words = omega (arith, count_in_bytes c.args.blue.now, c.requires.fives, c.loop-i-test.false, c.loop-i.auto.i-end) in
    c.loop-i.invariant.taken
    ∙ ap (λ n. g.Self.ColumnSink.taken c.args.self.now ++ take n columns) last
    ∙ ap (λ cs. g.Self.ColumnSink.taken c.args.self.now ++ cs) (columns_all words (all_words (bytes_bits c.args.green.now)) (all_words (bytes_bits c.args.red.now)))
