use Rattle.std.proofs.Common.{◌≡◌, ◌≤◌, ◌+◌, ◌*◌, ℕ, length, take, replicate, min, get_or, refl, arith, rules}
use Rattle.std.proofs.lemmas.Grind.{get_or_default_zero}
use Rattle.tmds_word.specs.Column.{column_of}
use Rattle.tmds_word.specs.Words.{packed_columns}
use Rattle.source_end.proofs.LineCodings.{run_on, equal_packed}
use Rattle.source_end.proofs.Fronts.{on_err, run_cut}
use Rattle.source_end.proofs.spell.fours.Goals as goal

pub loop-i-preserved : goal.loop-i-preserved
loop-i-preserved g c =
    let words = c.args.words in
    let three : length words ≡ 3 = search (rules, c.well_formed.0) in
    let x = c.index-words-0.result in
    let y = c.index-words-1.result in
    let z = c.index-words-2.result in
    let m = c.min.result in
    let size = 5 * m in
    let le : m ≤ c.min-most.result = omega (arith, c.min.ensures, c.min-most.ensures, c.loop-i-test.true, c.div_ceil-i-end.ensures) in
    let own = packed_columns (take size c.equal-blue.result) (take size c.equal-green.result) (take size c.equal-red.result) in
    record {
      taken =
          run_on (g.C.ColumnSink.taken c.args.out.now) (g.C.ColumnSink.taken c.loop-i.out) (g.C.ColumnSink.taken c.packed.new.self) own (column_of words) (4 * min c.args.count (16 * c.loop-i.i)) (4 * m) (4 * min c.args.count (16 * (c.loop-i.i + 1)))
          c.loop-i.invariant.taken c.in_ok-packed.ensures.ok
          (equal_packed c.equal-blue.result c.equal-green.result c.equal-red.result size m (get_or words 0 0) (get_or words 1 0) (get_or words 2 0) (get_or words 0 x) (get_or words 1 y) (get_or words 2 z) refl
          (get_or_default_zero words 0 x (omega (arith, three))) (get_or_default_zero words 1 y (omega (arith, three))) (get_or_default_zero words 2 z (omega (arith, three)))
          (c.equal-blue.ensures m le) (c.equal-green.ensures m le) (c.equal-red.ensures m le))
          (omega (arith, c.min.ensures, c.loop-i-test.true, c.div_ceil-i-end.ensures));
      later = omega (arith, c.loop-i.invariant.later, c.in_ok-packed.ensures.cause.later);
    }

pub returns-in_err-packed-clause-part : goal.returns-in_err-packed-clause-part
returns-in_err-packed-clause-part g c =
    let words = c.args.words in
    let three : length words ≡ 3 = search (rules, c.well_formed.0) in
    let x = c.index-words-0.result in
    let y = c.index-words-1.result in
    let z = c.index-words-2.result in
    let m = c.min.result in
    let size = 5 * m in
    let le : m ≤ c.min-most.result = omega (arith, c.min.ensures, c.min-most.ensures, c.loop-i-test.true, c.div_ceil-i-end.ensures) in
    let cut = c.in_err-packed.ensures.part in
    let own = packed_columns (take size c.equal-blue.result) (take size c.equal-green.result) (take size c.equal-red.result) in
    on_err c.from_residual.result
    (run_cut (g.C.ColumnSink.taken c.args.out.now) (g.C.ColumnSink.taken c.loop-i.out) (g.C.ColumnSink.taken c.packed.new.self) own (column_of words) (4 * min c.args.count (16 * c.loop-i.i)) (4 * m) (4 * c.args.count) cut.0
    c.loop-i.invariant.taken cut.1
    (equal_packed c.equal-blue.result c.equal-green.result c.equal-red.result size m (get_or words 0 0) (get_or words 1 0) (get_or words 2 0) (get_or words 0 x) (get_or words 1 y) (get_or words 2 z) refl
    (get_or_default_zero words 0 x (omega (arith, three))) (get_or_default_zero words 1 y (omega (arith, three))) (get_or_default_zero words 2 z (omega (arith, three)))
    (c.equal-blue.ensures m le) (c.equal-green.ensures m le) (c.equal-red.ensures m le))
    (omega (arith, c.min.ensures, c.loop-i-test.true, c.div_ceil-i-end.ensures)))
