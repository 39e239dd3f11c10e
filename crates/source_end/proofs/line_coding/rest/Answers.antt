use Rattle.std.proofs.Common.{arith, rules, ◌≡◌, ◌/◌, ℕ, List, length, take, replicate}
use Rattle.std.proofs.lemmas.Slice.{take-put_mid}
use borrow.Rule.Slice.PartMut.{put_mid}
use Rattle.tmds_word.specs.Words.{columns_of}
use Rattle.island_pack.specs.Periods.{pixels_of}
use Rattle.source_end.proofs.Spellings.{length-pixels_of}
use Rattle.source_end.proofs.LineCodings.{block_coded}
use Rattle.source_end.proofs.Fronts.{on_err, front_of_coded}
use Rattle.source_end.proofs.line_coding.rest.Goals as goal

written : (n w : ℕ) (ws : List ℕ) → length ws ≡ n → take n (put_mid 0 n (replicate 4 w) ws) ≡ ws
written n w ws e = take-put_mid 0 n (replicate 4 w) ws n (omega (arith, e)) (omega arith)

pub returns-clause-ok : goal.returns-clause-ok
returns-clause-ok g c =
    let n = length c.args.bytes.now / 3 in
    let w = c.of-none.result in
    let code = c.code_each-after in
    let blue : length code.new.blue_words ≡ n = search rules in
    let green : length code.new.green_words ≡ n = search rules in
    let red : length code.new.red_words ≡ n = search rules in
    let size : length code.new.blue_words ≡ length (pixels_of c.args.bytes.now) = omega (arith, blue, length-pixels_of c.args.bytes.now) in (
      columns_of (take n (put_mid 0 n (replicate 4 w) code.new.blue_words)) (take n (put_mid 0 n (replicate 4 w) code.new.green_words)) (take n (put_mid 0 n (replicate 4 w) code.new.red_words)),
      c.in_ok-columns.ensures.ok,
      block_coded c.args.coders.blue c.args.coders.green c.args.coders.red (pixels_of c.args.bytes.now) code.result.blue code.result.green code.result.red code.new.blue_words code.new.green_words code.new.red_words
          _ _ _ (written n w code.new.blue_words blue) (written n w code.new.green_words green) (written n w code.new.red_words red) (omega (arith, blue, green)) (omega (arith, blue, red)) size
          code.ensures.blue code.ensures.green code.ensures.red,
    )

pub returns-in_err-columns-clause-part : goal.returns-in_err-columns-clause-part
returns-in_err-columns-clause-part g c =
    let n = length c.args.bytes.now / 3 in
    let w = c.of-none.result in
    let code = c.code_each-after in
    let cut = c.in_err-columns.ensures.part in
    let blue : length code.new.blue_words ≡ n = search rules in
    let green : length code.new.green_words ≡ n = search rules in
    let red : length code.new.red_words ≡ n = search rules in
    let size : length code.new.blue_words ≡ length (pixels_of c.args.bytes.now) = omega (arith, blue, length-pixels_of c.args.bytes.now) in
    on_err c.from_residual.result
    (front_of_coded (g.C.ColumnSink.taken c.args.out.now) (g.C.ColumnSink.taken c.columns.new.self)
    (columns_of (take n (put_mid 0 n (replicate 4 w) code.new.blue_words)) (take n (put_mid 0 n (replicate 4 w) code.new.green_words)) (take n (put_mid 0 n (replicate 4 w) code.new.red_words)))
    c.args.coders.blue c.args.coders.green c.args.coders.red (pixels_of c.args.bytes.now) code.result.blue code.result.green code.result.red cut.0 cut.1
    (block_coded c.args.coders.blue c.args.coders.green c.args.coders.red (pixels_of c.args.bytes.now) code.result.blue code.result.green code.result.red code.new.blue_words code.new.green_words code.new.red_words
    _ _ _ (written n w code.new.blue_words blue) (written n w code.new.green_words green) (written n w code.new.red_words red) (omega (arith, blue, green)) (omega (arith, blue, red)) size
    code.ensures.blue code.ensures.green code.ensures.red))
