use Rattle.std.proofs.Common.{◌∙◌, ap, sym, arith, length-drop}
use Rattle.tmds_word.specs.Bits.{bytes_bits, number}
use Rattle.lane_align.proofs.Controls.{window_here}
use Rattle.lane_deskew.proofs.Columns.{no_window}
use Rattle.relock_sink.proofs.Fronts.{ten_lent}
use Rattle.relock_sink.proofs.columns.lent_word.Goals as goal

pub returns-then-from : goal.returns-then-from
returns-then-from c = λ xs lent.
    let short = c.if-from.true in
    let many = lent.many in
    let after = c.requires.after in
    sym (no_window xs c.args.place (omega (arith, c.from.ensures, length-drop c.args.base xs)))

pub returns : goal.returns
returns c = λ xs lent.
    let long = c.if-from.false in
    let many = lent.many in
    let after = c.requires.after in
    sym (window_here xs c.args.place c.word_at.result (λ short. omega (arith, c.from.ensures, length-drop c.args.base xs))
    (c.word_at.ensures ∙ ap number (ten_lent (bytes_bits c.args.lane.bytes.now) xs c.args.lane.skip c.args.base c.args.lane.count c.args.place lent.bits after (omega (arith, c.from.ensures)))))
