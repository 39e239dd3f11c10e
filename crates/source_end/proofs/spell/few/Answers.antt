use Rattle.std.proofs.Common.{◌∷◌, [], replicate, sym, refl, arith, append-nil, length-append, ◌∙◌, ◌+◌}
use Rattle.std.proofs.lemmas.List.{length-replicate}
use Rattle.tmds_word.specs.Column.{column_of}
use Rattle.source_end.proofs.LineCodings.{run_on}
use Rattle.source_end.proofs.Fronts.{on_err, run_cut}
use Rattle.source_end.proofs.spell.few.Goals as goal

pub loop-preserved : goal.loop-preserved
loop-preserved g c =
    let column = column_of c.args.words in
    record {
      taken = run_on (g.C.ColumnSink.taken c.args.out.now) (g.C.ColumnSink.taken c.loop.out) (g.C.ColumnSink.taken c.column.new.self) (column ∷ []) column c.loop.counter 1 (c.loop.counter + 1) c.loop.invariant.taken c.in_ok-column.ensures.ok refl refl;
      later = omega (arith, c.loop.invariant.later, c.in_ok-column.ensures.cause.later);
    }

pub returns-in_err-column-clause-part : goal.returns-in_err-column-clause-part
returns-in_err-column-clause-part g c =
    let mid = g.C.ColumnSink.taken c.loop.out in
    let column = column_of c.args.words in
    on_err c.from_residual.result
    (run_cut (g.C.ColumnSink.taken c.args.out.now) mid (g.C.ColumnSink.taken c.column.new.self) (column ∷ []) column c.loop.counter 1 c.args.count 0 c.loop.invariant.taken (c.in_err-column.ensures.err ∙ sym (append-nil mid)) refl (omega (arith, c.loop-test.true)))
