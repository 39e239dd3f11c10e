use Rattle.std.proofs.Common.{◌*◌, ◌/◌, ◌%◌, replicate, sym, refl, arith, append-nil, length-append}
use Rattle.std.proofs.lemmas.List.{length-replicate}
use Rattle.tmds_word.specs.Column.{column_of}
use Rattle.source_end.proofs.LineCodings.{run_on}
use Rattle.source_end.proofs.Fronts.{on_err, err_map, ok_map, run_within}
use Rattle.source_end.proofs.spell.repeat.Goals as goal

pub few-requires : goal.few-requires
few-requires g c = grind (arith, length-append, length-replicate)

pub returns-in_err-fours-clause-part : goal.returns-in_err-fours-clause-part
returns-in_err-fours-clause-part g c =
    let old = g.C.ColumnSink.taken c.args.out.now in
    on_err c.from_residual.result (run_within old old (g.C.ColumnSink.taken c.fours.new.out) (column_of c.args.words) 0 (4 * (c.args.count / 4)) c.args.count (sym (append-nil old)) c.in_err-fours.ensures.part (omega arith))

pub returns-clause-ok : goal.returns-clause-ok
returns-clause-ok g c =
    let column = column_of c.args.words in
    ok_map c.few.result
    (λ more. run_on (g.C.ColumnSink.taken c.args.out.now) (g.C.ColumnSink.taken c.fours.new.out) (g.C.ColumnSink.taken c.few.new.out) (replicate (c.args.count % 4) column) column (4 * (c.args.count / 4)) (c.args.count % 4) c.args.count c.in_ok-fours.ensures.ok more refl (omega arith))
    c.few.ensures.ok

pub returns-clause-part : goal.returns-clause-part
returns-clause-part g c =
    err_map c.few.result
    (λ cut. run_within (g.C.ColumnSink.taken c.args.out.now) (g.C.ColumnSink.taken c.fours.new.out) (g.C.ColumnSink.taken c.few.new.out) (column_of c.args.words) (4 * (c.args.count / 4)) (c.args.count % 4) c.args.count c.in_ok-fours.ensures.ok cut (omega arith))
    c.few.ensures.part
