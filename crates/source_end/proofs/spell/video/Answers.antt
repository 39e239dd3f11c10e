use Rattle.tmds_word.specs.Column.{column_of}
use Rattle.source_end.proofs.Fronts.{on_err, err_map, ok_map}
use Rattle.source_end.proofs.ItemFronts.{guards_front, pixels_front, video_whole}
use Rattle.source_end.proofs.spell.video.Goals as goal

pub returns-in_err-repeat-clause-part : goal.returns-in_err-repeat-clause-part
returns-in_err-repeat-clause-part g c =
    on_err c.from_residual.result
    (guards_front c.args.bytes.now (column_of c.guard_words.result) (g.C.ColumnSink.taken c.args.out.now) (g.C.ColumnSink.taken c.repeat.new.out) c.guard_words.ensures c.in_err-repeat.ensures.part)

pub returns-clause-ok : goal.returns-clause-ok
returns-clause-ok g c =
    ok_map c.pixels.result
    (λ more. video_whole c.args.bytes.now (column_of c.guard_words.result) (g.C.ColumnSink.taken c.args.out.now) (g.C.ColumnSink.taken c.repeat.new.out) (g.C.ColumnSink.taken c.pixels.new.out) more.0 c.guard_words.ensures c.in_ok-repeat.ensures.ok more.1 more.2)
    c.pixels.ensures.ok

pub returns-clause-part : goal.returns-clause-part
returns-clause-part g c =
    err_map c.pixels.result
    (pixels_front c.args.bytes.now (column_of c.guard_words.result) (g.C.ColumnSink.taken c.args.out.now) (g.C.ColumnSink.taken c.repeat.new.out) (g.C.ColumnSink.taken c.pixels.new.out) c.guard_words.ensures c.in_ok-repeat.ensures.ok)
    c.pixels.ensures.part
