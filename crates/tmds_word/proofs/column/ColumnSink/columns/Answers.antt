use Rattle.std.proofs.Common.{arith, ◌≡◌, ◌++◌, ◌∙◌, ap, length, take}
use Rattle.tmds_word.specs.Words.{columns_of}
use Rattle.tmds_word.proofs.Lanes.{column_after, columns_all}
use Rattle.tmds_word.proofs.column.ColumnSink.columns.Goals as goal

pub loop-i-preserved : goal.loop-i-preserved
loop-i-preserved g c =
    let was = c.loop-i.invariant in
    record {
      in_range = omega (arith, c.loop-i-test.true);
      taken =
          column_after c.args.blue.now c.args.green.now c.args.red.now (g.Self.ColumnSink.taken c.args.self.now) (g.Self.ColumnSink.taken c.loop-i.self) (g.Self.ColumnSink.taken c.column.new.self) c.loop-i.i
          c.index-blue-i.result c.index-green-i.result c.index-red-i.result _ _ _ c.requires.green c.requires.red c.loop-i-test.true was.taken c.in_ok-column.ensures.ok c.index-blue-i.is c.index-green-i.is c.index-red-i.is;
      later = omega (arith, was.later, c.in_ok-column.ensures.cause.later);
    }

pub returns-clause-ok : goal.returns-clause-ok
returns-clause-ok g c =
    let columns = columns_of c.args.blue.now c.args.green.now c.args.red.now in
    let last : c.loop-i.i ≡ length c.args.blue.now = omega (arith, c.loop-i-test.false, c.loop-i.auto.i-end) in
    c.loop-i.invariant.taken
    ∙ ap (λ n. g.Self.ColumnSink.taken c.args.self.now ++ take n columns) last
    ∙ ap (λ cs. g.Self.ColumnSink.taken c.args.self.now ++ cs) (columns_all c.args.blue.now c.args.green.now c.args.red.now)
