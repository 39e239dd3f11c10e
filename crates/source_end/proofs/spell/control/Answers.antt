use Rattle.std.proofs.Common.{◌≡◌, ◌++◌, List, subst, map, replicate, take, get_or, ap, ap₂, sym, ◌∙◌, arith, length-append}
use Rattle.std.proofs.lemmas.List.{length-map}
use Rattle.tmds_word.specs.Column.{Column, column_of}
use Rattle.island_pack.specs.Periods.{ControlRun, values_of}
use Rattle.island_pack.specs.Spelling.{control_column}
use Rattle.source_end.proofs.Spellings.{map-values_of-more, room, none_spelled, joined}
use Rattle.source_end.specs.Fronts.{TookFront}
use Rattle.source_end.proofs.Fronts.{on_err}
use Rattle.source_end.proofs.ItemFronts.{control_front}
use Rattle.source_end.proofs.spell.control.Goals as goal

pub loop-run-init : goal.loop-run-init
loop-run-init g c = grind (arith, none_spelled)

pub repeat-requires : goal.repeat-requires
repeat-requires g c = grind (arith, length-append, length-map, room)

pub loop-run-preserved : goal.loop-run-preserved
loop-run-preserved g c =
    let runs = c.args.runs.now in
    let i = c.loop-run.run-index in
    let r = c.run-item.result in
    let x = get_or runs i r in
    let old = g.C.ColumnSink.taken c.args.out.now in
    let mid = g.C.ColumnSink.taken c.loop-run.out in
    let count : c.run.inside.count ≡ x.count = ap (λ (y : ControlRun). y.count) c.run.view_is ∙ ap (λ (y : ControlRun). y.count) c.run-item.is in
    let value : c.run.inside.value ≡ x.value = ap (λ (y : ControlRun). y.value) c.run.view_is ∙ ap (λ (y : ControlRun). y.value) c.run-item.is in
    let own : replicate c.run.inside.count (column_of c.control_words.result) ≡ replicate x.count (control_column x.value) = ap₂ (λ n (column : Column). replicate n column) count (c.control_words.ensures ∙ ap control_column value) in
    record {
      taken =
          joined old mid (g.C.ColumnSink.taken c.repeat.new.out) (map control_column (values_of (take i runs))) (replicate x.count (control_column x.value)) c.loop-run.invariant.taken (c.in_ok-repeat.ensures.ok ∙ ap (λ columns. mid ++ columns) own) ∙ ap (λ columns. old ++ columns) (sym (map-values_of-more control_column runs i r c.loop-run-test.true));
      later = omega (arith, c.loop-run.invariant.later, c.in_ok-repeat.ensures.cause.later);
    }

pub returns-in_err-repeat-clause-part : goal.returns-in_err-repeat-clause-part
returns-in_err-repeat-clause-part g c =
    let runs = c.args.runs.now in
    let i = c.loop-run.run-index in
    let r = c.run-item.result in
    let x = get_or runs i r in
    let mid = g.C.ColumnSink.taken c.loop-run.out in
    let new = g.C.ColumnSink.taken c.repeat.new.out in
    let count : c.run.inside.count ≡ x.count = ap (λ (y : ControlRun). y.count) c.run.view_is ∙ ap (λ (y : ControlRun). y.count) c.run-item.is in
    let value : c.run.inside.value ≡ x.value = ap (λ (y : ControlRun). y.value) c.run.view_is ∙ ap (λ (y : ControlRun). y.value) c.run-item.is in
    let own : replicate c.run.inside.count (column_of c.control_words.result) ≡ replicate x.count (control_column x.value) = ap₂ (λ n (column : Column). replicate n column) count (c.control_words.ensures ∙ ap control_column value) in
    on_err c.from_residual.result
    (control_front runs i r (g.C.ColumnSink.taken c.args.out.now) mid new c.loop-run-test.true c.loop-run.invariant.taken
    (subst (λ (whole : List Column). TookFront mid new (λ columns. columns ≡ whole)) own c.in_err-repeat.ensures.part))
