use Rattle.std.proofs.Common.{◌≡◌, ◌<◌, ◌+◌, length, true, arith, ap, sym, ◌∙◌, subst}
use Rattle.std.proofs.lemmas.Bool.{eqb-true}
use Rattle.island_pack.specs.Periods.{Period, control, video, period_columns}
use Rattle.source_end.specs.ItemPeriods.{period_of}
use Rattle.source_end.specs.Kept.{is_sendable}
use Rattle.source_end.proofs.spell.item.Goals as goal

pub control-requires-clause-runs : goal.control-requires-clause-runs
control-requires-clause-runs g c =
    let e : period_of c.args.item.now ≡ control c.as_slice.result.now = ap period_of c.in-Control.is ∙ ap control (sym c.as_slice.ensures) in
    subst (λ (p : Period). is_sendable p ≡ true) e c.requires.sendable

pub control-requires-clause-room : goal.control-requires-clause-room
unfolding period_columns
control-requires-clause-room g c =
    let e : period_of c.args.item.now ≡ control c.as_slice.result.now = ap period_of c.in-Control.is ∙ ap control (sym c.as_slice.ensures) in
    subst (λ (p : Period). length (g.C.ColumnSink.taken c.args.out.now) + period_columns p < 429496729) e c.requires.room

pub video-requires-clause-whole : goal.video-requires-clause-whole
video-requires-clause-whole g c =
    let e : period_of c.args.item.now ≡ video c.as_slice-in-Video.result.now = ap period_of c.in-Video.is ∙ ap video (sym c.as_slice-in-Video.ensures) in
    eqb-true _ _ (subst (λ (p : Period). is_sendable p ≡ true) e c.requires.sendable)

pub video-requires-clause-room : goal.video-requires-clause-room
unfolding period_columns
video-requires-clause-room g c = grind arith

pub island-requires-clause-room : goal.island-requires-clause-room
unfolding period_columns
island-requires-clause-room g c = grind arith
