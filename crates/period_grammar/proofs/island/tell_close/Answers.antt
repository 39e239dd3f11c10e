use Rattle.std.proofs.Common.{refl, ap, ◌∙◌, ◌==◌}
use Rattle.tmds_word.specs.Column.{column_of}
use Rattle.period_grammar.specs.Column.{sync_digit}
use Rattle.period_grammar.proofs.Blocks.{close_noted}
use Rattle.period_grammar.proofs.island.tell_close.Goals as goal

pub returns-clause-reported : goal.returns-clause-reported
returns-clause-reported c l d e f =
    close_noted l c.args.start c.args.at c.args.packets c.args.digit c.digit.result c.args.guard c.is_island_guard.result (c.args.packets == 0) d (column_of c.args.column.now)
    _ _ _ _ _ c.requires.room c.push.ensures (c.tell_guard.ensures.reported l) (c.tell_guard-2.ensures.reported l) (c.tell_empty.ensures.reported l)
    e (c.digit.ensures ∙ ap sync_digit c.blue.ensures) f c.is_island_guard.ensures refl
