use Rattle.std.proofs.Common.{ap, ◌∙◌}
use Rattle.tmds_word.specs.Column.{column_of}
use Rattle.period_grammar.specs.Column.{sync_digit}
use Rattle.period_grammar.proofs.Blocks.{first_stands}
use Rattle.period_grammar.proofs.island.Island.begin.Goals as goal

pub returns-clause-heard : goal.returns-clause-heard
returns-clause-heard c x was =
    first_stands c.args.self.now.packets 1 _ _ _ c.args.self.now.block _ (column_of c.args.column.now) x was
    c.closing_guard_words.ensures.count (c.digit.ensures ∙ ap sync_digit c.blue.ensures) c.is_island_guard.ensures c.put.ensures.put
