use Rattle.std.proofs.Common.{◌∙◌, ◌++◌, ap, not, ◌==◌, arith}
use Rattle.period_grammar.specs.Events.{symbols}
use Rattle.period_grammar.specs.Island.{if_so}
use Rattle.period_grammar.specs.Noted.{events}
use Rattle.period_grammar.proofs.Blocks.{verdicts_noted, five_blocks}
use Rattle.period_grammar.proofs.island.tell_verdicts.Goals as goal

pub returns-clause-reported : goal.returns-clause-reported
returns-clause-reported c l =
    verdicts_noted l c.args.at c.args.verdicts.now.symbols _ _ _ _ _ c.args.notes.now c.tell_symbols.new.notes c.tell_block.new.notes c.tell_block-2.new.notes c.tell_block-3.new.notes c.tell_block-4.new.notes c.tell_block-5.new.notes (c.tell_symbols.ensures.reported l) (c.tell_block.ensures.reported l) (c.tell_block-2.ensures.reported l) (c.tell_block-3.ensures.reported l) (c.tell_block-4.ensures.reported l) (c.tell_block-5.ensures.reported l)
    ∙ ap (λ ts. events l c.args.notes.now ++ (if_so (not (c.args.verdicts.now.symbols == 0)) (symbols c.args.at c.args.verdicts.now.symbols) ++ ts)) (five_blocks c.args.at c.args.verdicts.now.blocks (omega arith))
