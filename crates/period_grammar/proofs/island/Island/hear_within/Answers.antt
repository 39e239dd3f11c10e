use Rattle.std.proofs.Common.{arith}
use Rattle.tmds_word.specs.Lent.{columns_in}
use Rattle.period_grammar.proofs.InPacket.{within_heard}
use Rattle.period_grammar.proofs.island.Island.hear_within.Goals as goal

pub returns-clause-going : goal.returns-clause-going
returns-clause-going c rest was =
    let few = c.min-few.result in
    let part = c.first.ensures in
    (within_heard c.args.self.now c.put_columns-count.new.block rest (columns_in c.args.columns) _ c.put_columns-count.result few (c.is_packet.ensures.0 c.if-not-is_packet.false) (omega arith)
    (omega (arith, c.min-few.ensures, c.requires.blocked.within)) (omega (arith, c.min-few.ensures)) part c.put_columns-count.ensures.within c.put_columns-count.ensures.pixels c.put_columns-count.ensures.put was).going

pub returns-clause-heard : goal.returns-clause-heard
returns-clause-heard c rest was =
    let few = c.min-few.result in
    let part = c.first.ensures in
    let heard = within_heard c.args.self.now c.put_columns-count.new.block rest (columns_in c.args.columns) _ c.put_columns-count.result few (c.is_packet.ensures.0 c.if-not-is_packet.false) (omega arith)
    (omega (arith, c.min-few.ensures, c.requires.blocked.within)) (omega (arith, c.min-few.ensures)) part c.put_columns-count.ensures.within c.put_columns-count.ensures.pixels c.put_columns-count.ensures.put was in
    record { stands = heard.stands }
