use Rattle.period_grammar.specs.Noted.{lent}
use Rattle.period_grammar.proofs.Blocks.{packet_noted}
use Rattle.period_grammar.proofs.island.tell_packet.Goals as goal

pub returns-clause-reported : goal.returns-clause-reported
returns-clause-reported c bytes p e v =
    let l = lent bytes c.args.whole.now in
    packet_noted l c.args.at c.args.packets p _ _ _ _ e v c.requires.room c.push.ensures (c.tell_verdicts.ensures.reported l) (c.tell_long.ensures.reported l)
