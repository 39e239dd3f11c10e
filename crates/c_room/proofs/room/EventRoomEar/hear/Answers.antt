use Rattle.period_grammar.specs.Events.{at}
use Rattle.period_grammar.specs.Lending.{lent_event}
use Rattle.c_room.specs.Written.{link_writing}
use Rattle.c_room.specs.WrittenLaws.{taken_one}
use Rattle.c_room.proofs.room.EventRoomEar.hear.Goals as goal

pub returns-in-Ok-clause-ok : goal.returns-in-Ok-clause-ok
returns-in-Ok-clause-ok c = taken_one link_writing c.args.self.now c.hear_event.new.self (at c.args.column (lent_event c.args.event)) c.in-Ok.ensures.put
