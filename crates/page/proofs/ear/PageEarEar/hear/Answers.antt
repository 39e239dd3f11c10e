use Rattle.period_grammar.specs.Events.{at}
use Rattle.period_grammar.specs.Lending.{lent_event}
use Rattle.std.proofs.Common.{[], ◌∷◌}
use Rattle.c_room.specs.Written.{link_writing}
use Rattle.c_room.specs.WrittenLaws.{filled_by}
use Rattle.page.proofs.ear.PageEarEar.hear.Goals as goal

pub returns-in-Ok-clause-ok : goal.returns-in-Ok-clause-ok
returns-in-Ok-clause-ok g c =
    let e = c.in-Ok.ensures in
    let b = c.hear_both.ensures in
    let filled = filled_by link_writing c.args.self.now.room c.hear_both.new.self.room (at c.args.column (lent_event c.args.event) ∷ []) e.room in
    ((b.same, record { written = e.listed; counted_are = e.faults; later = b.later; filled = filled }), e.room)
