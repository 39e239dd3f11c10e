use Rattle.std.proofs.Common.{◌≡◌, ◌++◌, sym, subst, arith}
use Rattle.std.proofs.lemmas.Grind.{common_steps}
use Rattle.std.specs.Prelude.{nat_le}
use Rattle.period_grammar.specs.Heard.{line_at, if_not}
use Rattle.period_grammar.specs.Events.{long_line}
use Rattle.period_grammar.specs.Noted.{events, lent}
use Rattle.period_grammar.specs.Lines.{IsLineAfter}
use Rattle.period_grammar.specs.LineSeen.{LineSeen}
use Rattle.period_grammar.proofs.Lined.{noted_pixels, more_than, no_more}
use Rattle.period_grammar.proofs.line.Line.tell_pixels.Goals as goal

pub returns-then-self-from-clause-reported : goal.returns-then-self-from-clause-reported
returns-then-self-from-clause-reported c pixels whole was =
    let l : LineSeen = record { bytes = c.self.inside.bytes; count = c.self.inside.count; blue = c.self.inside.blue; green = c.self.inside.green; red = c.self.inside.red } in
    let e : l ≡ c.args.self.now = c.self.view_is in
    let last : events (lent l.bytes whole) c.push-then-self-from.new.self ≡ events (lent l.bytes whole) c.tell_code-3.new.notes ++ if_not (nat_le l.count 4096) (long_line c.args.start) =
    more_than (lent l.bytes whole) c.tell_code-3.new.notes c.push-then-self-from.new.self l.count c.args.start (omega (arith, c.if-self-from.true, c.from.ensures)) c.push-then-self-from.ensures in
    subst (λ (s : LineSeen). events (lent s.bytes whole) c.push-then-self-from.new.self ≡ events (lent s.bytes whole) c.args.notes.now ++ line_at c.args.start c.args.from pixels) e
    (noted_pixels l whole c.args.start c.args.from pixels c.args.notes.now c.push.new.self c.tell_code.new.notes c.tell_code-2.new.notes c.tell_code-3.new.notes c.push-then-self-from.new.self
    (subst (λ (s : LineSeen). IsLineAfter s pixels) (sym e) was) c.push.ensures c.tell_code.ensures.reported c.tell_code-2.ensures.reported c.tell_code-3.ensures.reported last)

pub returns-else-self-from-clause-reported : goal.returns-else-self-from-clause-reported
returns-else-self-from-clause-reported c pixels whole was =
    let l : LineSeen = record { bytes = c.self.inside.bytes; count = c.self.inside.count; blue = c.self.inside.blue; green = c.self.inside.green; red = c.self.inside.red } in
    let e : l ≡ c.args.self.now = c.self.view_is in
    let last = no_more (events (lent l.bytes whole) c.tell_code-3.new.notes) l.count c.args.start (omega (arith, c.if-self-from.false, c.from.ensures)) in
    subst (λ (s : LineSeen). events (lent s.bytes whole) c.tell_code-3.new.notes ≡ events (lent s.bytes whole) c.args.notes.now ++ line_at c.args.start c.args.from pixels) e
    (noted_pixels l whole c.args.start c.args.from pixels c.args.notes.now c.push.new.self c.tell_code.new.notes c.tell_code-2.new.notes c.tell_code-3.new.notes c.tell_code-3.new.notes
    (subst (λ (s : LineSeen). IsLineAfter s pixels) (sym e) was) c.push.ensures c.tell_code.ensures.reported c.tell_code-2.ensures.reported c.tell_code-3.ensures.reported last)

pub push-requires-then-self-from : goal.push-requires-then-self-from
push-requires-then-self-from c = grind (arith, common_steps)

pub returns-else-self-from-clause-room : goal.returns-else-self-from-clause-room
returns-else-self-from-clause-room c = grind (arith, common_steps)

pub returns-then-self-from-clause-room : goal.returns-then-self-from-clause-room
returns-then-self-from-clause-room c = grind (arith, common_steps)

pub tell_code-requires-2-clause-room : goal.tell_code-requires-2-clause-room
tell_code-requires-2-clause-room c = grind (arith, common_steps)

pub tell_code-requires-3-clause-room : goal.tell_code-requires-3-clause-room
tell_code-requires-3-clause-room c = grind (arith, common_steps)

pub tell_code-requires-clause-room : goal.tell_code-requires-clause-room
tell_code-requires-clause-room c = grind (arith, common_steps)
