use Rattle.std.proofs.Common.{◌≡◌, ◌<◌, ◌+◌, ◌++◌, ap, sym, subst, arith, ◌∙◌}
use Rattle.period_grammar.specs.Heard.{line_at}
use Rattle.period_grammar.specs.Noted.{lent}
use Rattle.period_grammar.specs.LineSeen.{LineSeen}
use Rattle.period_grammar.proofs.Lined.{line_none, line_after, none_before}
use Rattle.period_grammar.proofs.line.Line.tell.Goals as goal

pub returns-then-self-eq0-clause-reported : goal.returns-then-self-eq0-clause-reported
returns-then-self-eq0-clause-reported c pixels whole was =
    line_none c.args.self.now whole c.args.start pixels c.args.notes.now c.push.new.self was
    (subst (λ (l : LineSeen). l.count ≡ 0) c.self.view_is c.if-self-eq0.true) c.requires.room c.push.ensures

pub returns-clause-reported : goal.returns-clause-reported
returns-clause-reported c pixels whole was =
    let some = subst (λ (l : LineSeen). 0 < l.count) c.self.view_is (omega (arith, c.if-self-eq0.false)) in
    c.tell_pixels.ensures.reported pixels whole was
    ∙ ap (λ ts. ts ++ line_at c.args.start (c.args.start + 2) pixels) (none_before (lent c.args.self.now.bytes whole) c.args.notes.now c.requires.room)
    ∙ sym (line_after c.args.self.now c.args.start pixels was some)
