use Rattle.std.proofs.Common.{arith, Some, ap, sym, ◌∙◌}
use Rattle.source_end.proofs.Gathered.{run_of, same_some, push_first, push_grows, push_turns}
use Rattle.source_end.proofs.gathering.OpenRuns.push.Goals as goal

pub returns-in-None : goal.returns-in-None
returns-in-None c values e few = push_first c.self.inside.runs c.self.inside.last c.args.value c.args.count values c.self.invariant c.in-None.is c.if-count-eq0.false (c.self.view_is ∙ e)

pub returns-in-Some : goal.returns-in-Some
returns-in-Some c values e few =
    let r = run_of c.last.inside.value c.last.inside.count in
    push_grows c.self.inside.runs c.self.inside.last r c.args.value c.args.count c.saturating_add-count.result values (c.in-Some.is ∙ ap Some (sym c.last.view_is)) c.if-last-value.true (c.self.view_is ∙ e) few c.saturating_add-count.ensures

pub returns-in_ok-push-in-Some-2 : goal.returns-in_ok-push-in-Some-2
returns-in_ok-push-in-Some-2 c values e few = grind (arith, run_of, same_some, push_turns)
