use Rattle.std.proofs.Common.{arith, rules, ap, sym, ◌∙◌, subst}
use Rattle.std.proofs.lemmas.Grind.{common_steps}
use Rattle.tmds_word.specs.Column.{column_of}
use Rattle.period_grammar.specs.Column.{sync_digit}
use Rattle.period_grammar.specs.Stands.{IsStretchAfter}
use Rattle.period_grammar.specs.Noted.{lent}
use Rattle.period_grammar.specs.declared.phase.Phase.{Phase}
use Rattle.period_grammar.proofs.Leads.{no_notes}
use Rattle.period_grammar.proofs.Phases.{on_control, on_video_opens, on_island_opens, on_payload, on_video, video_stands, guards_noted, open_guards_noted}
use Rattle.period_grammar.proofs.phase.go_on.Goals as goal

pub returns-in-Control : goal.returns-in-Control
returns-in-Control c = record {
  blocked = search rules;
  room = omega arith;
  placed = search rules;
  reported = λ x b was e.
      on_control c.args.kept.now c.args.line.now c.args.island.now c.args.n _ (column_of c.args.column.now) (λ control h. c.tell_run.ensures.reported control (lent c.args.line.now.bytes c.args.island.now.whole) h) x b (subst (λ (p : Phase). IsStretchAfter p c.args.kept.now c.args.line.now c.args.island.now c.args.n x) c.in-Control.is was);
  stands = search rules;
}

pub returns-then-at_least : goal.returns-then-at_least
returns-then-at_least c = record {
  blocked = search rules;
  room = omega arith;
  placed = search rules;
  reported = λ x b was e.
      on_video_opens c.args.kept.now c.args.line.now c.args.island.now c.args.n _ (column_of c.args.column.now) _ _ _ _ _ _
      (λ control h. guards_noted (lent c.clear.new.self.bytes c.args.island.now.whole) _ _ _ _ _ _ (c.tell_lacks.ensures.reported control _ h) (c.tell_guard.ensures.reported _) (c.tell_guard-then-at_least.ensures.reported _))
      c.video_guard_words-in-First.ensures.count c.is_video_guard.ensures (sym c.at_least.ensures ∙ c.if-at_least.true) x b (subst (λ (p : Phase). IsStretchAfter p c.args.kept.now c.args.line.now c.args.island.now c.args.n x) c.in-First.is was) e;
  stands = search rules;
}

pub returns-then-at_least-2 : goal.returns-then-at_least-2
returns-then-at_least-2 c = record {
  blocked = search rules;
  room = grind (arith, common_steps);
  placed = search rules;
  reported = λ x b was e.
      on_island_opens c.args.kept.now c.args.line.now c.args.island.now c.args.n _ (column_of c.args.column.now) _ _ _ _ _ _ _ _
      (λ control h. open_guards_noted (lent c.args.line.now.bytes c.clear-then-at_least-2.new.self.whole) _ _ _ _ _ _ _ _ _ (c.tell_lacks-then-at_least-2.ensures.reported control _ h) c.push.ensures (c.tell_guard-then-at_least-2.ensures.reported _) (c.tell_guard-then-at_least-2-2.ensures.reported _))
      c.video_guard_words-in-First.ensures.count c.island_guard_words-in-First.ensures.count c.is_island_guard.ensures (c.digit-then-at_least-2.ensures ∙ ap sync_digit c.blue-then-at_least-2.ensures)
      (sym c.at_least.ensures ∙ c.if-at_least.false) (sym c.at_least-in-First.ensures ∙ c.if-at_least-2.true) x b (subst (λ (p : Phase). IsStretchAfter p c.args.kept.now c.args.line.now c.args.island.now c.args.n x) c.in-First.is was) e;
  stands = search rules;
}

pub returns-in-Island : goal.returns-in-Island
returns-in-Island c = record {
  blocked = search rules;
  room = omega arith;
  placed = search rules;
  reported = λ x b was e.
      on_payload c.args.kept.now c.args.line.now c.args.island.now c.args.n _ (column_of c.args.column.now) _ (λ rest h. c.hear.ensures.reported rest _ h) x b (subst (λ (p : Phase). IsStretchAfter p c.args.kept.now c.args.line.now c.args.island.now c.args.n x) c.in-Island.is was) e;
  stands = grind (arith, common_steps);
}

pub returns-in-Video : goal.returns-in-Video
returns-in-Video c = record {
  blocked = search rules;
  room = omega arith;
  placed = search rules;
  reported = λ x b was e.
      on_video c.args.kept.now c.args.line.now c.args.island.now c.args.n _ (column_of c.args.column.now) _ (no_notes _ _ c.requires.room) x b (subst (λ (p : Phase). IsStretchAfter p c.args.kept.now c.args.line.now c.args.island.now c.args.n x) c.in-Video.is was);
  stands = λ x was.
      video_stands c.args.kept.now c.args.line.now c.args.island.now c.args.n (column_of c.args.column.now) _ _ c.hear-in-Video.ensures.heard x (subst (λ (p : Phase). IsStretchAfter p c.args.kept.now c.args.line.now c.args.island.now c.args.n x) c.in-Video.is was);
}

pub returns-else-at_least-2-clause-room : goal.returns-else-at_least-2-clause-room
returns-else-at_least-2-clause-room c = grind (arith, common_steps)

pub tell_guard-requires-then-at_least-2 : goal.tell_guard-requires-then-at_least-2
tell_guard-requires-then-at_least-2 c = grind (arith, common_steps)

pub tell_guard-requires-then-at_least-2-2 : goal.tell_guard-requires-then-at_least-2-2
tell_guard-requires-then-at_least-2-2 c = grind (arith, common_steps)
