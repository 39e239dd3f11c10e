use Rattle.std.proofs.Common.{arith, ◌+◌, false, [], ◌∷◌, refl, sym, subst, ◌∙◌, append-nil}
use Rattle.tmds_word.specs.Column.{column_of}
use Rattle.period_grammar.specs.Seen.{Seen}
use Rattle.period_grammar.specs.Stands.{HearingRepresents, IsStretchAfter, going_on}
use Rattle.period_grammar.specs.After.{last, grown}
use Rattle.period_grammar.specs.Cut.{stretches, runs}
use Rattle.period_grammar.proofs.Leads.{goes_run}
use Rattle.period_grammar.specs.Heard.{heard_so_far}
use Rattle.period_grammar.specs.declared.phase.Phase.{Phase}
use Rattle.period_grammar.proofs.Phases.{on_video, video_stands}
use Rattle.period_grammar.proofs.Going.{whole_going, is_column, tells_no_word, still_control, closes_nothing, control_goes, line_goes}
use Rattle.period_grammar.proofs.InPacket.{one_in_island, island_went}
use Rattle.period_grammar.proofs.Hearings.{start_of, reported_control, reported_other, stands_control, stands_other}
use Rattle.period_grammar.proofs.hearing.Hearing.hear_on.Goals as goal

pub returns-else-not-goes_on-clause-heard : goal.returns-else-not-goes_on-clause-heard
returns-else-not-goes_on-clause-heard c cs was =
    let w = subst (λ (s : Seen). HearingRepresents s cs) (sym c.self.view_is) was in
    let x = last (stretches cs) in
    let d = column_of c.args.column.now in
    let h = c.self.inside in
    let at = subst (λ (p : Phase). IsStretchAfter p h.control h.line h.island h.columns x) c.in-Control.is w.stretch in
    let control = still_control _ h.line h.island h.columns x at in
    let whole = whole_going h.control (going_on x) d control (sym (c.goes_on.ensures ∙ goes_run (runs (going_on x)) h.control.value h.control.run control.run d) ∙ c.if-not-goes_on.false) in
    stands_control _ cs d _ w.columns (is_column _ d whole) refl c.in-Control.is (c.hear_again.ensures.heard (going_on x) d whole.value control)

pub returns-else-not-goes_on-clause-reported : goal.returns-else-not-goes_on-clause-reported
returns-else-not-goes_on-clause-reported c cs was = grind (arith, still_control, whole_going, goes_run, reported_control, is_column, closes_nothing, start_of, tells_no_word, append-nil)

pub returns-else-is_control_column-clause-heard : goal.returns-else-is_control_column-clause-heard
returns-else-is_control_column-clause-heard c cs was =
    let w = subst (λ (s : Seen). HearingRepresents s cs) (sym c.self.view_is) was in
    let x = last (stretches cs) in
    let d = column_of c.args.column.now in
    let h = c.self.inside in
    stands_other _ cs d _ w.columns (sym c.is_control_column.ensures ∙ c.if-is_control_column.false) refl
    (subst (λ (p : Phase). IsStretchAfter p h.control c.hear.new.self h.island (h.columns + 1) (grown false d x)) (sym c.in-Video.is)
    (video_stands h.control h.line h.island h.columns d _ _ c.hear.ensures.heard x (subst (λ (p : Phase). IsStretchAfter p h.control h.line h.island h.columns x) c.in-Video.is w.stretch)))

pub returns-else-is_control_column-clause-reported : goal.returns-else-is_control_column-clause-reported
returns-else-is_control_column-clause-reported c cs was =
    let w = subst (λ (s : Seen). HearingRepresents s cs) (sym c.self.view_is) was in
    let x = last (stretches cs) in
    let d = column_of c.args.column.now in
    let h = c.self.inside in
    reported_other cs d h.columns [] w.columns (sym c.is_control_column.ensures ∙ c.if-is_control_column.false)
    (on_video h.control h.line h.island h.columns [] d _ refl x (start_of cs) (subst (λ (p : Phase). IsStretchAfter p h.control h.line h.island h.columns x) c.in-Video.is w.stretch))
    ∙ append-nil (heard_so_far cs)

pub returns-else-is_control_column-clause-count : goal.returns-else-is_control_column-clause-count
returns-else-is_control_column-clause-count c cs was =
    let w = subst (λ (s : Seen). HearingRepresents s cs) (sym c.self.view_is) was in
    let x = last (stretches cs) in
    let h = c.self.inside in
    line_goes h.control h.line h.island h.columns c.in-Video.start (column_of c.args.column.now) x
    (subst (λ (p : Phase). IsStretchAfter p h.control h.line h.island h.columns x) c.in-Video.is w.stretch)
    (sym c.is_control_column.ensures ∙ c.if-is_control_column.false)

pub returns-then-not-goes_on-clause-count : goal.returns-then-not-goes_on-clause-count
returns-then-not-goes_on-clause-count c cs was = grind (arith, still_control, goes_run, control_goes)

pub returns-else-not-goes_on-clause-count : goal.returns-else-not-goes_on-clause-count
returns-else-not-goes_on-clause-count c cs was = grind (arith, still_control, goes_run, control_goes)

pub returns-in-First : goal.returns-in-First
returns-in-First c = grind arith

pub returns-else-not-hear_on-clause-heard : goal.returns-else-not-hear_on-clause-heard
returns-else-not-hear_on-clause-heard c cs was =
    let h = c.self.inside in
    let d = column_of c.args.column.now in
    let was_seen : Seen = record { columns = h.columns; phase = h.phase; control = h.control; line = h.line; island = h.island; notes = h.notes; finished = h.finished } in
    let now_seen : Seen = record { columns = h.columns + 1; phase = h.phase; control = h.control; line = h.line; island = c.hear_on.new.self; notes = h.notes; finished = h.finished } in
    let w = subst (λ (s : Seen). HearingRepresents s cs) (sym c.self.view_is) was in
    (island_went was_seen now_seen cs (d ∷ []) 1 c.in-Island.start c.in-Island.is c.in-Island.is refl refl (omega arith)
    (λ rest r. one_in_island rest d (sym c.is_control_column-in-Island.ensures ∙ c.if-is_control_column-2.false) (sym c.if-not-hear_on.false ∙ c.hear_on.ensures.count rest r))
    (λ rest r. c.if-not-hear_on.ensures.heard rest r) w).stands

pub returns-else-not-hear_on-clause-reported : goal.returns-else-not-hear_on-clause-reported
returns-else-not-hear_on-clause-reported c cs was =
    let h = c.self.inside in
    let d = column_of c.args.column.now in
    let was_seen : Seen = record { columns = h.columns; phase = h.phase; control = h.control; line = h.line; island = h.island; notes = h.notes; finished = h.finished } in
    let now_seen : Seen = record { columns = h.columns + 1; phase = h.phase; control = h.control; line = h.line; island = c.hear_on.new.self; notes = h.notes; finished = h.finished } in
    let w = subst (λ (s : Seen). HearingRepresents s cs) (sym c.self.view_is) was in
    (island_went was_seen now_seen cs (d ∷ []) 1 c.in-Island.start c.in-Island.is c.in-Island.is refl refl (omega arith)
    (λ rest r. one_in_island rest d (sym c.is_control_column-in-Island.ensures ∙ c.if-is_control_column-2.false) (sym c.if-not-hear_on.false ∙ c.hear_on.ensures.count rest r))
    (λ rest r. c.if-not-hear_on.ensures.heard rest r) w).reported
