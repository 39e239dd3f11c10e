use Rattle.std.proofs.Common.{◌≡◌, ◌+◌, ap, sym, subst, refl, ◌∙◌}
use Rattle.tmds_word.specs.Lent.{columns_in}
use Rattle.period_grammar.specs.Seen.{Seen}
use Rattle.period_grammar.specs.Stands.{HearingRepresents}
use Rattle.period_grammar.specs.declared.phase.Phase.TheVariants.{Island as InIsland}
use Rattle.period_grammar.proofs.InPacket.{island_went}
use Rattle.period_grammar.proofs.hearing.Hearing.hear_packet.Goals as goal

pub returns-clause-count : goal.returns-clause-count
returns-clause-count c cs was =
    let h = c.self.inside in
    let n = c.hear_while-count.result in
    let was_seen : Seen = record { columns = h.columns; phase = h.phase; control = h.control; line = h.line; island = h.island; notes = h.notes; finished = h.finished } in
    let now_seen : Seen = record { columns = h.columns + n; phase = h.phase; control = h.control; line = h.line; island = c.hear_while-count.new.self; notes = h.notes; finished = h.finished } in
    let phase : c.self.inside.phase ≡ InIsland c.requires.phase.0 = ap (λ (s : Seen). s.phase) c.self.view_is ∙ c.requires.phase.1 in
    let w = subst (λ (s : Seen). HearingRepresents s cs) (sym c.self.view_is) was in
    (island_went was_seen now_seen cs (columns_in c.args.columns) c.hear_while-count.result _ phase phase refl refl c.hear_while-count.ensures.within c.hear_while-count.ensures.count c.hear_while-count.ensures.heard w).count

pub returns-clause-heard : goal.returns-clause-heard
returns-clause-heard c cs was =
    let h = c.self.inside in
    let n = c.hear_while-count.result in
    let was_seen : Seen = record { columns = h.columns; phase = h.phase; control = h.control; line = h.line; island = h.island; notes = h.notes; finished = h.finished } in
    let now_seen : Seen = record { columns = h.columns + n; phase = h.phase; control = h.control; line = h.line; island = c.hear_while-count.new.self; notes = h.notes; finished = h.finished } in
    let phase : c.self.inside.phase ≡ InIsland c.requires.phase.0 = ap (λ (s : Seen). s.phase) c.self.view_is ∙ c.requires.phase.1 in
    let w = subst (λ (s : Seen). HearingRepresents s cs) (sym c.self.view_is) was in
    (island_went was_seen now_seen cs (columns_in c.args.columns) c.hear_while-count.result _ phase phase refl refl c.hear_while-count.ensures.within c.hear_while-count.ensures.count c.hear_while-count.ensures.heard w).stands

pub returns-clause-reported : goal.returns-clause-reported
returns-clause-reported c cs was =
    let h = c.self.inside in
    let n = c.hear_while-count.result in
    let was_seen : Seen = record { columns = h.columns; phase = h.phase; control = h.control; line = h.line; island = h.island; notes = h.notes; finished = h.finished } in
    let now_seen : Seen = record { columns = h.columns + n; phase = h.phase; control = h.control; line = h.line; island = c.hear_while-count.new.self; notes = h.notes; finished = h.finished } in
    let phase : c.self.inside.phase ≡ InIsland c.requires.phase.0 = ap (λ (s : Seen). s.phase) c.self.view_is ∙ c.requires.phase.1 in
    let w = subst (λ (s : Seen). HearingRepresents s cs) (sym c.self.view_is) was in
    (island_went was_seen now_seen cs (columns_in c.args.columns) c.hear_while-count.result _ phase phase refl refl c.hear_while-count.ensures.within c.hear_while-count.ensures.count c.hear_while-count.ensures.heard w).reported
