use Rattle.std.proofs.Common.{◌≡◌, ◌+◌, ap, sym, subst, refl, ◌∙◌}
use Rattle.tmds_word.specs.Lent.{columns_in}
use Rattle.dvi_hearing.specs.DviSeen.{DviSeen}
use Rattle.dvi_hearing.specs.DviStands.{DviHearingRepresents}
use Rattle.dvi_hearing.specs.declared.phase.DviPhase.TheVariants.{Pixels}
use Rattle.dvi_hearing.proofs.Many.{line_went}
use Rattle.dvi_hearing.proofs.hearing.DviHearing.hear_line.Goals as goal

pub returns-clause-heard : goal.returns-clause-heard
returns-clause-heard c cs was =
    let h = c.self.inside in
    let was_seen : DviSeen = record { columns = h.columns; phase = h.phase; control = h.control; line = h.line; notes = h.notes; unused = h.unused; finished = h.finished } in
    let now_seen : DviSeen = record { columns = h.columns + c.hear_while-count.result; phase = h.phase; control = h.control; line = c.hear_while-count.new.self; notes = h.notes; unused = h.unused; finished = h.finished } in
    let phase : c.self.inside.phase ≡ Pixels c.requires.phase.0 = ap (λ (s : DviSeen). s.phase) c.self.view_is ∙ c.requires.phase.1 in
    let w = subst (λ (s : DviSeen). DviHearingRepresents s cs) (sym c.self.view_is) was in
    (line_went was_seen now_seen cs (columns_in c.args.columns) c.hear_while-count.result _ phase phase refl refl c.hear_while-count.ensures.pixels c.hear_while-count.ensures.heard w).stands

pub returns-clause-reported : goal.returns-clause-reported
returns-clause-reported c cs was =
    let h = c.self.inside in
    let was_seen : DviSeen = record { columns = h.columns; phase = h.phase; control = h.control; line = h.line; notes = h.notes; unused = h.unused; finished = h.finished } in
    let now_seen : DviSeen = record { columns = h.columns + c.hear_while-count.result; phase = h.phase; control = h.control; line = c.hear_while-count.new.self; notes = h.notes; unused = h.unused; finished = h.finished } in
    let phase : c.self.inside.phase ≡ Pixels c.requires.phase.0 = ap (λ (s : DviSeen). s.phase) c.self.view_is ∙ c.requires.phase.1 in
    let w = subst (λ (s : DviSeen). DviHearingRepresents s cs) (sym c.self.view_is) was in
    (line_went was_seen now_seen cs (columns_in c.args.columns) c.hear_while-count.result _ phase phase refl refl c.hear_while-count.ensures.pixels c.hear_while-count.ensures.heard w).reported
