use Rattle.std.proofs.Common.{List, ap, sym, subst, refl, ◌∙◌, arith}
use Rattle.tmds_word.specs.Column.{Column}
use Rattle.tmds_word.specs.Lent.{columns_in}
use Rattle.period_grammar.specs.Cut.{stretches}
use Rattle.period_grammar.specs.After.{last}
use Rattle.period_grammar.specs.Seen.{Seen}
use Rattle.period_grammar.specs.Stands.{HearingRepresents, IsStretchAfter}
use Rattle.period_grammar.specs.declared.phase.Phase.{Phase}
use Rattle.period_grammar.proofs.Going.{first_stays, noise_stays}
use Rattle.period_grammar.proofs.Many.{Went, none_went}
use Rattle.period_grammar.proofs.hearing.Hearing.hear_front.Goals as goal

pub returns-in-First : goal.returns-in-First
returns-in-First c =
    let cols = columns_in c.args.columns in
    let h = c.args.self.now in
    let went : (cs : List Column) → HearingRepresents h cs → Went h cs cols 0 = λ cs was.
    none_went h cs cols (λ d. first_stays h.control h.line h.island h.columns _ _ _ _ d (last (stretches cs))
    (subst (λ (p : Phase). IsStretchAfter p h.control h.line h.island h.columns (last (stretches cs))) (ap (λ (s : Seen). s.phase) (sym c.self.view_is) ∙ c.in-First.is) was.stretch)) was in
    record {
      within = omega arith;
      count = λ cs was. (went cs was).count;
      columns = omega arith;
      «open» = refl;
      notes = refl;
      heard = λ cs was. (went cs was).stands;
      reported = λ cs was. (went cs was).reported;
    }

pub returns-in-Noise : goal.returns-in-Noise
returns-in-Noise c =
    let cols = columns_in c.args.columns in
    let h = c.args.self.now in
    let went : (cs : List Column) → HearingRepresents h cs → Went h cs cols 0 = λ cs was.
    none_went h cs cols (λ d. noise_stays h.control h.line h.island h.columns d (last (stretches cs))
    (subst (λ (p : Phase). IsStretchAfter p h.control h.line h.island h.columns (last (stretches cs))) (ap (λ (s : Seen). s.phase) (sym c.self.view_is) ∙ c.in-Noise.is) was.stretch)) was in
    record {
      within = omega arith;
      count = λ cs was. (went cs was).count;
      columns = omega arith;
      «open» = refl;
      notes = refl;
      heard = λ cs was. (went cs was).stands;
      reported = λ cs was. (went cs was).reported;
    }
