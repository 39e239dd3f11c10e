-- A hearing without guard columns after one column more: it stands for the columns heard, and has reported what is to
-- be reported of them.
use Rattle.std.proofs.Common.{arith, ◌≡◌, ℕ, ◌+◌, true, false, List, [], ◌∷◌, ◌++◌, length, map, refl, ap, sym, ◌∙◌}
use Rattle.std.proofs.lemmas.List.{length_push}
use Rattle.tmds_word.specs.Column.{Column}
use Rattle.terc4.specs.Columns.{is_control_column}
use Rattle.period_grammar.specs.Column.{value_of}
use Rattle.period_grammar.specs.Events.{Event, all_at, event_of}
use Rattle.period_grammar.specs.Cut.{Stretch, stretch, stretches}
use Rattle.period_grammar.specs.Heard.{other_words}
use Rattle.period_grammar.specs.After.{last, grown}
use Rattle.period_grammar.specs.Gains.{gains_by, ends_by}
use Rattle.period_grammar.specs.LineSeen.{LineSeen}
use Rattle.period_grammar.specs.ControlAfter.{IsControlAfter}
use Rattle.period_grammar.specs.Stands.{going_on}
use Rattle.period_grammar.specs.declared.control.ControlState.{ControlState}
use Rattle.period_grammar.proofs.Step.{last_push_stretch}
use Rattle.period_grammar.proofs.Hearings.{start_of}
use Rattle.dvi_hearing.specs.DviHeard.{dvi_gaps, dvi_so_far, dvi_heard}
use Rattle.dvi_hearing.specs.DviGains.{no_gain}
use Rattle.dvi_hearing.specs.DviGrammar.{pushed, ended_by}
use Rattle.dvi_hearing.specs.DviSeen.{DviSeen}
use Rattle.dvi_hearing.specs.DviStands.{IsStretchAfter, DviHearingRepresents, closed}
use Rattle.dvi_hearing.specs.declared.phase.DviPhase.TheVariants.{Control}

gains_true : (n b : ℕ) (c : Column) (x : Stretch) → closed (value_of c) b x ++ other_words n c ≡ gains_by dvi_gaps no_gain true b n c x
gains_true n b c (stretch control []) = refl
gains_true n b c (stretch control (g ∷ gap)) = refl

pub reported_control : (cs : List Column) (c : Column) (n v : ℕ) (ts ws : List Event) → n ≡ length cs → is_control_column c ≡ true → v ≡ value_of c
    → ts ≡ closed v (start_of cs) (last (stretches cs)) → ws ≡ ts ++ other_words n c
    → dvi_so_far (cs ++ c ∷ []) ≡ dvi_so_far cs ++ all_at (length cs) ws
reported_control cs c n v ts ws e p val t w =
    let b = start_of cs in
    let x = last (stretches cs) in
    pushed cs c
    ∙ ap (λ q. dvi_so_far cs ++ all_at (length cs) (gains_by dvi_gaps no_gain q b (length cs) c x)) p
    ∙ ap (λ us. dvi_so_far cs ++ all_at (length cs) us)
    (sym (w ∙ ap (λ us. us ++ other_words n c) (t ∙ ap (λ u. closed u b x) val) ∙ ap (λ m. closed (value_of c) b x ++ other_words m c) e ∙ gains_true (length cs) b c x))

pub reported_other : (cs : List Column) (c : Column) (n : ℕ) (ts : List Event) → n ≡ length cs → is_control_column c ≡ false
    → ts ≡ gains_by dvi_gaps no_gain false (start_of cs) n c (last (stretches cs)) → dvi_so_far (cs ++ c ∷ []) ≡ dvi_so_far cs ++ all_at (length cs) ts
reported_other cs c n ts e p t =
    let b = start_of cs in
    let x = last (stretches cs) in
    pushed cs c
    ∙ ap (λ q. dvi_so_far cs ++ all_at (length cs) (gains_by dvi_gaps no_gain q b (length cs) c x)) p
    ∙ ap (λ us. dvi_so_far cs ++ all_at (length cs) us) (sym (t ∙ ap (λ m. gains_by dvi_gaps no_gain false b m c x) e))

control_on : (kept : ControlState) (line : LineSeen) (n : ℕ) (c : Column) (x : Stretch) → IsControlAfter kept (going_on x ++ c ∷ []) → IsStretchAfter Control kept line n (grown true c x)
control_on kept line n c (stretch control []) h = (h, tt)
control_on kept line n c (stretch control (g ∷ gap)) h = (h, tt)

pub stands_control : (now : DviSeen) (cs : List Column) (c : Column) (n : ℕ) → n ≡ length cs → is_control_column c ≡ true → now.columns ≡ n + 1 → now.phase ≡ Control
    → IsControlAfter now.control (going_on (last (stretches cs)) ++ c ∷ []) → DviHearingRepresents now (cs ++ c ∷ [])
stands_control now cs c n e p m ph h = grind (arith, length_push, control_on, last_push_stretch)

pub stands_other : (now : DviSeen) (cs : List Column) (c : Column) (n : ℕ) → n ≡ length cs → is_control_column c ≡ false → now.columns ≡ n + 1
    → IsStretchAfter now.phase now.control now.line (n + 1) (grown false c (last (stretches cs))) → DviHearingRepresents now (cs ++ c ∷ [])
stands_other now cs c n e p m h = grind (arith, length_push, last_push_stretch)

pub reported_end : (cs : List Column) (ts : List Event) → ts ≡ ends_by dvi_gaps (start_of cs) (last (stretches cs)) → dvi_heard cs ≡ map event_of (dvi_so_far cs) ++ ts
reported_end cs ts e = ended_by cs ∙ ap (λ us. map event_of (dvi_so_far cs) ++ us) (sym e)
