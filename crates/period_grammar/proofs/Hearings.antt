-- A hearing after one column more: it stands for the columns heard, and has reported what is to be reported of them.
use Rattle.std.proofs.Common.{◌≡◌, ℕ, ◌+◌, ◌-◌, ◌≤◌, true, false, List, [], ◌∷◌, ◌++◌, length, map, refl, ap, sym, ◌∙◌, arith}
use Rattle.std.proofs.lemmas.List.{length_push}
use Rattle.tmds_word.specs.Column.{Column}
use Rattle.terc4.specs.Columns.{is_control_column}
use Rattle.period_grammar.specs.Column.{value_of}
use Rattle.period_grammar.specs.Events.{Event, all_at, event_of}
use Rattle.period_grammar.specs.Cut.{Stretch, stretch, stretches}
use Rattle.period_grammar.specs.Heard.{other_words, heard_so_far, heard}
use Rattle.period_grammar.specs.After.{last, gains, grown, gap_of, ends}
use Rattle.period_grammar.specs.LineSeen.{LineSeen}
use Rattle.period_grammar.specs.ControlAfter.{IsControlAfter}
use Rattle.period_grammar.specs.declared.control.ControlState.{ControlState}
use Rattle.period_grammar.specs.declared.phase.Phase.TheVariants.{Control}
use Rattle.period_grammar.specs.declared.island.Island.{Island}
use Rattle.period_grammar.specs.Seen.{Seen}
use Rattle.period_grammar.specs.Stands.{IsStretchAfter, HearingRepresents, closed, going_on}
use Rattle.period_grammar.proofs.Step.{total, stretches_total, heard_push, heard_end, last_push_stretch}

-- the place at which the last stretch's other columns begin
gap_within : (xs : List Stretch) → length (gap_of (last xs)) ≤ total xs
gap_within [] = omega arith
gap_within (stretch control gap ∷ []) = omega arith
gap_within (x ∷ (y ∷ ys)) = omega (arith, gap_within (y ∷ ys))

abbrev pub start_of : List Column → ℕ
start_of cs = length cs - length (gap_of (last (stretches cs)))

pub starts : (cs : List Column) → start_of cs + length (gap_of (last (stretches cs))) ≡ length cs
starts cs = omega (arith, gap_within (stretches cs), stretches_total cs)

pub starts_at : (cs : List Column) (n : ℕ) → n ≡ length cs → start_of cs + length (gap_of (last (stretches cs))) ≡ n
starts_at cs n e = starts cs ∙ sym e

gains_true : (n b : ℕ) (c : Column) (x : Stretch) → closed (value_of c) b x ++ other_words n c ≡ gains true b n c x
gains_true n b c x = grind arith

pub reported_control : (cs : List Column) (c : Column) (n v : ℕ) (ts ws : List Event) → n ≡ length cs → is_control_column c ≡ true → v ≡ value_of c
    → ts ≡ closed v (start_of cs) (last (stretches cs)) → ws ≡ ts ++ other_words n c
    → heard_so_far (cs ++ c ∷ []) ≡ heard_so_far cs ++ all_at (length cs) ws
reported_control cs c n v ts ws e p val t w =
    let b = start_of cs in
    let x = last (stretches cs) in
    heard_push cs c b (starts cs)
    ∙ ap (λ q. heard_so_far cs ++ all_at (length cs) (gains q b (length cs) c x)) p
    ∙ ap (λ us. heard_so_far cs ++ all_at (length cs) us)
    (sym (w ∙ ap (λ us. us ++ other_words n c) (t ∙ ap (λ u. closed u b x) val) ∙ ap (λ m. closed (value_of c) b x ++ other_words m c) e ∙ gains_true (length cs) b c x))

pub reported_other : (cs : List Column) (c : Column) (n : ℕ) (ts : List Event) → n ≡ length cs → is_control_column c ≡ false
    → ts ≡ gains false (start_of cs) n c (last (stretches cs)) → heard_so_far (cs ++ c ∷ []) ≡ heard_so_far cs ++ all_at (length cs) ts
reported_other cs c n ts e p t =
    let b = start_of cs in
    let x = last (stretches cs) in
    heard_push cs c b (starts cs)
    ∙ ap (λ q. heard_so_far cs ++ all_at (length cs) (gains q b (length cs) c x)) p
    ∙ ap (λ us. heard_so_far cs ++ all_at (length cs) us) (sym (t ∙ ap (λ m. gains false b m c x) e))

control_on : (kept : ControlState) (line : LineSeen) (isle : Island) (n : ℕ) (c : Column) (x : Stretch) → IsControlAfter kept (going_on x ++ c ∷ []) → IsStretchAfter Control kept line isle n (grown true c x)
control_on kept line isle n c x h = grind arith

pub stands_control : (now : Seen) (cs : List Column) (c : Column) (n : ℕ) → n ≡ length cs → is_control_column c ≡ true → now.columns ≡ n + 1 → now.phase ≡ Control
    → IsControlAfter now.control (going_on (last (stretches cs)) ++ c ∷ []) → HearingRepresents now (cs ++ c ∷ [])
stands_control now cs c n e p m ph h = grind (arith, length_push, control_on, last_push_stretch)

pub stands_other : (now : Seen) (cs : List Column) (c : Column) (n : ℕ) → n ≡ length cs → is_control_column c ≡ false → now.columns ≡ n + 1
    → IsStretchAfter now.phase now.control now.line now.island (n + 1) (grown false c (last (stretches cs))) → HearingRepresents now (cs ++ c ∷ [])
stands_other now cs c n e p m h = grind (arith, length_push, last_push_stretch)

pub reported_end : (cs : List Column) (ts : List Event) → ts ≡ ends (start_of cs) (last (stretches cs)) → heard cs ≡ map event_of (heard_so_far cs) ++ ts
reported_end cs ts e = heard_end cs (start_of cs) (starts cs) ∙ ap (λ us. map event_of (heard_so_far cs) ++ us) (sym e)

-- what an ear heard, with the events of one call more
pub events_at : (n : ℕ) (us : List Event) → map event_of (all_at n us) ≡ us
events_at n [] = refl
events_at n (u ∷ us) = ap (λ ts. u ∷ ts) (events_at n us)
