-- The received columns are cut where the periods are.
use Rattle.std.proofs.Common.{◌≡◌, ◌≤◌, true, List, [], ◌∷◌, ◌++◌, length, take, drop, ap, ap₂, sym, ◌∙◌, arith}
use Rattle.std.proofs.lemmas.List.{append-nil}
use Rattle.tmds_word.specs.Column.{Column}
use Rattle.island_pack.specs.Periods.{Period, control, video, island, period_columns}
use Rattle.period_grammar.specs.Cut.{stretch, stretches}
use Rattle.link_laws.specs.Laws.{cut_as, PeriodsStand}
use Rattle.link_laws.proofs.Cutting.{AllControl, NoneControl, begins, cut_control, cut_both}
use Rattle.link_laws.proofs.Conformed.{Conforms, conforming}
use Rattle.link_laws.proofs.Between.{take_seam, drop_seam, begins_heads, IsControlPeriod}
use Rattle.link_laws.proofs.Joining.{controls, Arrives, nothing, more, IsTail, ends, goes_on, is_tail, follows_long, inner_gap, first_control}
use Rattle.link_laws.proofs.Framing.{arrived}

pub both : (control gap rest : List Column) → 1 ≤ length control → 1 ≤ length gap → AllControl control → NoneControl gap → begins (stretches rest) ≡ true
    → stretches (control ++ (gap ++ rest)) ≡ stretch control gap ∷ stretches rest
both [] gap rest long some all none h = absurd (omega arith)
both (c ∷ cs) [] rest long some all none h = absurd (omega arith)
both (c ∷ cs) (g ∷ gap) rest long some all none h = cut_both c cs g gap rest all none h

pub alone : (control : List Column) → 1 ≤ length control → AllControl control → stretches (control ++ []) ≡ stretch (control ++ []) [] ∷ []
unfolding stretches
alone [] long all = absurd (omega arith)
alone (c ∷ cs) long all = cut_control (c ∷ cs) [] all ∙ ap (λ ds. stretch (c ∷ ds) [] ∷ []) (sym (append-nil cs))

cut_first : (x y : Period) (xs : List Period) (front reception rest : List Column) → length front ≡ period_columns x → length reception ≡ period_columns y
    → cut_as (x ∷ (y ∷ xs)) (front ++ (reception ++ rest)) ≡ stretch front reception ∷ cut_as xs rest
unfolding cut_as
cut_first x y xs front reception rest e f =
    ap₂ (λ (a b : List Column). stretch a (take (period_columns y) b) ∷ cut_as xs (drop (period_columns y) b)) (take_seam front (reception ++ rest) (period_columns x) e) (drop_seam front (reception ++ rest) (period_columns x) e)
    ∙ ap₂ (λ (a b : List Column). stretch front a ∷ cut_as xs b) (take_seam reception rest (period_columns y) f) (drop_seam reception rest (period_columns y) f)

-- control columns as received, and the periods after them
cut_from : (x : Period) (tail : List Period) → IsTail tail → (before ss rs : List Column) → IsControlPeriod before → length before ≡ period_columns x → Arrives tail ss rs
    → stretches (before ++ rs) ≡ cut_as (x ∷ tail) (before ++ rs)
unfolding cut_as period_columns
cut_from x _ ends before _ _ h e nothing = let l = h.long in alone before (omega arith) h.all
cut_from x _ (goes_on y runs rest i long f) before _ _ h e (more _ _ own reception _ _ a (more _ _ _ _ ss rs (controls _ cs n all) b)) =
    let l = h.long in
    let g = inner_gap before y own reception l i a in
    let r = g.long in
    let s = g.some in
    both before reception (cs ++ rs) (omega arith) (omega arith) h.all g.no_control (begins_heads (cs ++ rs) (first_control cs rs all (omega arith)))
    ∙ ap (λ xs. stretch before reception ∷ xs) (cut_from (control runs) rest f cs ss rs (record { long = omega arith; all = all }) n b)
    ∙ sym (cut_first x y (control runs ∷ rest) before reception (cs ++ rs) e g.long)

cut_of : (ps : List Period) (sent received : List Column) → Conforms ps → Arrives ps sent received → stretches received ≡ cut_as ps received
unfolding Conforms period_columns
cut_of [] sent received c a = absurd c
cut_of (video bytes ∷ rest) sent received c a = absurd c
cut_of (island x ∷ rest) sent received c a = absurd c
cut_of (control runs ∷ rest) _ _ c (more _ _ _ _ ss rs (controls _ cs n all) a) = grind (arith, follows_long, cut_from, is_tail)

pub periods_stand : PeriodsStand
periods_stand ps sent received reception = cut_of ps sent received (conforming ps reception.conforming) (arrived ps sent received reception)
