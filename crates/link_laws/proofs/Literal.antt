-- The account, said with the columns at which events are reported.
use Rattle.std.proofs.Common.{◌≡◌, ℕ, ◌+◌, ◌-◌, ◌<◌, ◌≤◌, true, cond, List, [], ◌∷◌, ◌++◌, length, drop, refl, ap, sym, ◌∙◌, subst, arith, inl, inr, append_assoc, length-append, length-drop}
use Rattle.std.proofs.lemmas.List.{append-nil, drop-append-le}
use Rattle.std.proofs.lemmas.List.Elements.{filter-append}
use Rattle.std.proofs.lemmas.Bool.{le-ltb, lt-ltb}
use Rattle.tmds_word.specs.Column.{Column}
use Rattle.island_pack.specs.Kinds.{kinds_of, EndsAt}
use Rattle.island_pack.specs.Periods.{ControlRun, Period, control, video, island, values_of, period_columns}
use Rattle.period_grammar.specs.Cut.{runs, Stretch as Cut, stretch, stretches}
use Rattle.period_grammar.specs.Events.{Event, EventAt, at, all_at, reported_before}
use Rattle.period_grammar.specs.Heard.{in_gap, at_close, reported_from, end_from, heard_so_far, heard}
use Rattle.period_grammar.proofs.Joined.{reported_before_is}
use Rattle.link_laws.specs.Literal.{runs_placed, period_placed, periods_placed, placed_from, account_placed, AccountLiteral}
use Rattle.link_laws.proofs.Cutting.{AllControl, NoneControl}
use Rattle.link_laws.proofs.Rows.{control_columns}
use Rattle.link_laws.proofs.Conformed.{IsInner, Follows, ends as follows_ends, goes_on as follows_on, Conforms, conforming}
use Rattle.link_laws.proofs.Between.{take_seam, drop_seam, heads, begins_heads, some, some_cut, IsControlPeriod}
use Rattle.link_laws.proofs.Joining.{controls, Arrives, nothing, more, IsSized, sized, IsTail, ends, goes_on, is_tail, inner_gap, first_control}
use Rattle.link_laws.proofs.EndPlaces.{kinds_from, ends_first, ends_only, control_kinds, ends_late, kinds_size}
use Rattle.link_laws.proofs.Start.{drop_control, drop_over, control_size}
use Rattle.link_laws.proofs.Framing.{arrived, link_law}
use Rattle.link_laws.proofs.CutPeriods.{both, alone}
use Rattle.link_laws.proofs.Placed.{control_placed, period_places}

-- what is reported of columns from column j on while they go on, and what is reported at the end at the first column
-- after them
abbrev whole : ℕ → List Column → List EventAt
whole j cs = reported_from j (stretches cs) ++ all_at (j + length cs) (end_from j (stretches cs))

-- Control columns alone.

-- A stretch with others after it.

regroup : (r l g c t e : List EventAt) → ((r ++ (l ++ g)) ++ (c ++ t)) ++ e ≡ (r ++ l) ++ ((g ++ c) ++ (t ++ e))
regroup r l g c t e = simp append_assoc

end_on : (j : ℕ) (cs gap : List Column) (xs : List Cut) → some xs ≡ true → end_from j (stretch cs gap ∷ xs) ≡ end_from (j + (length cs + length gap)) xs
end_on j cs gap xs h = grind arith

period_whole : (j : ℕ) (before reception next : List Column) → 1 ≤ length before → AllControl before → 1 ≤ length reception → NoneControl reception → heads next ≡ true
    → whole j (before ++ (reception ++ next))
    ≡ runs_placed j (runs before) ++ ((in_gap (j + length before) before reception ++ all_at (j + length before + length reception) (at_close (j + length before) reception)) ++ whole (j + length before + length reception) next)
period_whole j before reception next one all two no_control at_next = grind (arith, some_cut, both, begins_heads, length-append, end_on, regroup, control_placed)

-- All stretches.

placed_more : (j : ℕ) (before : List Column) (x : Period) (xs : List Period) (own reception ss rs : List Column) → IsSized x own reception
    → periods_placed j before (x ∷ xs) (own ++ ss) (reception ++ rs) ≡ period_placed j before x own reception ++ periods_placed (j + length reception) reception xs ss rs
unfolding periods_placed
placed_more j before x xs own reception ss rs h = grind (arith, drop_seam, take_seam)

control_more : (j : ℕ) (before : List Column) (runs_sent : List ControlRun) (rest : List Period) (own cs ss rs : List Column) → IsSized (control runs_sent) own cs
    → periods_placed j before (control runs_sent ∷ rest) (own ++ ss) (cs ++ rs) ≡ runs_placed j (runs cs) ++ periods_placed (j + length cs) cs rest ss rs
unfolding period_placed
control_more j before runs_sent rest own cs ss rs h = placed_more j before (control runs_sent) rest own cs ss rs h

all_placed : (tail : List Period) → IsTail tail → (before ss rs : List Column) → IsControlPeriod before → Arrives tail ss rs → (j : ℕ)
    → whole j (before ++ rs) ≡ runs_placed j (runs before) ++ periods_placed (j + length before) before tail ss rs
unfolding periods_placed
all_placed _ ends before _ _ h nothing j = grind (arith, append-nil, some, alone, control_placed)
all_placed _ (goes_on x runs_sent rest i long f) before _ _ h (more _ _ own reception _ _ a (more _ _ _ _ ss rs (controls _ cs n all) b)) j =
    let lb = h.long in
    let g = inner_gap before x own reception lb i a in
    let size = g.long in
    let one = g.some in
    let k = j + length before in
    let cv = control_columns (values_of runs_sent) in
    period_whole j before reception (cs ++ rs) (omega arith) h.all (omega arith) g.no_control (first_control cs rs all (omega arith))
    ∙ ap (λ ts. runs_placed j (runs before) ++ (ts ++ whole (k + length reception) (cs ++ rs))) (period_places before x own reception lb i a k)
    ∙ ap (λ ts. runs_placed j (runs before) ++ (period_placed k before x own reception ++ ts))
    (all_placed rest f cs ss rs (record { long = omega arith; all = all }) b (k + length reception)
    ∙ sym (control_more (k + length reception) reception runs_sent rest cv cs ss rs (sized (control runs_sent) cv cs (controls runs_sent cs n all))))
    ∙ ap (λ ts. runs_placed j (runs before) ++ ts) (sym (placed_more k before x (control runs_sent ∷ rest) own reception (cv ++ ss) (cs ++ rs) (sized x own reception a)))

-- Wherever the start lies.

placed_here : (x : Period) (xs : List Period) (own reception ss rs : List Column) (a : ℕ) → IsSized x own reception → a < period_columns x
    → account_placed (x ∷ xs) (own ++ ss) (reception ++ rs) a ≡ runs_placed 0 (runs (drop a reception)) ++ periods_placed (period_columns x - a) (drop a reception) xs ss rs
unfolding account_placed placed_from
placed_here x xs own reception ss rs a h lt = grind (arith, lt-ltb, take_seam, drop_seam)

placed_past : (x : Period) (xs : List Period) (own reception ss rs : List Column) (a : ℕ) → IsSized x own reception → period_columns x ≤ a
    → account_placed (x ∷ xs) (own ++ ss) (reception ++ rs) a ≡ account_placed xs ss rs (a - period_columns x)
unfolding account_placed
placed_past x xs own reception ss rs a h le = grind (arith, le-ltb, drop_seam)

here : (sent_runs : List ControlRun) (tail : List Period) → IsTail tail → (own cs ss rs : List Column) → IsSized (control sent_runs) own cs → AllControl cs → Arrives tail ss rs → (a : ℕ) → a + 12 ≡ length cs
    → whole 0 (drop a (cs ++ rs)) ≡ account_placed (control sent_runs ∷ tail) (own ++ ss) (cs ++ rs) a
here sent_runs tail f own cs ss rs size all arrives a e =
    let d = length-drop a cs in
    let q = size.received in
    let n : 0 + length (drop a cs) ≡ period_columns (control sent_runs) - a = omega arith in
    ap (whole 0) (drop-append-le a cs rs (omega arith))
    ∙ all_placed tail f (drop a cs) ss rs (record { long = omega arith; all = drop_control a cs all }) arrives 0
    ∙ ap (λ k. runs_placed 0 (runs (drop a cs)) ++ periods_placed k (drop a cs) tail ss rs) n
    ∙ sym (placed_here (control sent_runs) tail own cs ss rs a size (omega arith))

placed_start : (vs : List ℕ) (tail : List Period) → Follows vs tail → (sent_runs : List ControlRun) → vs ≡ values_of sent_runs → (cs ss rs : List Column) → length cs ≡ length (values_of sent_runs) → AllControl cs → Arrives tail ss rs
    → (a : ℕ) → EndsAt (kinds_from (values_of sent_runs) tail) (a + 11)
    → whole 0 (drop a (cs ++ rs)) ≡ account_placed (control sent_runs ∷ tail) (control_columns (values_of sent_runs) ++ ss) (cs ++ rs) a
placed_start _ _ (follows_ends vs h) sent_runs same cs _ _ n all nothing a e =
    let last = ends_only (values_of sent_runs) (a + 11) e in
    here sent_runs [] ends (control_columns (values_of sent_runs)) cs [] [] (sized _ _ _ (controls sent_runs cs n all)) all nothing a (omega arith)
placed_start _ _ (follows_on vs x next rest h v f) sent_runs same cs _ _ n all (more _ _ own reception _ _ hx (more _ _ _ _ ss rs (controls _ ds dn dall) b)) a e = elim (ends_first (values_of sent_runs) x (control next ∷ rest) (a + 11) (subst (λ us. IsInner us x) same v) e) [
  | inl first ↦
      here sent_runs (x ∷ (control next ∷ rest)) (is_tail vs (x ∷ (control next ∷ rest)) (follows_on vs x next rest h v f)) (control_columns (values_of sent_runs)) cs _ _ (sized _ _ _ (controls sent_runs cs n all)) all
      (more x (control next ∷ rest) own reception _ _ hx (more (control next) rest _ _ ss rs (controls next ds dn dall) b)) a (omega arith)
  | inr later ↦
      let w = length (values_of sent_runs) in
      let cv = control_columns (values_of sent_runs) in
      let nv = control_columns (values_of next) in
      let ends_next = subst (λ ks. EndsAt ks later.at) (control_kinds next rest) later.ends in
      let late = ends_late (values_of next) rest f later.at ends_next in
      let mid = kinds_size x in
      let place = later.place in
      let c = later.at - 11 in
      let i : later.at ≡ c + 11 = omega arith in
      let s = control_size sent_runs in
      let k : a - period_columns (control sent_runs) - period_columns x ≡ c = omega arith in
      let l : a ≡ w + (period_columns x + c) = omega arith in
      let z = sized x own reception hx in
      let q = z.received in
      ap (λ (y : ℕ). whole 0 (drop y (cs ++ (reception ++ (ds ++ rs))))) l
      ∙ ap (whole 0) (drop_over cs (reception ++ (ds ++ rs)) w (period_columns x + c) n ∙ drop_over reception (ds ++ rs) (period_columns x) c q)
      ∙ placed_start (values_of next) rest f next refl ds ss rs dn dall b c (subst (λ y. EndsAt (kinds_from (values_of next) rest) y) i ends_next)
      ∙ ap (λ y. account_placed (control next ∷ rest) (nv ++ ss) (ds ++ rs) y) (sym k)
      ∙ sym (placed_past (control sent_runs) (x ∷ (control next ∷ rest)) cv cs (own ++ (nv ++ ss)) (reception ++ (ds ++ rs)) a (sized (control sent_runs) cv cs (controls sent_runs cs n all)) (omega arith)
      ∙ placed_past x (control next ∷ rest) own reception (nv ++ ss) (ds ++ rs) (a - period_columns (control sent_runs)) z (omega arith))
]

placed_of : (ps : List Period) (sent received : List Column) → Conforms ps → Arrives ps sent received
    → (a : ℕ) → EndsAt (kinds_of ps) (a + 11) → whole 0 (drop a received) ≡ account_placed ps sent received a
unfolding Conforms
placed_of [] sent received c arrives a e = absurd c
placed_of (video bytes ∷ rest) sent received c arrives a e = absurd c
placed_of (island x ∷ rest) sent received c arrives a e = absurd c
placed_of (control sent_runs ∷ rest) _ _ c (more _ _ _ _ ss rs (controls _ cs n all) arrives) a e =
    placed_start (values_of sent_runs) rest c sent_runs refl cs ss rs n all arrives a (subst (λ ks. EndsAt ks (a + 11)) (control_kinds sent_runs rest) e)

-- The first columns.

none_before : (m n : ℕ) (ts : List Event) → m ≤ n → reported_before m (all_at n ts) ≡ []
none_before m n [] le = refl
none_before m n (t ∷ ts) le = ap (λ p. cond p (at n t ∷ reported_before m (all_at n ts)) (reported_before m (all_at n ts))) (le-ltb n m le) ∙ none_before m n ts le

pub account_literal : AccountLiteral
unfolding heard heard_so_far
account_literal ps sent received reception a m e within = grind (arith, length-drop, placed_of, conforming, arrived, link_law, reported_before_is, append-nil, none_before, filter-append)
