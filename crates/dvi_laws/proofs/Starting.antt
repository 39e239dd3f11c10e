-- The account from twelve columns before the end of a control period on.
use Rattle.std.proofs.Common.{◌≡◌, ℕ, ◌+◌, ◌-◌, ◌/◌, ◌<◌, ◌≤◌, true, List, [], ◌∷◌, ◌++◌, length, take, drop, replicate, refl, ap, sym, ◌∙◌, subst, arith, inl, inr, length-drop}
use Rattle.std.proofs.lemmas.List.{drop-append-le, length-map}
use Rattle.std.proofs.lemmas.Bool.{le-ltb, lt-ltb}
use Rattle.tmds_word.specs.Column.{Column}
use Rattle.island_pack.specs.Periods.{ControlRun, Period, control, video, island, values_of}
use Rattle.island_pack.specs.Kinds.{control_column as control_kind, EndsAt}
use Rattle.island_pack.specs.Sparse.{unlike_at}
use Rattle.link_laws.specs.Alternating.{IsAlternating, last, more}
use Rattle.link_laws.proofs.Shapes.{where_ends, ends_alone, ends_late}
use Rattle.link_laws.specs.Account.{control_row}
use Rattle.link_laws.proofs.Cutting.{AllControl}
use Rattle.link_laws.proofs.Rows.{control_columns}
use Rattle.link_laws.proofs.Between.{take_seam, drop_seam}
use Rattle.link_laws.proofs.Start.{drop_control, drop_over}
use Rattle.link_laws.proofs.VideoReported.{pixel_count, length_received, length_sent}
use Rattle.period_grammar.specs.Gaps.{so_far_by, heard_by}
use Rattle.dvi_hearing.specs.DviHeard.{dvi_heard}
use Rattle.source_end.specs.DviPeriods.{dvi_conforms, IsDviConforming, dvi_columns, DviSpells, dvi_kinds_in, dvi_kinds, HasThree}
use Rattle.dvi_laws.specs.DviAccount.{dvi_account_from, dvi_account_at, dvi_account}
use Rattle.dvi_laws.proofs.Walk.{walk}
use Rattle.dvi_laws.proofs.Joined.{Received, ends, goes_on, joined, control_columns_are, video_columns_are}
use Rattle.dvi_laws.proofs.Coming.{AreNearly, nearly, control_received, tail_received, first_control_period}
use Rattle.dvi_laws.proofs.Shape.{video_middle, video_size}

account_here : (x : Period) (xs : List Period) (own reception ss rs : List Column) (a m : ℕ) → length own ≡ dvi_columns x → length reception ≡ dvi_columns x → a < dvi_columns x
    → dvi_account (x ∷ xs) (own ++ ss) (reception ++ rs) a m ≡ control_row 0 (take m (drop a reception)) ++ dvi_account_from (dvi_columns x - a) (m - (dvi_columns x - a)) xs ss rs
unfolding dvi_account dvi_account_at
account_here x xs own reception ss rs a m so re lt = grind (arith, lt-ltb, take_seam, drop_seam)

account_past : (x : Period) (xs : List Period) (own reception ss rs : List Column) (a m : ℕ) → length own ≡ dvi_columns x → length reception ≡ dvi_columns x → dvi_columns x ≤ a
    → dvi_account (x ∷ xs) (own ++ ss) (reception ++ rs) a m ≡ dvi_account xs ss rs (a - dvi_columns x) m
unfolding dvi_account
account_past x xs own reception ss rs a m so re le = grind (arith, le-ltb, drop_seam)

here : (runs : List ControlRun) (tail : List Period) (own cs ss rs : List Column) → length own ≡ dvi_columns (control runs) → length cs ≡ dvi_columns (control runs) → AllControl cs → Received tail ss rs
    → (a m : ℕ) → a + 12 ≡ length cs
    → dvi_heard (take m (drop a (cs ++ rs))) ≡ dvi_account (control runs ∷ tail) (own ++ ss) (cs ++ rs) a m
unfolding dvi_heard heard_by so_far_by
here runs tail own cs ss rs so re all reception a m e =
    let d = length-drop a cs in
    let n : 0 + length (drop a cs) ≡ dvi_columns (control runs) - a = omega arith in
    grind (arith, walk, drop-append-le, joined, drop_control, account_here)

kinds_more : (runs : List ControlRun) (bytes : List ℕ) (rest : List Period)
    → dvi_kinds (control runs ∷ (video bytes ∷ rest)) ≡ replicate (length (values_of runs)) control_kind ++ (dvi_kinds_in (video bytes) ++ dvi_kinds rest)
unfolding dvi_kinds dvi_kinds_in
kinds_more runs bytes rest = refl

three_of : (bytes : List ℕ) (runs : List ControlRun) (rest : List Period) → HasThree (video bytes ∷ (control runs ∷ rest)) → (3 ≤ length bytes / 3) × HasThree rest
unfolding HasThree
three_of bytes runs rest h = h

late : (runs : List ControlRun) (tail : List Period) (ss rs : List Column) → 12 ≤ length (values_of runs) → Received tail ss rs → HasThree tail → IsAlternating (dvi_kinds (control runs ∷ tail))
unfolding dvi_kinds dvi_kinds_in
late runs _ _ _ long ends t = last (length (values_of runs)) long
late runs _ _ _ long (goes_on bytes next rest pp qq own cs ss rs p f) t =
    let three = three_of bytes next rest t in
    let l = p.long in
    let r = p.received in
    more (length (values_of runs)) (dvi_kinds_in (video bytes)) (dvi_kinds (control next ∷ rest)) long (video_middle bytes three.0) (late next rest ss rs (omega arith) f three.1)

-- wherever the start lies
pub from_end : (runs : List ControlRun) (tail : List Period) (own cs ss rs : List Column) → length own ≡ length (values_of runs) → length cs ≡ length (values_of runs) → AllControl cs → Received tail ss rs → HasThree tail
    → (a m : ℕ) → EndsAt (dvi_kinds (control runs ∷ tail)) (a + 11)
    → dvi_heard (take m (drop a (cs ++ rs))) ≡ dvi_account (control runs ∷ tail) (own ++ ss) (cs ++ rs) a m
unfolding dvi_kinds dvi_kinds_in
from_end runs _ own cs _ _ so re all ends t a m e = grind (arith, control_columns_are, ends_alone, here, ends)
from_end runs _ own cs _ _ so re all (goes_on bytes next rest pp qq mine ds ss rs p f) t a m e =
    let c = control_columns_are runs in
    let d = video_columns_are bytes in
    let three = three_of bytes next rest t in
    let count = pixel_count bytes in
    let np = length_sent _ pp qq p.are in
    let nq = length_received _ pp qq p.are in
    let wide = three.0 in
    let size = video_size bytes (omega arith) in
    let longer = p.long in
    let got = p.received in
    elim (where_ends (length (values_of runs)) (dvi_kinds_in (video bytes)) (dvi_kinds (control next ∷ rest)) (a + 11) (video_middle bytes three.0) (subst (λ ks. EndsAt ks (a + 11)) (kinds_more runs bytes (control next ∷ rest)) e)) [
      | inl first ↦ here runs (video bytes ∷ (control next ∷ rest)) own cs _ _ (omega arith) (omega arith) all (goes_on bytes next rest pp qq mine ds ss rs p f) a m (omega arith)
      | inr later ↦
          let lt = ends_late _ (late next rest ss rs (omega arith) f three.1) later.at later.ends in
          let place = later.place in
          let b = later.at - 11 in
          let i : later.at ≡ b + 11 = omega arith in
          let l : a ≡ length cs + (length qq + b) = omega arith in
          let k : a - dvi_columns (control runs) - dvi_columns (video bytes) ≡ b = omega arith in
          ap (λ (y : ℕ). dvi_heard (take m (drop y (cs ++ (qq ++ (ds ++ rs)))))) l
          ∙ ap (λ (es : List Column). dvi_heard (take m es)) (drop_over cs (qq ++ (ds ++ rs)) (length cs) (length qq + b) refl ∙ drop_over qq (ds ++ rs) (length qq) b refl)
          ∙ from_end next rest mine ds ss rs p.sent p.received p.all f three.1 b m (subst (λ y. EndsAt (dvi_kinds (control next ∷ rest)) y) i later.ends)
          ∙ ap (λ y. dvi_account (control next ∷ rest) (mine ++ ss) (ds ++ rs) y m) (sym k)
          ∙ sym (account_past (control runs) (video bytes ∷ (control next ∷ rest)) own cs (pp ++ (mine ++ ss)) (qq ++ (ds ++ rs)) a m (omega arith) (omega arith) (omega arith)
          ∙ account_past (video bytes) (control next ∷ rest) pp qq (mine ++ ss) (ds ++ rs) (a - dvi_columns (control runs)) m (omega arith) (omega arith) (omega arith))
    ]

three_tail : (runs : List ControlRun) (tail : List Period) → HasThree (control runs ∷ tail) → HasThree tail
unfolding HasThree
three_tail runs tail h = h

no_video : (bytes : List ℕ) (rest : List Period) → dvi_conforms (video bytes ∷ rest) ≡ true → ⊥
unfolding dvi_conforms
no_video bytes rest h = cc

pub link_law : (ps : List Period) (sent received : List Column) → IsDviConforming ps → HasThree ps → DviSpells ps sent → length received ≡ length sent → ((i : ℕ) → unlike_at sent received i ≤ 1)
    → (a m : ℕ) → EndsAt (dvi_kinds ps) (a + 11) → dvi_heard (take m (drop a received)) ≡ dvi_account ps sent received a m
unfolding dvi_conforms
link_law [] sent received c t spells len one a m e = grind arith
link_law (video bytes ∷ rest) sent received c t spells len one a m e = absurd (no_video bytes rest c)
link_law (island x ∷ rest) sent received c t spells len one a m e = absurd spells.3
link_law (control runs ∷ tail) sent received c t spells len one a m e =
    let two = spells.1 in
    let is = spells.2 ∙ ap (λ xs. xs ++ two) spells.3 in
    let near = subst (λ (xs : List Column). AreNearly xs received) is (nearly sent received len one) in
    let q = control_received (values_of runs) two received (first_control_period runs tail c).small near in
    grind (arith, tail_received, from_end, control_columns, length-map, three_tail)
