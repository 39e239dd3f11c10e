-- What is reported of columns ends with the account of a stream's periods after a control period, where the last of the columns are
-- received ones from twelve before the end of that control period on; whatever the columns before them are.
use Rattle.std.proofs.Common.{◌≡◌, ℕ, zero, suc, ◌+◌, ◌-◌, ◌≤◌, true, List, [], ◌∷◌, ◌++◌, length, map, take, drop, refl, ap, ap₂, sym, ◌∙◌, subst, append_assoc, arith, inl, inr, length-drop, length-append, length-take-le}
use Rattle.std.proofs.lemmas.List.{map-append, take-append-drop, drop-append-le, drop-drop}
use Rattle.std.proofs.Math.Seq.{take-append-add}
use Rattle.tmds_word.specs.Column.{Column}
use Rattle.island_pack.specs.Kinds.{kinds_of, EndsAt}
use Rattle.island_pack.specs.Periods.{ControlRun, Period, control, video, island, values_of, period_columns, columns_of}
use Rattle.period_grammar.specs.Cut.{Stretch as Cut, stretches}
use Rattle.period_grammar.specs.Events.{Event, event_of}
use Rattle.period_grammar.specs.Heard.{reported_from, end_from, reach, heard}
use Rattle.period_grammar.proofs.Step.{total, stretches_total}
use Rattle.link_laws.specs.Account.{control_row, open_video_row, open_island_row, video_reported, island_reported, period_row, account_from}
use Rattle.link_laws.specs.Laws.{ReceivedFreely, EndsControl}
use Rattle.link_laws.specs.Local.{twelve_before}
use Rattle.link_laws.proofs.Between.{heads, some, some_cut, IsControlPeriod, drop_seam, take_seam}
use Rattle.link_laws.proofs.Conformed.{Conforms, IsInner, Follows, ends, goes_on, conforming}
use Rattle.link_laws.proofs.Cutting.{AllControl, hear}
use Rattle.link_laws.proofs.EndPlaces.{kinds_from, ends_first, ends_only, ends_late, kinds_size, control_kinds}
use Rattle.link_laws.proofs.Framing.{arrived}
use Rattle.link_laws.proofs.Joining.{controls, Arrives, nothing, more, IsSized, sized, IsTail, is_tail, joined}
use Rattle.link_laws.proofs.Local.{no_control_last, stretches_append, heard_append, closed_from, front_of, control_before, shifted, front_length, heads_append, all_append, preamble_last}
use Rattle.link_laws.proofs.Rows.{control_columns}
use Rattle.link_laws.proofs.Start.{control_size, drop_control, drop_over}
use Rattle.relock_laws.specs.RefutingSettled.{EndsAccounted}

-- A stream in two.

-- the periods up to the end of a control period and those after it, and its last twelve received columns
record IsSplit (ps : List Period) (sent received : List Column) (a : ℕ) : Type 0 where
  front : List Period
  tail : List Period
  are : ps ≡ front ++ tail
  upto : columns_of front ≡ a + 12
  tailed : IsTail tail
  last : List Column
  ss : List Column
  rs : List Column
  twelve : length last ≡ 12
  all : AllControl last
  arrives : Arrives tail ss rs
  sent_after : drop (a + 12) sent ≡ ss
  received_from : drop a received ≡ last ++ rs

one_period : (p : Period) → columns_of (p ∷ []) ≡ period_columns p
unfolding columns_of
one_period p = omega arith

three_periods : (p q : Period) (ps : List Period) (n : ℕ) → columns_of ps ≡ n → columns_of (p ∷ (q ∷ ps)) ≡ period_columns p + (period_columns q + n)
unfolding columns_of
three_periods p q ps n e = ap (λ k. period_columns p + (period_columns q + k)) e

here : (runs : List ControlRun) (tail : List Period) → IsTail tail → (own cs ss rs : List Column) → IsSized (control runs) own cs → AllControl cs → Arrives tail ss rs → (a : ℕ) → a + 12 ≡ length cs
    → IsSplit (control runs ∷ tail) (own ++ ss) (cs ++ rs) a
here runs tail f own cs ss rs size all arrives a e =
    let s = size.sent in
    let r = size.received in
    let l = length-drop a cs in
    let one = one_period (control runs) in
    record {
      front = control runs ∷ [];
      tail = tail;
      are = refl;
      upto = omega arith;
      tailed = f;
      last = drop a cs;
      ss = ss;
      rs = rs;
      twelve = omega arith;
      all = drop_control a cs all;
      arrives = arrives;
      sent_after = drop_seam own ss (a + 12) (omega arith);
      received_from = drop-append-le a cs rs (omega arith);
    }

later : (runs : List ControlRun) (x : Period) (tail : List Period) (first own cs reception ss rs : List Column) → IsSized (control runs) first cs → IsSized x own reception
    → (a c : ℕ) → a ≡ period_columns (control runs) + (period_columns x + c) → IsSplit tail ss rs c
    → IsSplit (control runs ∷ (x ∷ tail)) (first ++ (own ++ ss)) (cs ++ (reception ++ rs)) a
later runs x tail first own cs reception ss rs one two a c e s =
    let n = period_columns (control runs) in
    let k = period_columns x in
    let at : a + 12 ≡ n + (k + (c + 12)) = omega arith in
    record {
      front = control runs ∷ (x ∷ s.front);
      tail = s.tail;
      are = ap (λ ps. control runs ∷ (x ∷ ps)) s.are;
      upto = three_periods (control runs) x s.front (c + 12) s.upto ∙ sym at;
      tailed = s.tailed;
      last = s.last;
      ss = s.ss;
      rs = s.rs;
      twelve = s.twelve;
      all = s.all;
      arrives = s.arrives;
      sent_after = ap (λ m. drop m (first ++ (own ++ ss))) at ∙ drop_over first (own ++ ss) n (k + (c + 12)) one.sent ∙ drop_over own ss k (c + 12) two.sent ∙ s.sent_after;
      received_from = ap (λ m. drop m (cs ++ (reception ++ rs))) e ∙ drop_over cs (reception ++ rs) n (k + c) one.received ∙ drop_over reception rs k c two.received ∙ s.received_from;
    }

split_from : (vs : List ℕ) (tail : List Period) → Follows vs tail → (runs : List ControlRun) → vs ≡ values_of runs → (cs ss rs : List Column) → length cs ≡ length (values_of runs) → AllControl cs → Arrives tail ss rs
    → (a : ℕ) → EndsAt (kinds_from (values_of runs) tail) (a + 11) → IsSplit (control runs ∷ tail) (control_columns (values_of runs) ++ ss) (cs ++ rs) a
split_from _ _ (ends vs h) runs same cs _ _ n all nothing a e =
    let last = ends_only (values_of runs) (a + 11) e in
    here runs [] Rattle.link_laws.proofs.Joining.ends (control_columns (values_of runs)) cs [] [] (sized _ _ _ (controls runs cs n all)) all nothing a (omega arith)
split_from _ _ (goes_on vs x next rest h v f) runs same cs _ _ n all (more _ _ own reception _ _ hx (more _ _ _ _ ss rs (controls _ ds dn dall) b)) a e = elim (ends_first (values_of runs) x (control next ∷ rest) (a + 11) (subst (λ us. IsInner us x) same v) e) [
  | inl first ↦
      here runs (x ∷ (control next ∷ rest)) (is_tail vs (x ∷ (control next ∷ rest)) (goes_on vs x next rest h v f)) (control_columns (values_of runs)) cs _ _ (sized _ _ _ (controls runs cs n all)) all
      (more x (control next ∷ rest) own reception _ _ hx (more (control next) rest _ _ ss rs (controls next ds dn dall) b)) a (omega arith)
  | inr past ↦
      let cv = control_columns (values_of runs) in
      let nv = control_columns (values_of next) in
      let ends_next = subst (λ ks. EndsAt ks past.at) (control_kinds next rest) past.ends in
      let late = ends_late (values_of next) rest f past.at ends_next in
      let mid = kinds_size x in
      let place = past.place in
      let c = past.at - 11 in
      let i : past.at ≡ c + 11 = omega arith in
      let s = control_size runs in
      later runs x (control next ∷ rest) cv own cs reception (nv ++ ss) (ds ++ rs) (sized _ _ _ (controls runs cs n all)) (sized x own reception hx) a c (omega arith)
      (split_from (values_of next) rest f next refl ds ss rs dn dall b c (subst (λ y. EndsAt (kinds_from (values_of next) rest) y) i ends_next))
]

split_of : (ps : List Period) (sent received : List Column) → Conforms ps → Arrives ps sent received → (a : ℕ) → EndsAt (kinds_of ps) (a + 11) → IsSplit ps sent received a
unfolding Conforms
split_of [] sent received c arrives a e = absurd c
split_of (video bytes ∷ rest) sent received c arrives a e = absurd c
split_of (island x ∷ rest) sent received c arrives a e = absurd c
split_of (control runs ∷ rest) _ _ c (more _ _ _ _ ss rs (controls _ cs n all) arrives) a e =
    split_from (values_of runs) rest c runs refl cs ss rs n all arrives a (subst (λ ks. EndsAt ks (a + 11)) (control_kinds runs rest) e)

-- What is reported after other columns.

end_append : (j k : ℕ) (xs ys : List Cut) → some ys ≡ true → k ≡ j + total xs → end_from j (xs ++ ys) ≡ end_from k ys
end_append j k [] ys s e = let same : j ≡ k = omega arith in ap (λ n. end_from n ys) same
end_append j k (x ∷ []) [] s e = grind arith
end_append j k (x ∷ []) (y ∷ ys) s e = grind arith
end_append j k (x ∷ (z ∷ xs)) ys s e = end_append (j + reach x) k (z ∷ xs) ys s (omega arith)

heard_after : (cs ys : List Column) → no_control_last cs ≡ true → heads ys ≡ true → heard (cs ++ ys) ≡ map event_of (closed_from 0 (stretches cs)) ++ hear (length cs) (stretches ys)
unfolding heard
heard_after cs ys s h =
    let size = stretches_total cs in
    let n : length cs ≡ 0 + total (stretches cs) = omega arith in
    ap₂ (λ us ts. map event_of us ++ ts) (heard_append cs ys s h) (ap (end_from 0) (stretches_append cs ys s h) ∙ end_append 0 (length cs) (stretches cs) (stretches ys) (some_cut ys h) n)
    ∙ ap (λ ts. ts ++ end_from (length cs) (stretches ys)) (map-append event_of (closed_from 0 (stretches cs)) (reported_from (length cs) (stretches ys)))
    ∙ append_assoc (map event_of (closed_from 0 (stretches cs))) (map event_of (reported_from (length cs) (stretches ys))) (end_from (length cs) (stretches ys))

-- Which control columns stand before the last eight is no matter.

row_last : (j m : ℕ) (k c : List Column) (p : Period) (ss rs : List Column) → 8 ≤ length c → period_row j m (k ++ c) p ss rs ≡ period_row j m c p ss rs
unfolding period_row video_reported island_reported open_video_row open_island_row
row_last j m k c (control runs) ss rs long = refl
row_last j zero k c (video bytes) ss rs long = refl
row_last j (suc zero) k c (video bytes) ss rs long = refl
row_last j (suc (suc i)) k c (video bytes) ss rs long = grind (arith, preamble_last)
row_last j zero k c (island x) ss rs long = refl
row_last j (suc zero) k c (island x) ss rs long = refl
row_last j (suc (suc i)) k c (island x) ss rs long = grind (arith, preamble_last)

account_last : (j m : ℕ) (k c : List Column) (ps : List Period) (ss rs : List Column) → 8 ≤ length c → account_from j m (k ++ c) ps ss rs ≡ account_from j m c ps ss rs
unfolding account_from
account_last j m k c [] ss rs long = refl
account_last j m k c (p ∷ ps) ss rs long =
    let n = period_columns p in
    ap (λ ts. ts ++ account_from (j + n) (m - n) (take n rs) ps (drop n ss) (drop n rs)) (row_last j m k c p (take n ss) (take n rs) long)

-- The whole.

split_columns : (ps : List Period) (sent received : List Column) (a m : ℕ) (s : IsSplit ps sent received a) → 12 ≤ m → take m (drop a received) ≡ s.last ++ take (m - 12) s.rs
split_columns ps sent received a m s long =
    let twelve = s.twelve in
    let e : m ≡ length s.last + (m - 12) = omega arith in
    ap (take m) s.received_from ∙ ap (λ k. take k (s.last ++ s.rs)) e ∙ take-append-add s.last s.rs (m - 12)

-- control columns before it, and the stream after them
tail_heard : (ps : List Period) (sent received : List Column) (a j m : ℕ) (k : List Column) (s : IsSplit ps sent received a) → AllControl k
    → (first : List Event) × (hear j (stretches ((k ++ s.last) ++ take m s.rs)) ≡ first ++ account_from (j + length (k ++ s.last)) m s.last s.tail s.ss s.rs)
tail_heard ps sent received a j m k s all =
    let twelve = s.twelve in
    let size = length-append k s.last in
    let c = k ++ s.last in
    let period : IsControlPeriod c = record { long = omega arith; all = all_append k s.last all s.all } in
    let n = length c + m in
    let left : n - length c ≡ m = omega arith in (
      control_row j (take n c),
      ap (λ cs. hear j (stretches cs)) (sym (take-append-add c s.rs m))
          ∙ joined s.tail s.tailed c s.ss s.rs period s.arrives j n
          ∙ ap (λ i. control_row j (take n c) ++ account_from (j + length c) i c s.tail s.ss s.rs) left
          ∙ ap (λ ts. control_row j (take n c) ++ ts) (account_last (j + length c) m k s.last s.tail s.ss s.rs (omega arith)),
    )

-- whatever stands before the last twelve columns of the control period
all_heard : (ps : List Period) (sent received : List Column) (a m : ℕ) (u : List Column) (s : IsSplit ps sent received a)
    → (first : List Event) × (heard (u ++ (s.last ++ take m s.rs)) ≡ first ++ account_from (length u + 12) m s.last s.tail s.ss s.rs)
all_heard ps sent received a m u s =
    let twelve = s.twelve in
    let f = front_of u in
    let k = control_before u s.last in
    let size = front_length u s.last in
    let at : length f.front + length k ≡ length u + 12 = omega arith in
    let told = tail_heard ps sent received a (length f.front) m f.control s f.all in (
      map event_of (closed_from 0 (stretches f.front)) ++ told.0,
      ap heard (shifted u s.last (take m s.rs))
          ∙ heard_after f.front (k ++ take m s.rs) f.no_control (heads_append f.control s.last (take m s.rs) (omega arith) f.all s.all)
          ∙ ap (λ ts. map event_of (closed_from 0 (stretches f.front)) ++ ts) (told.1 ∙ ap (λ i. told.0 ++ account_from i m s.last s.tail s.ss s.rs) at)
          ∙ sym (append_assoc (map event_of (closed_from 0 (stretches f.front))) told.0 (account_from (length u + 12) m s.last s.tail s.ss s.rs)),
    )

pub ends_accounted : (ps : List Period) (sent received : List Column) → ReceivedFreely ps sent received → (columns : List Column) (n a : ℕ) → EndsControl ps (a + 11)
    → drop n columns ≡ take (length (drop n columns)) (drop a received) → 12 ≤ length (drop n columns) → EndsAccounted ps sent received columns n a
ends_accounted ps sent received free columns n a at same long =
    let s = split_of ps sent received (conforming ps free.conforming) (arrived ps sent received free) a at in
    let m = length (drop n columns) in
    let left = length-drop n columns in
    let size : length (take n columns) ≡ n = length-take-le n columns (omega arith) in
    let told = all_heard ps sent received a (m - 12) (take n columns) s in
    let many : m - 12 ≡ length columns - (n + 12) = omega arith in
    let back : a + 12 - 12 ≡ a = omega arith in
    let last_is : s.last ≡ twelve_before (a + 12) received = sym (ap (λ k. take 12 (drop k received)) back ∙ ap (take 12) s.received_from ∙ take_seam s.last s.rs 12 s.twelve) in
    let after : s.rs ≡ drop (a + 12) received = sym (sym (drop-drop 12 a received) ∙ ap (drop 12) s.received_from ∙ drop_seam s.last s.rs 12 s.twelve) in
    record {
      front = s.front;
      tail = s.tail;
      are = s.are;
      upto = s.upto;
      earlier = told.0;
      reported =
          ap heard (sym (take-append-drop n columns) ∙ ap (λ cs. take n columns ++ cs) (same ∙ split_columns ps sent received a m s long))
          ∙ told.1
          ∙ ap₂ (λ j i. told.0 ++ account_from (j + 12) i s.last s.tail s.ss s.rs) size many
          ∙ ap₂ (λ (c ss : List Column). told.0 ++ account_from (n + 12) (length columns - (n + 12)) c s.tail ss s.rs) last_is (sym s.sent_after)
          ∙ ap (λ (rs : List Column). told.0 ++ account_from (n + 12) (length columns - (n + 12)) (twelve_before (a + 12) received) s.tail (drop (a + 12) sent) rs) after;
    }
