-- The columns that were sent and that were received of a raster's parts, part by part.
use Rattle.std.proofs.Common.{◌≡◌, ℕ, suc, ◌+◌, ◌*◌, ◌/◌, ◌≤◌, true, List, [], ◌∷◌, ◌++◌, length, drop, replicate, refl, sym, ap, subst, ◌∙◌, arith, length-append}
use Rattle.std.specs.Prelude.{nat_lt}
use Rattle.std.proofs.lemmas.List.{drop-drop, length-replicate}
use Rattle.std.proofs.Math.Seq.{drop-append_seam}
use Rattle.tmds_word.proofs.Below.{and-left, and-right}
use Rattle.tmds_word.specs.Column.{Column}
use Rattle.terc4.specs.Columns.{is_control_column}
use Rattle.island_pack.specs.Periods.{ControlRun, Period, control as control_period, video, island, values_of}
use Rattle.island_pack.specs.Runs.{join}
use Rattle.island_pack.specs.Spelling.{control_column}
use Rattle.island_pack.specs.Sparse.{no_column}
use Rattle.island_pack.proofs.Runs.{join_values}
use Rattle.link_laws.proofs.Freely.{free_received}
use Rattle.link_laws.specs.Laws.{ReceivedOf}
use Rattle.link_laws.proofs.Cutting.{AllControl, NoneControl}
use Rattle.link_laws.proofs.Rows.{control_columns, Small}
use Rattle.link_laws.proofs.Conformed.{Conforms, conforming, HasValues, has_values}
use Rattle.link_laws.proofs.Joining.{ArrivesPeriod, controls, Arrives, nothing, more, sized, IsBetween, IsTail, ends, goes_on, is_tail, inner_gap}
use Rattle.link_laws.proofs.Framing.{arrived}
use Rattle.source_end.specs.Raster.{Part, column, pixels, packets, before, gathered}
use Rattle.source_end.specs.Gathering.{size}
use Rattle.listing_laws.proofs.Accounted.{video_size as video_columns, island_size as island_columns}

-- columns of a period that holds no control columns, as sent and as received
pub record IsOther (n : ℕ) (own reception : List Column) : Type 0 where
  pub sent : length own ≡ n
  pub received : length reception ≡ n
  pub no_control : NoneControl reception

unfoldable Received : List Period → List Column → List Column → Type 0
Received [] ss rs = (ss ≡ []) × (rs ≡ [])
Received (control_period runs ∷ ps) ss rs =
    (cs sent received : List Column) × (ss ≡ control_columns (values_of runs) ++ sent) × (rs ≡ cs ++ received) × (length cs ≡ length (values_of runs)) × AllControl cs × Small (values_of runs) × Received ps sent received
Received (video bytes ∷ ps) ss rs = (own reception sent received : List Column) × (ss ≡ own ++ sent) × (rs ≡ reception ++ received) × IsOther (2 + length bytes / 3) own reception × Received ps sent received
Received (island x ∷ ps) ss rs = (own reception sent received : List Column) × (ss ≡ own ++ sent) × (rs ≡ reception ++ received) × IsOther (4 + 32 * length x.packets) own reception × Received ps sent received

twelve : List Column
twelve = replicate 12 no_column

twelve_long : 12 ≤ length twelve
unfolding twelve
twelve_long = let l : length twelve ≡ 12 = length-replicate 12 no_column in omega (arith, l)

inner_received : (x : Period) (xs : List Period) (own reception ss rs : List Column) → IsBetween x → ArrivesPeriod x own reception → Received xs ss rs → Received (x ∷ xs) (own ++ ss) (reception ++ rs)
unfolding Received IsBetween
inner_received x xs own reception ss rs h k l = grind (arith, inner_gap, twelve_long, sized, video_columns, island_columns)

inner_values : (x : Period) (xs : List Period) → IsBetween x → HasValues (x ∷ xs) → HasValues xs
unfolding HasValues IsBetween
inner_values x xs h k = grind arith

first_values : (runs : List ControlRun) (xs : List Period) → HasValues (control_period runs ∷ xs) → Small (values_of runs) × HasValues xs
unfolding HasValues
first_values runs xs h = h

tail_received : (tail : List Period) → IsTail tail → HasValues tail → (ss rs : List Column) → Arrives tail ss rs → Received tail ss rs
unfolding Received
tail_received _ ends v _ _ nothing = (refl, refl)
tail_received _ (goes_on x runs rest i long f) v _ _ (more _ _ own reception _ _ a (more _ _ _ _ ss rs (controls _ cs n all) b)) = grind (arith, first_values, inner_values, inner_received, control_columns, tail_received rest f)

periods_received : (ps : List Period) (ss rs : List Column) → Conforms ps → HasValues ps → Arrives ps ss rs → Received ps ss rs
unfolding Conforms Received
periods_received [] ss rs c v a = absurd c
periods_received (video bytes ∷ rest) ss rs c v a = absurd c
periods_received (island x ∷ rest) ss rs c v a = absurd c
periods_received (control_period runs ∷ rest) _ _ c v (more _ _ _ _ ss rs (controls _ cs n all) a) = grind (arith, first_values, tail_received, is_tail)

-- Parts.

unfoldable pub Arrived : List Part → List Column → List Column → Type 0
Arrived [] ss rs = (ss ≡ []) × (rs ≡ [])
Arrived (column v ∷ ps) ss rs =
    (c : Column) × (sent received : List Column) × (ss ≡ control_column v ∷ sent) × (rs ≡ c ∷ received) × (is_control_column c ≡ true) × (nat_lt v 64 ≡ true) × Arrived ps sent received
Arrived (pixels bytes ∷ ps) ss rs = (own reception sent received : List Column) × (ss ≡ own ++ sent) × (rs ≡ reception ++ received) × IsOther (2 + length bytes / 3) own reception × Arrived ps sent received
Arrived (packets x ∷ ps) ss rs = (own reception sent received : List Column) × (ss ≡ own ++ sent) × (rs ≡ reception ++ received) × IsOther (4 + 32 * length x.packets) own reception × Arrived ps sent received

record FirstReceived (n : ℕ) (cs : List Column) : Type 0 where
  c : Column
  rest : List Column
  are : cs ≡ c ∷ rest
  control : is_control_column c ≡ true
  all : AllControl rest
  long : length rest ≡ n

first_received : (n : ℕ) (cs : List Column) → length cs ≡ suc n → AllControl cs → FirstReceived n cs
first_received n [] e all = absurd (omega (arith, e))
first_received n (c ∷ cs) e all = record { c = c; rest = cs; are = refl; control = and-left _ _ all; all = and-right (is_control_column c) _ all; long = omega (arith, e) }

record ColumnReceived (v : ℕ) (periods : List Period) (ss rs : List Column) : Type 0 where
  c : Column
  sent : List Column
  received : List Column
  sent_are : ss ≡ control_column v ∷ sent
  received_are : rs ≡ c ∷ received
  control : is_control_column c ≡ true
  small : nat_lt v 64 ≡ true
  later : Received periods sent received

-- a control column before periods
column_before : (v : ℕ) (runs : List ControlRun) (periods after : List Period) (ss rs cs sent received : List Column) → ss ≡ control_columns (values_of (join v runs)) ++ sent → rs ≡ cs ++ received
    → length cs ≡ length (values_of (join v runs)) → AllControl cs → Small (values_of (join v runs))
    → ((ds : List Column) → length ds ≡ length (values_of runs) → AllControl ds → Small (values_of runs) → Received after (control_columns (values_of runs) ++ sent) (ds ++ received)) → ColumnReceived v after ss rs
column_before v runs periods after ss rs cs sent received e d n all small later =
    let j = join_values v runs in
    let f = first_received (length (values_of runs)) cs (n ∙ ap length j) all in
    grind (arith, Small, control_columns, and-left, and-right)

none_left : (ds : List Column) → length ds ≡ length (values_of []) → ds ≡ []
unfolding values_of
none_left [] e = refl
none_left (d ∷ ds) e = absurd (omega (arith, e))

none_values : values_of [] ≡ []
unfolding values_of
none_values = refl

alone_before : (v : ℕ) (after : List Period) (ss rs cs sent received : List Column) → ss ≡ control_columns (values_of (join v [])) ++ sent → rs ≡ cs ++ received
    → length cs ≡ length (values_of (join v [])) → AllControl cs → Small (values_of (join v [])) → Received after sent received → ColumnReceived v after ss rs
alone_before v after ss rs cs sent received e d n all small later =
    column_before v [] after after ss rs cs sent received e d n all small
    (λ ds l a s. subst (λ (xs : List Column). Received after xs (ds ++ received)) (sym (ap (λ (vs : List ℕ). control_columns vs ++ sent) none_values)) (subst (λ (xs : List Column). Received after sent (xs ++ received)) (sym (none_left ds l)) later))

column_received : (v : ℕ) (periods : List Period) (ss rs : List Column) → Received (before v periods) ss rs → ColumnReceived v periods ss rs
unfolding Received
column_received v periods ss rs h = grind (arith, alone_before, column_before)

parts_received : (parts : List Part) (ss rs : List Column) → Received (gathered parts) ss rs → Arrived parts ss rs
unfolding gathered Received Arrived
parts_received [] ss rs h = h
parts_received (column v ∷ parts) ss rs h =
    let k = column_received v (gathered parts) ss rs h in
    (k.c, k.sent, k.received, k.sent_are, k.received_are, k.control, k.small, parts_received parts k.sent k.received k.later)
parts_received (pixels bytes ∷ parts) ss rs h = (h.0, h.1, h.2, h.3, h.4, h.5, h.6, parts_received parts h.2 h.3 h.7)
parts_received (packets x ∷ parts) ss rs h = (h.0, h.1, h.2, h.3, h.4, h.5, h.6, parts_received parts h.2 h.3 h.7)

pub parts_arrived : (parts : List Part) (sent received : List Column) → ReceivedOf (gathered parts) sent received → Arrived parts sent received
parts_arrived parts sent received reception =
    let c = conforming (gathered parts) reception.conforming in
    parts_received parts sent received (periods_received (gathered parts) sent received c (has_values (gathered parts) c) (arrived (gathered parts) sent received (free_received (gathered parts) sent received reception)))

pub drop_front : (k : ℕ) (own cs : List Column) → length own ≡ k → drop k (own ++ cs) ≡ cs
drop_front k own cs e = ap (λ (i : ℕ). drop i (own ++ cs)) (sym e) ∙ drop-append_seam own cs

less : (k n : ℕ) (own cs ds : List Column) → length own ≡ k → ds ≡ own ++ cs → drop n cs ≡ drop (k + n) ds
less k n own cs ds e is = ap (drop n) (sym (drop_front k own cs e)) ∙ drop-drop n k (own ++ cs) ∙ sym (ap (drop (k + n)) is)

pub arrived_append : (xs ys : List Part) (ss rs : List Column) → Arrived (xs ++ ys) ss rs → Arrived ys (drop (size xs) ss) (drop (size xs) rs)
unfolding Arrived size
arrived_append [] ys ss rs h = h
arrived_append (column v ∷ xs) ys ss rs h = grind (arith, drop-drop, arrived_append xs ys)
arrived_append (pixels bytes ∷ xs) ys ss rs h = grind (arith, less, arrived_append xs ys)
arrived_append (packets x ∷ xs) ys ss rs h = grind (arith, less, arrived_append xs ys)

pub arrived_size : (parts : List Part) (ss rs : List Column) → Arrived parts ss rs → length ss ≡ size parts
unfolding Arrived size
arrived_size [] ss rs h = ap length h.0
arrived_size (column v ∷ parts) ss rs h = let e = ap length h.3 in let k = arrived_size parts h.1 h.2 h.7 in omega (arith, e, k)
arrived_size (pixels bytes ∷ parts) ss rs h = let e = ap length h.4 in let l = length-append h.0 h.2 in let k = arrived_size parts h.2 h.3 h.7 in omega (arith, e, l, k, h.6.sent)
arrived_size (packets x ∷ parts) ss rs h = let e = ap length h.4 in let l = length-append h.0 h.2 in let k = arrived_size parts h.2 h.3 h.7 in omega (arith, e, l, k, h.6.sent)
