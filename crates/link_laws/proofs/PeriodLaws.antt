-- What is reported of the columns received of one period, and of periods one after another.
use Rattle.std.proofs.Common.{◌≡◌, ℕ, suc, ◌+◌, ◌≤◌, List, [], ◌∷◌, ◌++◌, length, take, refl, sym, ◌∙◌, subst, arith, length-append}
use Rattle.std.proofs.lemmas.List.{append-nil, length-replicate}
use Rattle.tmds_word.specs.Column.{Column}
use Rattle.island_pack.specs.Periods.{ControlRun, Period, control, video, island, values_of, period_columns}
use Rattle.island_pack.specs.Kinds.{kinds_in, kinds_of}
use Rattle.island_pack.specs.Sparse.{unlike_at}
use Rattle.link_laws.specs.Account.{control_row, period_row, account_from}
use Rattle.link_laws.specs.PeriodLaws.{PeriodReceived, tells, AreControl, ControlLaw, TellRow, VideoLaw, IslandLaw, JoiningLaw}
use Rattle.link_laws.proofs.Cutting.{hear_control}
use Rattle.link_laws.proofs.Conformed.{is_control_of, is_video_of, is_island_of, Conforms, conforming, HasValues}
use Rattle.link_laws.proofs.ControlReported.{control_row_reported}
use Rattle.link_laws.proofs.Between.{period_law}
use Rattle.link_laws.proofs.Joining.{ArrivesPeriod, controls, Arrives, nothing, more, IsBetween, inner_gap, is_tail, follows_long, sized, taken_row, control_period, joined}
use Rattle.link_laws.proofs.SpelledWords.{period_size_freely}
use Rattle.link_laws.proofs.Arrival.{fits, arriving}
use Rattle.link_laws.proofs.Framing.{arrived}

-- One period.

kinds_one : (p : Period) → length (kinds_of (p ∷ [])) ≡ period_columns p
unfolding kinds_of kinds_in period_columns
kinds_one p = grind (arith, append-nil, length-replicate, length-append)

one_of : (p : Period) (sent received : List Column) → Arrives (p ∷ []) sent received → ArrivesPeriod p sent received
one_of p _ _ (more _ _ own reception _ _ a nothing) =
    subst (λ ss. ArrivesPeriod p ss (reception ++ [])) (sym (append-nil own)) (subst (λ rs. ArrivesPeriod p own rs) (sym (append-nil reception)) a)

-- the columns of one period
pub received_one : (p : Period) (sent received : List Column) → HasValues (p ∷ []) → PeriodReceived p sent received → ArrivesPeriod p sent received
received_one p sent received values h =
    let s = h.sparse in
    one_of p sent received
    (arriving (p ∷ []) sent received values (sent, [], sym (append-nil sent), h.spelled, refl)
    (fits (kinds_of (p ∷ [])) sent received (kinds_one p ∙ sym (period_size_freely p sent h.spelled))
    (record { same_length = s.same_length; one = s.one_a_column; pair = λ i is. next sent received i (s.one_a_pair i is) })))
  where
    next : (sent received : List Column) (i : ℕ) → unlike_at sent received i + unlike_at sent received (i + 1) ≤ 1 → unlike_at sent received i + unlike_at sent received (suc i) ≤ 1
    next sent received i h = let e : i + 1 ≡ suc i = omega arith in subst (λ n. unlike_at sent received i + unlike_at sent received n ≤ 1) e h

-- a control period

control_of : (runs : List ControlRun) (sent received : List Column) → ArrivesPeriod (control runs) sent received → 12 ≤ length (values_of runs)
    → AreControl received × ((j m : ℕ) → tells j (take m received) ≡ period_row j m [] (control runs) sent received)
unfolding period_row
control_of runs _ _ (controls _ cs n all) long = (record { long = omega arith; all = all }, λ j m. taken_row j m cs all)

pub control_law : ControlLaw
unfolding HasValues
control_law runs sent received is h =
    let c = is_control_of runs is in
    control_of runs sent received (received_one (control runs) sent received (c.small, tt) h) c.long

-- a period between control periods

reported_before : (j : ℕ) (before : List Column) → AreControl before → tells j before ≡ control_row j before
reported_before j before h = hear_control j before h.all ∙ control_row_reported j before

tell_row : (p : Period) (sent received : List Column) → IsBetween p → ArrivesPeriod p sent received → TellRow p sent received
tell_row p sent received between a before next rest j m h at =
    let g = inner_gap before p sent received h.long between a in
    grind (arith, period_law, reported_before)

pub video_law : VideoLaw
unfolding HasValues IsBetween
video_law bytes sent received is h =
    let v = is_video_of bytes is in
    tell_row (video bytes) sent received v (received_one (video bytes) sent received (v.small, tt) h)

pub island_law : IslandLaw
unfolding HasValues IsBetween
island_law x sent received is h = tell_row (island x) sent received (is_island_of x is) (received_one (island x) sent received tt h)

-- Periods one after another.

joining_of : (ps : List Period) (sent received : List Column) → Conforms ps → Arrives ps sent received → (j m : ℕ) → tells j (take m received) ≡ account_from j m [] ps sent received
unfolding Conforms
joining_of ps sent received h k l m = grind (arith, more, follows_long, control_of, joined, is_tail, control_period, sized)

pub joining_law : JoiningLaw
joining_law ps sent received reception = joining_of ps sent received (conforming ps reception.conforming) (arrived ps sent received reception)
