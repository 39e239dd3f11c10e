-- The received control columns are those of the control periods, and the account of received columns.
use Rattle.std.proofs.Common.{◌≡◌, ◌↔◌, ℕ, ◌+◌, ◌≤◌, true, List, [], ◌∷◌, take, drop, refl, subst, arith}
use Rattle.tmds_word.specs.Column.{Column}
use Rattle.terc4.specs.Columns.{is_control_column}
use Rattle.terc4.proofs.Words.{few_turns}
use Rattle.island_pack.specs.Periods.{Period, control, video, island, values_of}
use Rattle.link_laws.proofs.Guards.{unlike, IsWithoutControl, IsWhole, stays_without_control, stays_control}
use Rattle.link_laws.proofs.Conformed.{Conforms, conforming}
use Rattle.link_laws.proofs.EndPlaces.{control_kinds}
use Rattle.link_laws.proofs.Spelled.{FitsColumn, fitting_freely}
use Rattle.island_pack.specs.Kinds.{Kind, control_column, kinds_of, kind_at, EndsAt}
use Rattle.island_pack.specs.Sparse.{column_at}
use Rattle.period_grammar.specs.Heard.{heard}
use Rattle.link_laws.specs.Account.{account}
use Rattle.link_laws.specs.Laws.{ReceivedFreely, FramingStands, LinkLaw}
use Rattle.link_laws.proofs.Joining.{controls, Arrives, more}
use Rattle.link_laws.proofs.Start.{from_end}
use Rattle.link_laws.proofs.Arrival.{arrive}
use Rattle.link_laws.proofs.Lanes.{fitting_length, fitting_at}
use Rattle.link_laws.proofs.LaneEnds.{kind_cases}

-- The framing.

no_control : (k : Kind) (s : Column) → (k ≡ control_column → ⊥) → FitsColumn k s → IsWithoutControl s
no_control k s apart f = record { blue = few_turns s.blue (f.blue.others apart); green = few_turns s.green (f.green.others apart); red = few_turns s.red (f.red.others apart) }

whole : (k : Kind) (s : Column) → k ≡ control_column → FitsColumn k s → IsWhole s
whole k s is f = record { blue = f.blue.controls is; green = f.green.controls is; red = f.red.controls is }

by_kind : (k : Kind) (s r : Column) → FitsColumn k s → unlike s r ≤ 1 → (k ≡ control_column) ↔ (is_control_column r ≡ true)
by_kind k s r f one = grind (arith, kind_cases, stays_control, whole, stays_without_control, no_control)

pub framing_stands : FramingStands
framing_stands ps sent received reception i lt =
    let l = reception.sparse.same_length in
    let at = fitting_at (kinds_of ps) sent (fitting_freely ps sent reception.conforming reception.spelled) i (omega arith) in
    by_kind (kind_at (kinds_of ps) i) (column_at sent i) (column_at received i) at (reception.sparse.one_a_column i)

-- What is reported.

link_of : (ps : List Period) (sent received : List Column) → Conforms ps → Arrives ps sent received
    → (a m : ℕ) → EndsAt (kinds_of ps) (a + 11) → heard (take m (drop a received)) ≡ account ps sent received a m
unfolding Conforms
link_of [] sent received c arrives a m e = absurd c
link_of (video bytes ∷ rest) sent received c arrives a m e = absurd c
link_of (island x ∷ rest) sent received c arrives a m e = absurd c
link_of (control runs ∷ rest) _ _ c (more _ _ _ _ ss rs (controls _ cs n all) arrives) a m e =
    from_end (values_of runs) rest c runs refl cs ss rs n all arrives a m (subst (λ ks. EndsAt ks (a + 11)) (control_kinds runs rest) e)

pub arrived : (ps : List Period) (sent received : List Column) → ReceivedFreely ps sent received → Arrives ps sent received
arrived ps sent received reception = grind (arith, arrive, conforming, fitting_length, fitting_freely)

pub link_law : LinkLaw
link_law ps sent received reception a m e =
    link_of ps sent received (conforming ps reception.conforming) (arrived ps sent received reception) a m e
