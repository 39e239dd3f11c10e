-- A true alignment is refuted nowhere: after each control period that is received to end a period opens.
use Rattle.std.proofs.Common.{◌≡◌, ℕ, ◌+◌, ◌<◌, ◌≤◌, List, [], ◌++◌, length, ap, ap₂, sym, ◌∙◌, subst, arith, inl, inr, true≢false, replicate, length-append, ◌-◌}
use Rattle.std.proofs.lemmas.List.{get_or_append_left, get_or-append_right, length-replicate}
use Rattle.tmds_word.specs.Column.{Column}
use Rattle.terc4.specs.Columns.{is_control_column}
use Rattle.island_pack.specs.Kinds.{Kind, control_column, first_guard, second_guard, kinds_of, kind_at, EndsAt}
use Rattle.island_pack.specs.Periods.{Period}
use Rattle.island_pack.specs.Sparse.{column_at, unlike_at}
use Rattle.period_grammar.specs.Heard.{neither, video, island, opened}
use Rattle.lane_deskew.specs.Triples.{IsFirst}
use Rattle.lane_deskew.specs.Aligned.{aligned_columns}
use Rattle.lane_deskew.proofs.First.{one_first}
use Rattle.lane_deskew.proofs.Listed.{columns_listed}
use Rattle.link_sink.specs.Sinks.{Fed}
use Rattle.link_laws.specs.Alternating.{IsAlternating, last, more, built}
use Rattle.link_laws.specs.Laws.{ReceivedFreely, IsAccounted}
use Rattle.link_laws.proofs.Framing.{framing_stands}
use Rattle.link_laws.proofs.Freely.{free_received}
use Rattle.link_laws.proofs.Guards.{unlike, opens_video, opens_island}
use Rattle.link_laws.proofs.Lanes.{fitting_length}
use Rattle.link_laws.proofs.Shapes.{alternating, where_ends, ends_alone, in_rest}
use Rattle.link_laws.proofs.Spelled.{fitting_freely}
use Rattle.link_laws.proofs.Tapped.{payload_accounted, tap_accounted}
use Rattle.relock_sink.specs.Bands.{OpensNothing}
use Rattle.relock_sink.specs.Rivals.{IsRefuted, columns_before}
use Rattle.relock_laws.specs.Refuted.{EndsOpen, PayloadStands, UntilStands}
use Rattle.relock_laws.proofs.Announced.{ArePair, of_line, of_island, pair_at}
use Rattle.relock_laws.proofs.Last.{column_is}

-- behind a control period stands what it is followed by
behind : (n : ℕ) (mid rest : List Kind) (i : ℕ) → i ≡ n → 1 ≤ length mid → kind_at (built n mid rest) i ≡ kind_at mid 0
behind n mid rest i at some =
    let none : i - n ≡ 0 = omega arith in
    get_or-append_right (replicate n control_column) (mid ++ rest) n i second_guard (length-replicate n control_column) (omega arith)
    ∙ get_or_append_left mid rest second_guard (i - n) (omega arith)
    ∙ ap (kind_at mid) none

-- a guard column follows the last one of a control period, but of the last
opens_with : (kinds : List Kind) → IsAlternating kinds → (i : ℕ) → EndsAt kinds i → i + 1 < length kinds → kind_at kinds (i + 1) ≡ first_guard
opens_with _ (last n long) i e lt =
    let alone = ends_alone n i e in
    let all = length-append (replicate n control_column) [] in
    let run = length-replicate n control_column in
    absurd (omega arith)
opens_with _ (more n mid rest long m alternates) i e lt =
    let three = m.long in
    elim (where_ends n mid rest i m e) [
      | inl here ↦ behind n mid rest (i + 1) (omega arith) (omega arith) ∙ m.first
      | inr later ↦
          let at : i + 1 ≡ n + length mid + (later.at + 1) = omega (arith, later.place) in
          let long_all = length-append (replicate n control_column) (mid ++ rest) in
          let long_rest = length-append mid rest in
          let long_run = length-replicate n control_column in
          ap (kind_at (built n mid rest)) at ∙ in_rest n mid rest (later.at + 1) ∙ opens_with rest alternates later.at later.ends (omega (arith, later.place))
    ]

-- a guard pair opens what it is of, one of its characters damaged or none
pair_opens : (s t g h : Column) → ArePair s t → unlike s g + unlike t h ≤ 1 → opened g h ≡ neither → ⊥
pair_opens _ _ g h of_line one none = let is : video ≡ neither = sym (opens_video g h one) ∙ none in cc
pair_opens _ _ g h (of_island u v lu lv) one none = let is : island ≡ neither = sym (opens_island u v g h lu lv one) ∙ none in cc

pub ends_open : EndsOpen
ends_open ps sent received reception i lt control ends none =
    let long = reception.sparse.same_length in
    let here = (framing_stands ps sent received reception i (omega arith)).1 control in
    let then : kind_at (kinds_of ps) (i + 1) ≡ control_column → ⊥ =
    λ is. true≢false (sym ((framing_stands ps sent received reception (i + 1) (omega arith)).0 is) ∙ ends) in
    let e : EndsAt (kinds_of ps) i = record { here = here; then = then } in
    let size = fitting_length (kinds_of ps) sent (fitting_freely ps sent reception.conforming reception.spelled) in
    let first = opens_with (kinds_of ps) (alternating ps reception.conforming) i e (omega arith) in
    let pair = pair_at ps sent reception.conforming reception.spelled i (i + 1) e (omega arith) (omega arith) in
    let next : i + 1 + 1 ≡ i + 2 = omega arith in
    let one : unlike_at sent received (i + 1) + unlike_at sent received (i + 2) ≤ 1 =
    subst (λ n. unlike_at sent received (i + 1) + unlike_at sent received n ≤ 1) next (reception.sparse.one_a_pair (i + 1) first) in
    let are : ArePair (column_at sent (i + 1)) (column_at sent (i + 2)) = subst (λ n. ArePair (column_at sent (i + 1)) (column_at sent n)) next pair in
    pair_opens (column_at sent (i + 1)) (column_at sent (i + 2)) (column_at received (i + 1)) (column_at received (i + 2)) are one none

-- lanes whose aligned columns are received columns from the end of a control period on: after each control period of them a period opens
pub columns_open : (ps : List Period) (sent received : List Column) → ReceivedFreely ps sent received → (x : Fed) (p q r a j : ℕ)
    → IsAccounted ps sent received (aligned_columns x.blue x.green x.red p q r) a → OpensNothing x p q r j → ⊥
columns_open ps sent received reception x p q r a j is o =
    let e = o.ending in
    let cs = aligned_columns x.blue x.green x.red p q r in
    let l = column_is received cs a j e.last is.columns (columns_listed x.blue x.green x.red p q r j ∙ e.is_last) in
    let g = column_is received cs a (j + 1) e.first is.columns (columns_listed x.blue x.green x.red p q r (j + 1) ∙ e.is_first) in
    let h = column_is received cs a (j + 2) e.second is.columns (columns_listed x.blue x.green x.red p q r (j + 2) ∙ e.is_second) in
    let within = h.0 in
    let one : a + (j + 1) ≡ a + j + 1 = omega arith in
    let two : a + (j + 2) ≡ a + j + 2 = omega arith in
    let first : column_at received (a + j + 1) ≡ e.first = ap (column_at received) (sym one) ∙ g.1 in
    let second : column_at received (a + j + 2) ≡ e.second = ap (column_at received) (sym two) ∙ h.1 in
    ends_open ps sent received reception (a + j) (omega arith) (ap is_control_column l.1 ∙ e.control) (ap is_control_column first ∙ e.ends)
    (ap₂ opened first second ∙ o.nothing)

-- so they are refuted by no edges
pub stands_at : (ps : List Period) (sent received : List Column) → ReceivedFreely ps sent received → (x : Fed) (p q r d e f a : ℕ)
    → IsAccounted ps sent received (aligned_columns x.blue x.green x.red p q r) a → IsRefuted x p q r d e f → ⊥
stands_at ps sent received reception x p q r d e f a is u = columns_open ps sent received reception x p q r a (11 + columns_before p q r d e f) is u.period

-- the alignment in use is the first one
pub refuted_first : (x : Fed) (p q r d e f s t u : ℕ) → IsFirst x.blue x.green x.red s t u → IsRefuted x p q r d e f → IsRefuted x s t u d e f
refuted_first x p q r d e f s t u first is =
    let same = one_first x.blue x.green x.red p q r s t u is.later.own.first first in
    subst (λ n. IsRefuted x n t u d e f) same.0 (subst (λ n. IsRefuted x p n u d e f) same.1 (subst (λ n. IsRefuted x p q n d e f) same.2 is))

pub payload_stands : PayloadStands
payload_stands ps sent received offset skews counts x reception alone small p q r d e f u =
    let free = free_received ps sent received reception.reception in
    let is = payload_accounted ps sent received free alone offset skews counts x.blue x.green x.red reception.tapped small p q r u.later.own.first in
    stands_at ps sent received free x p q r d e f is.0 is.1 u

pub until_stands : UntilStands
until_stands ps sent received offset skews counts x reception small until aligns p q r d e f u =
    let free = free_received ps sent received reception.reception in
    let t = tap_accounted ps sent received free offset skews counts x.blue x.green x.red reception.tapped small until aligns in
    let found = t.4 in
    stands_at ps sent received free x t.0 t.1 t.2 d e f found.0 found.2 (refuted_first x p q r d e f t.0 t.1 t.2 t.3 u)
