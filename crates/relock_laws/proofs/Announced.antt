-- A period opens at the end of each control period but the last: there the columns as sent are a guard pair, and as received,
-- the first of them as it was sent, they are announced.
use Rattle.std.proofs.Common.{◌≡◌, ℕ, ◌+◌, ◌-◌, ◌<◌, ◌≤◌, Bool, true, false, ◌&&◌, ◌||◌, ◌==◌, List, [], ◌∷◌, ◌++◌, length, refl, ap, ap₂, sym, ◌∙◌, subst, arith, inl, inr, length-append, nat_le}
use Rattle.std.proofs.lemmas.Bool.{eq-eqb, le-leb}
use Rattle.std.proofs.lemmas.List.{length-map, get_or-append_right}
use Rattle.tmds_word.specs.Column.{Column}
use Rattle.terc4.specs.Tables.{terc_words, video_guard, island_guard, value_in}
use Rattle.terc4.specs.Columns.{one_if, is_twelve_or_more, video_words, closing_words, island_words}
use Rattle.island_pack.specs.Conforming.{IsConforming}
use Rattle.island_pack.specs.Periods.{ControlRun, Period, control, video, island, values_of}
use Rattle.island_pack.specs.Kinds.{EndsAt, kinds_of}
use Rattle.island_pack.specs.Spelling.{control_column, guard_column, SpellsPeriodBy, SpellsBy, freely}
use Rattle.island_pack.specs.Sparse.{unlike_words, no_column, column_at, unlike_at}
use Rattle.link_laws.specs.Laws.{EndsControl}
use Rattle.link_laws.proofs.Conformed.{Conforms, conforming, IsInner, Follows, ends, goes_on}
use Rattle.link_laws.proofs.EndPlaces.{kinds_from, ends_first, ends_only, control_kinds, kinds_size}
use Rattle.link_laws.proofs.Guards.{lost, unlike, line_guard, is_blue}
use Rattle.link_laws.proofs.SpelledWords.{period_size_freely}
use Rattle.relock_sink.specs.Relocks.{is_announced}
use Rattle.relock_sink.specs.Rivals.{is_guard_band}

-- The columns as sent.

-- the guard pair of a video data period, and one that opens a data island
pub data ArePair : Column → Column → Type 0 where
  of_line : ArePair line_guard line_guard
  of_island : (u v : ℕ) → u < 4 → v < 4 → ArePair (guard_column u) (guard_column v)

-- a column and the next one
abbrev pub PairAt : List Column → ℕ → Type 0
PairAt cs i = ArePair (column_at cs i) (column_at cs (i + 1))

after : (front cs : List Column) (n i k : ℕ) → length front ≡ n → i ≡ n + k → column_at (front ++ cs) i ≡ column_at cs k
after front cs n i k long at =
    let e : i - n ≡ k = omega arith in
    get_or-append_right front cs n i no_column long (omega arith) ∙ ap (column_at cs) e

pair_after : (front cs : List Column) (n i k : ℕ) → length front ≡ n → i ≡ n + k → PairAt cs k → PairAt (front ++ cs) i
pair_after front cs n i k long at pair =
    let here = after front cs n i k long at in
    let next = after front cs n (i + 1) (k + 1) long (omega arith) in
    subst (λ c. ArePair c (column_at (front ++ cs) (i + 1))) (sym here) (subst (λ c. ArePair (column_at cs k) c) (sym next) pair)

-- a period opens with a pair
opens : (vs : List ℕ) (x : Period) (own rest : List Column) → IsInner vs x → SpellsPeriodBy freely x own → PairAt (own ++ rest) 0
unfolding IsInner
opens vs (control runs) own rest i h = absurd i
opens vs (video bytes) own rest i h = subst (λ cs. PairAt (cs ++ rest) 0) (sym h.1) of_line
opens vs (island x) own rest i h = subst (λ cs. PairAt (cs ++ rest) 0) (sym h.1) (of_island x.opening.first x.opening.second i.1.open_first i.1.open_second)

-- control columns are as many as their values
control_size : (runs : List ControlRun) (cs : List Column) → SpellsPeriodBy freely (control runs) cs → length cs ≡ length (values_of runs)
control_size runs cs h = ap length h ∙ length-map (values_of runs) control_column

from_end : (vs : List ℕ) (tail : List Period) → Follows vs tail → (front ss : List Column) → length front ≡ length vs → SpellsBy freely tail ss
    → (i : ℕ) → EndsAt (kinds_from vs tail) i → i + 1 < length (front ++ ss) → PairAt (front ++ ss) (i + 1)
from_end _ _ (ends vs h) front ss long none i e lt =
    let last = ends_only vs i e in
    let all = length-append front ss in
    let few = ap length none in
    absurd (omega arith)
from_end _ _ (goes_on vs x runs rest h v f) front ss long (own, others, are, spells, (cs, after, are_control, control_spells, more)) i e lt =
    let all : ss ≡ own ++ (cs ++ after) = are ∙ ap (λ ds. own ++ ds) are_control in
    let size = period_size_freely x own spells in
    let cs_size = control_size runs cs control_spells in
    let whole = ap length all in
    let front_size = length-append front ss in
    let own_size = length-append own (cs ++ after) in
    let cs_long = length-append cs after in
    subst (λ ds. PairAt (front ++ ds) (i + 1)) (sym all) (elim (ends_first vs x (control runs ∷ rest) i v e) [
      | inl here ↦ pair_after front (own ++ (cs ++ after)) (length vs) (i + 1) 0 long (omega arith) (opens vs x own (cs ++ after) v spells)
      | inr later ↦
          let mid = kinds_size x in
          let place = later.place in
          let pair = from_end (values_of runs) rest f cs after cs_size more later.at (subst (λ ks. EndsAt ks later.at) (control_kinds runs rest) later.ends) (omega arith) in
          pair_after front (own ++ (cs ++ after)) (length vs) (i + 1) (length own + (later.at + 1)) long (omega arith)
          (pair_after own (cs ++ after) (length own) (length own + (later.at + 1)) (later.at + 1) refl refl pair)
    ])

pair_of : (ps : List Period) (sent : List Column) → Conforms ps → SpellsBy freely ps sent → (i : ℕ) → EndsAt (kinds_of ps) i → i + 1 < length sent → PairAt sent (i + 1)
unfolding Conforms
pair_of [] sent c spells i e lt = absurd c
pair_of (video bytes ∷ rest) sent c spells i e lt = absurd c
pair_of (island x ∷ rest) sent c spells i e lt = absurd c
pair_of (control runs ∷ rest) sent c (cs, ss, are, control_spells, more) i e lt =
    subst (λ ds. PairAt ds (i + 1)) (sym are)
    (from_end (values_of runs) rest c cs ss (control_size runs cs control_spells) more i (subst (λ ks. EndsAt ks i) (control_kinds runs rest) e) (subst (λ ds. i + 1 < length ds) are lt))

-- The columns as received.

video_kept : (r : Column) → 3 ≤ video_words r + unlike line_guard r
unfolding video_words unlike_words video_guard
video_kept r =
    let b = lost (λ w. w == 0x2cc) 0x2cc r.blue refl (0x2cc == r.blue) refl in
    grind (arith, lost)

island_kept : (u : ℕ) (r : Column) → u < 4 → 3 ≤ island_words r + unlike (guard_column u) r
unfolding island_words closing_words unlike_words island_guard
island_kept u r lt =
    let b = lost (λ w. is_twelve_or_more (value_in terc_words w)) (guard_column u).blue r.blue (is_blue u lt).twelve ((guard_column u).blue == r.blue) refl in
    grind (arith, lost)

or_true : (b : Bool) → (b || true) ≡ true
or_true true = refl
or_true false = refl

first_two : (a b c d : Bool) → a ≡ true → b ≡ true → ((a && b) || (c && d)) ≡ true
first_two a b c d p q = ap₂ (λ x y. (x && y) || (c && d)) p q

last_two : (a b c d : Bool) → c ≡ true → d ≡ true → ((a && b) || (c && d)) ≡ true
last_two a b c d p q = ap₂ (λ x y. (a && b) || (x && y)) p q ∙ or_true (a && b)

pub announces : (s t g h : Column) → ArePair s t → unlike s g ≡ 0 → unlike t h ≤ 1 → is_announced g h ≡ true
unfolding is_announced
announces _ _ g h of_line none one =
    let a = video_kept g in
    let b = video_kept h in
    first_two (nat_le 3 (video_words g)) (nat_le 2 (video_words h)) (nat_le 3 (island_words g)) (nat_le 2 (island_words h))
    (le-leb 3 (video_words g) (omega arith)) (le-leb 2 (video_words h) (omega arith))
announces _ _ g h (of_island u v lu lv) none one =
    let a = island_kept u g lu in
    let b = island_kept v h lv in
    last_two (nat_le 3 (video_words g)) (nat_le 2 (video_words h)) (nat_le 3 (island_words g)) (nat_le 2 (island_words h))
    (le-leb 3 (island_words g) (omega arith)) (le-leb 2 (island_words h) (omega arith))

-- and each character as it was sent, they are a whole guard band
pub whole_as_sent : (s t g h : Column) → ArePair s t → unlike s g ≡ 0 → unlike t h ≡ 0 → is_guard_band g h ≡ true
unfolding is_guard_band
whole_as_sent _ _ g h of_line none same =
    let a = video_kept g in
    let b = video_kept h in
    first_two (nat_le 3 (video_words g)) (nat_le 3 (video_words h)) (nat_le 3 (island_words g)) (nat_le 3 (island_words h))
    (le-leb 3 (video_words g) (omega arith)) (le-leb 3 (video_words h) (omega arith))
whole_as_sent _ _ g h (of_island u v lu lv) none same =
    let a = island_kept u g lu in
    let b = island_kept v h lv in
    last_two (nat_le 3 (video_words g)) (nat_le 3 (video_words h)) (nat_le 3 (island_words g)) (nat_le 3 (island_words h))
    (le-leb 3 (island_words g) (omega arith)) (le-leb 3 (island_words h) (omega arith))

pub self_unlike : (s : Column) → unlike s s ≡ 0
unfolding unlike_words one_if
self_unlike s = grind (arith, eq-eqb)

none_unlike : (s r : Column) → r ≡ s → unlike s r ≡ 0
none_unlike s r e = ap (unlike s) e ∙ self_unlike s

pub pair_at : (ps : List Period) (sent : List Column) → IsConforming ps → SpellsBy freely ps sent → (i j : ℕ) → EndsControl ps i → j ≡ i + 1 → j < length sent → PairAt sent j
pair_at ps sent conforms spells i j e at lt = subst (PairAt sent) (sym at) (pair_of ps sent (conforming ps conforms) spells i e (omega arith))

-- the first of the two as it was sent, and the second but for one character
pub announced_at : (sent received : List Column) (i j : ℕ) → j ≡ i + 1 → PairAt sent i → column_at received i ≡ column_at sent i → unlike_at sent received j ≤ 1
    → is_announced (column_at received i) (column_at received j) ≡ true
announced_at sent received i j at pair same one =
    let pair_j : ArePair (column_at sent i) (column_at sent j) = subst (λ n. ArePair (column_at sent i) (column_at sent n)) (sym at) pair in
    announces (column_at sent i) (column_at sent j) (column_at received i) (column_at received j) pair_j (none_unlike (column_at sent i) (column_at received i) same) one
