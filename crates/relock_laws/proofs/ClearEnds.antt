-- Where no character near the end of a control period, as it was received, was received as a control or guard character that it was not,
-- no other edges contend with the alignment: those of a guard band there are where the period ends on each lane.
use Rattle.std.proofs.Common.{◌≡◌, ◌⊎◌, ℕ, ◌+◌, ◌-◌, ◌*◌, ◌/◌, ◌%◌, ◌<◌, ◌≤◌, max, Bool, true, false, ◌&&◌, ◌||◌, ◌==◌, List, length, map, get_or, refl, ap, ◌∙◌, sym, subst, arith, inl, inr, true≢false, eqb-true, Some}
use Rattle.std.specs.Prelude.{slice_index, nat_le}
use Rattle.std.proofs.lemmas.Bool.{cases_lt, leb-true}
use Rattle.std.proofs.lemmas.List.{length-map, get_or-map}
use Rattle.tmds_word.specs.Bits.{window}
use Rattle.tmds_word.specs.Column.{Column, blues, greens, reds}
use Rattle.tmds_word.proofs.Below.{and-left}
use Rattle.terc4.specs.Columns.{one_if, is_control_column, is_twelve_or_more, video_words, closing_words, island_words}
use Rattle.terc4.specs.Tables.{is_control, is_guard, is_in, value_in, terc_words, video_guard, island_guard}
use Rattle.terc4.proofs.Words.{few_turns}
use Rattle.lane_align.specs.Lanes.{IsEdge}
use Rattle.lane_deskew.proofs.First.{one_first}
use Rattle.island_pack.specs.Kinds.{Kind, control_column, kinds_of, kind_at, EndsAt}
use Rattle.island_pack.specs.Periods.{Period}
use Rattle.island_pack.specs.Sparse.{no_column, column_at}
use Rattle.link_laws.specs.Alternating.{IsAlternating}
use Rattle.link_laws.proofs.Guards.{one_at_most}
use Rattle.link_laws.proofs.LaneEnds.{kind_cases}
use Rattle.link_laws.proofs.Lanes.{fitting_at}
use Rattle.link_laws.proofs.LocalLanes.{aligned_whatever_follows}
use Rattle.link_laws.proofs.Shapes.{alternating, ends_apart}
use Rattle.link_laws.proofs.Spelled.{FitsWord, FitsColumn, fitting_freely}
use Rattle.link_laws.proofs.Tapped.{characters}
use Rattle.link_sink.specs.Sinks.{Fed}
use Rattle.relock_sink.specs.Rivals.{middle, columns_before, is_guard_band}
use Rattle.relock_sink.specs.Doubts.{IsContender}
use Rattle.relock_laws.specs.Doubted.{is_guard_word, IsUnmistaken, IsUnmistakenColumn, ClearHasNoContender}
use Rattle.relock_laws.specs.WholeAmid.{HasClearEndsFrom}
use Rattle.relock_laws.proofs.Refuting.{between}
use Rattle.relock_laws.proofs.Spared.{AreSpelled, IsLaneFrom, three_after, RunEnds, run_ends}
use Rattle.relock_laws.proofs.Undoubted.{lane_from, same_there, AreAfter, enough_before}
use Rattle.relock_laws.proofs.Upholding.{AreFrom, column_there}
use Rattle.relock_laws.proofs.Windows.{words_of_column}

-- Guard bands.

-- each word of a column is a guard word
record AreGuards (c : Column) : Type 0 where
  blue : is_guard_word c.blue ≡ true
  green : is_guard_word c.green ≡ true
  red : is_guard_word c.red ≡ true

-- three of three tests
three_of : (a b c : Bool) → 3 ≤ one_if a + one_if b + one_if c → (a ≡ true) × (b ≡ true) × (c ≡ true)
unfolding one_if
three_of true true true h = (refl, refl, refl)
three_of false b c h = let x = one_at_most b in let y = one_at_most c in absurd (omega arith)
three_of true false c h = let y = one_at_most c in absurd (omega arith)
three_of true true false h = absurd (omega arith)

two_guards : is_guard_word 0x2cc ≡ true
unfolding is_guard is_in video_guard island_guard
two_guards = refl

one_guard : is_guard_word 0x133 ≡ true
unfolding is_guard is_in video_guard island_guard
one_guard = refl

-- a word that is a guard word
guard_is : (w v : ℕ) → (w == v) ≡ true → is_guard_word v ≡ true → is_guard_word w ≡ true
guard_is w v same h = ap is_guard_word (eqb-true w v same) ∙ h

twelve_is : (a : Bool) (w : ℕ) → is_twelve_or_more (value_in terc_words w) ≡ true → (a || is_twelve_or_more (value_in terc_words w)) ≡ true
twelve_is a w h = grind arith

video_guards : (c : Column) → nat_le 3 (video_words c) ≡ true → AreGuards c
unfolding video_words video_guard
video_guards c h =
    let t = three_of (c.blue == 0x2cc) (c.green == 0x133) (c.red == 0x2cc) (leb-true 3 (one_if (c.blue == 0x2cc) + one_if (c.green == 0x133) + one_if (c.red == 0x2cc)) h) in
    record { blue = guard_is c.blue 0x2cc t.0 two_guards; green = guard_is c.green 0x133 t.1 one_guard; red = guard_is c.red 0x2cc t.2 two_guards }

island_guards : (c : Column) → nat_le 3 (island_words c) ≡ true → AreGuards c
unfolding island_words closing_words island_guard
island_guards c h =
    let all = leb-true 3 (one_if (is_twelve_or_more (value_in terc_words c.blue)) + (one_if (c.green == 0x133) + one_if (c.red == 0x133))) h in
    let t = three_of (is_twelve_or_more (value_in terc_words c.blue)) (c.green == 0x133) (c.red == 0x133) (omega arith) in
    record { blue = twelve_is (is_guard c.blue) c.blue t.0; green = guard_is c.green 0x133 t.1 one_guard; red = guard_is c.red 0x133 t.2 one_guard }

either_so : (a b : Bool) → (a || b) ≡ true → (a ≡ true) ⊎ (b ≡ true)
either_so true b h = inl refl
either_so false b h = inr h

band_guards : (g h : Column) → is_guard_band g h ≡ true → AreGuards g
unfolding is_guard_band
band_guards g h so =
    elim (either_so (nat_le 3 (video_words g) && nat_le 3 (video_words h)) (nat_le 3 (island_words g) && nat_le 3 (island_words h)) so) [
      | inl video ↦ video_guards g (and-left (nat_le 3 (video_words g)) (nat_le 3 (video_words h)) video)
      | inr island ↦ island_guards g (and-left (nat_le 3 (island_words g)) (nat_le 3 (island_words h)) island)
    ]

-- One lane.

-- about a place words were received as control words only in control columns, and there as no guard words
record IsClearLane (kinds : List Kind) (words : List ℕ) (i : ℕ) : Type 0 where
  controls : (k : ℕ) → i < k + 15 → k ≤ i + 3 → k < length words → is_control (get_or words k 0) ≡ true → kind_at kinds k ≡ control_column
  guards : (k : ℕ) → i < k + 15 → k ≤ i + 3 → k < length words → kind_at kinds k ≡ control_column → is_guard_word (get_or words k 0) ≡ true → ⊥

-- what was sent as a control word is one of a control column
of_kind : (k : Kind) (w : ℕ) → FitsWord k w → is_control w ≡ true → k ≡ control_column
of_kind k w fits control = kind_cases (k ≡ control_column) k (λ is. is) (λ apart. absurd (true≢false (sym control ∙ few_turns w (fits.others apart))))

clear_lane : (g : Column → ℕ) (ps : List Period) (sent received : List Column) (i : ℕ) → AreSpelled ps sent received
    → ((k : Kind) (c : Column) → FitsColumn k c → FitsWord k (g c))
    → ((k : ℕ) → i < k + 15 → k ≤ i + 3 → IsUnmistaken (g (column_at sent k)) (g (column_at received k))) → IsClearLane (kinds_of ps) (map g received) i
clear_lane g ps sent received i h of clear =
    let size = length-map received g in
    let long = h.same_length in
    let word : (k : ℕ) → k < length received → get_or (map g received) k 0 ≡ g (column_at received k) = λ k lt. get_or-map g received k no_column 0 lt in
    let fits : (k : ℕ) → k < length received → FitsWord (kind_at (kinds_of ps) k) (g (column_at sent k)) =
    λ k lt. of (kind_at (kinds_of ps) k) (column_at sent k) (fitting_at (kinds_of ps) sent (fitting_freely ps sent h.conforming h.spelled) k (omega arith)) in
    record {
      controls = λ k low high lt is. of_kind (kind_at (kinds_of ps) k) (g (column_at sent k)) (fits k (omega arith)) ((clear k low high).control (sym (ap is_control (word k (omega arith))) ∙ is));
      guards = λ k low high lt is guard. (clear k low high).guard ((fits k (omega arith)).controls is) (sym (ap is_guard_word (word k (omega arith))) ∙ guard);
    }

-- twelve control words end with a character, and a guard word follows
record GuardFollows (words : List ℕ) (m : ℕ) : Type 0 where
  run : RunEnds words m
  guard : is_guard_word (get_or words (m + 1) 0) ≡ true

last_control : (words : List ℕ) (m : ℕ) → RunEnds words m → is_control (get_or words m 0) ≡ true
last_control words m run =
    let far = run.far in
    let at : m - 11 + 11 ≡ m = omega arith in
    ap (λ n. is_control (get_or words n 0)) (sym at) ∙ run.controls 11 (omega arith)

-- where they do no later than at that place, they end a control period
ends_there : (kinds : List Kind) (words : List ℕ) (i m : ℕ) → IsClearLane kinds words i → GuardFollows words m → i ≤ m + 14 → m ≤ i → EndsAt kinds m
ends_there kinds words i m clear follows low high =
    let within = follows.run.within in
    record {
      here = clear.controls m (omega arith) (omega arith) (omega arith) (last_control words m follows.run);
      then = λ is. clear.guards (m + 1) (omega arith) (omega arith) within is follows.guard;
    }

-- and near the end of one they end with it
one_run : (kinds : List Kind) (words : List ℕ) → IsAlternating kinds → (i m : ℕ) → EndsAt kinds i → IsClearLane kinds words i → GuardFollows words m → i ≤ m + 14 → m ≤ i + 14 → m ≡ i
one_run kinds words alternates i m ends clear follows low high = elim (cases_lt m i) [
  | inl early ↦
      let far = ends_apart kinds alternates m i (ends_there kinds words i m clear follows low (omega arith)) ends early in
      omega arith
  | inr upto ↦ elim (cases_lt i m) [
    | inr same ↦ omega arith
    | inl late ↦
        let run = follows.run in
        let far = run.far in
        let within = run.within in
        let n = max (i + 1) (m - 11) in
        let k = n - (i + 1) in
        let at : m - 11 + (n - (m - 11)) ≡ n = omega arith in
        let place : i + 1 + k ≡ n = omega arith in
        let control : is_control (get_or words n 0) ≡ true = ap (λ l. is_control (get_or words l 0)) (sym at) ∙ run.controls (n - (m - 11)) (omega arith) in
        absurd (three_after kinds alternates i k ends (omega arith) (ap (kind_at kinds) place ∙ clear.controls n (omega arith) (omega arith) (omega arith) control))
  ]
]

-- an edge with a guard word, as many whole characters after that of the alignment
edge_follows : (words : List ℕ) (xs : List Bool) (p n a d w m : ℕ) → IsLaneFrom words xs p n a → IsEdge xs d → 120 ≤ p → p + 10 * n ≤ d → p % 10 ≡ d % 10 → m + n ≡ a + (11 + (d - p) / 10)
    → window xs (d - 120 + 10 * 12) ≡ Some w → is_guard_word w ≡ true → GuardFollows words m
edge_follows words xs p n a d w m lane edge past later whole place here guard =
    let c = (d - p) / 10 in
    let at : d - 120 + 10 * 12 ≡ p - 120 + 10 * (c + 12) = omega arith in
    let word = lane (m + 1) (c + 12) w (omega arith) (omega arith) (ap (window xs) (sym at) ∙ here) in
    record { run = run_ends words xs p n a d m lane edge past whole later place; guard = ap is_guard_word word.is ∙ guard }

-- Three lanes.

-- the second of three numbers is one of them
middle_is : (a b c : ℕ) → (middle a b c ≡ a) ⊎ ((middle a b c ≡ b) ⊎ (middle a b c ≡ c))
middle_is a b c = elim (cases_lt a b) [
  | inl ab ↦ elim (cases_lt b c) [
    | inl bc ↦ inr (inl (omega arith))
    | inr cb ↦ elim (cases_lt a c) [ inl ac ↦ inr (inr (omega arith)) | inr ca ↦ inl (omega arith) ]
  ]
  | inr ba ↦ elim (cases_lt a c) [
    | inl ac ↦ inl (omega arith)
    | inr ca ↦ elim (cases_lt b c) [ inl bc ↦ inr (inr (omega arith)) | inr cb ↦ inr (inl (omega arith)) ]
  ]
]

-- edges as many columns after those of the alignment have its skew
skew_there : (p q r d e f c : ℕ) → p < d → q < e → r < f → p % 10 ≡ d % 10 → q % 10 ≡ e % 10 → r % 10 ≡ f % 10 → (d - p) / 10 ≡ c → (e - q) / 10 ≡ c → (f - r) / 10 ≡ c
    → (p + 10 * c ≡ d) × (q + 10 * c ≡ e) × (r + 10 * c ≡ f)
skew_there p q r d e f c x y z b g v i j k = (omega arith, omega arith, omega arith)

-- what an alignment whose characters are those of received columns, and edges that contend with it, say of a lane: how many columns there
-- are between, and that the control words end there
record IsLaneThere (kinds : List Kind) (words : List ℕ) (i m : ℕ) : Type 0 where
  clear : IsClearLane kinds words i
  follows : GuardFollows words m
  low : i ≤ m + 14
  high : m ≤ i + 14

lane_ends : (kinds : List Kind) (words : List ℕ) (i m : ℕ) → IsLaneThere kinds words i m → m ≡ i → EndsAt kinds i
lane_ends kinds words i m l at = subst (EndsAt kinds) at (ends_there kinds words i m l.clear l.follows l.low (omega arith))

lane_same : (kinds : List Kind) (words : List ℕ) → IsAlternating kinds → (i m : ℕ) → EndsAt kinds i → IsLaneThere kinds words i m → m ≡ i
lane_same kinds words alternates i m ends l = one_run kinds words alternates i m ends l.clear l.follows l.low l.high

-- one of three lanes ends at the place, so all do
all_same : (kinds : List Kind) (us vs ws : List ℕ) → IsAlternating kinds → (i l m n : ℕ) → IsLaneThere kinds us i l → IsLaneThere kinds vs i m → IsLaneThere kinds ws i n
    → (l ≡ i) ⊎ ((m ≡ i) ⊎ (n ≡ i)) → (l ≡ i) × (m ≡ i) × (n ≡ i)
all_same kinds us vs ws alternates i l m n b g w one =
    let ends : EndsAt kinds i =
    elim one [
      | inl at ↦ lane_ends kinds us i l b at
      | inr other ↦ elim other [ inl at ↦ lane_ends kinds vs i m g at | inr at ↦ lane_ends kinds ws i n w at ]
    ] in
    (lane_same kinds us alternates i l ends b, lane_same kinds vs alternates i m ends g, lane_same kinds ws alternates i n ends w)

-- no edges contend where the ends of control periods are clear from a column on, and the alignment's characters from its column n on are those
-- of received columns
pub none_contends : (ps : List Period) (sent received : List Column) (from : ℕ) → AreSpelled ps sent received → HasClearEndsFrom sent received from → (x : Fed) (p q r n a : ℕ)
    → AreFrom received x p q r n a → (d e f : ℕ) → IsContender x p q r d e f → AreAfter p q r n d e f → from + n ≤ a + (11 + columns_before p q r d e f) → ⊥
none_contends ps sent received from h clear x p q r n a are d e f is after late =
    let c = columns_before p q r d e f in
    let enough = enough_before p q r n d e f after in
    let i = a + (11 + c) - n in
    let o = is.period in
    let l = column_there received x p q r n a i (11 + c) o.last are (omega arith) (omega arith) o.is_last in
    let g = column_there received x p q r n a (i + 1) (11 + c + 1) o.first are (omega arith) (omega arith) o.is_first in
    let control = ap is_control_column l.1 ∙ o.control in
    let ends = ap is_control_column g.1 ∙ o.ends in
    let t = is.later.triple in
    let u = is.later.own.first.triple in
    let past_b = u.blue.past in
    let past_g = u.green.past in
    let past_r = u.red.past in
    let lb = is.later.blue_later in
    let lg = is.later.green_later in
    let lr = is.later.red_later in
    let ab = after.blue in
    let ag = after.green in
    let ar = after.red in
    let w = between x p q r d e f is.later.own t lb lg lr in
    let over_b = w.near.first_over in
    let under_b = w.near.first_under in
    let over_g = w.near.second_over in
    let under_g = w.near.second_under in
    let over_r = w.near.third_over in
    let under_r = w.near.third_under in
    let band = is.later.band in
    let guards = band_guards band.here band.next band.so in
    let words = words_of_column x.blue x.green x.red d e f 12 band.here band.is_here in
    let kinds = kinds_of ps in
    let unmistaken : (k : ℕ) → i < k + 15 → k ≤ i + 3 → IsUnmistakenColumn (column_at sent k) (column_at received k) = λ k low high. clear i k (omega arith) control ends low high in
    let blue : IsLaneThere kinds (blues received) i (a + (11 + (d - p) / 10) - n) =
    record {
      clear = clear_lane (λ c. c.blue) ps sent received i h (λ k c fits. fits.blue) (λ k low high. (unmistaken k low high).blue);
      follows = edge_follows (blues received) x.blue p n a d band.here.blue _ are.blue t.blue (omega arith) ab w.blue_whole (omega arith) words.blue_is guards.blue;
      low = omega arith;
      high = omega arith;
    } in
    let green : IsLaneThere kinds (greens received) i (a + (11 + (e - q) / 10) - n) =
    record {
      clear = clear_lane (λ c. c.green) ps sent received i h (λ k c fits. fits.green) (λ k low high. (unmistaken k low high).green);
      follows = edge_follows (greens received) x.green q n a e band.here.green _ are.green t.green (omega arith) ag w.green_whole (omega arith) words.green_is guards.green;
      low = omega arith;
      high = omega arith;
    } in
    let red : IsLaneThere kinds (reds received) i (a + (11 + (f - r) / 10) - n) =
    record {
      clear = clear_lane (λ c. c.red) ps sent received i h (λ k c fits. fits.red) (λ k low high. (unmistaken k low high).red);
      follows = edge_follows (reds received) x.red r n a f band.here.red _ are.red t.red (omega arith) ar w.red_whole (omega arith) words.red_is guards.red;
      low = omega arith;
      high = omega arith;
    } in
    let one : (a + (11 + (d - p) / 10) - n ≡ i) ⊎ ((a + (11 + (e - q) / 10) - n ≡ i) ⊎ (a + (11 + (f - r) / 10) - n ≡ i)) = elim (middle_is ((d - p) / 10) ((e - q) / 10) ((f - r) / 10)) [
      | inl at ↦ inl (omega arith)
      | inr other ↦ elim other [ inl at ↦ inr (inl (omega arith)) | inr at ↦ inr (inr (omega arith)) ]
    ] in
    let all = all_same kinds (blues received) (greens received) (reds received) (alternating ps h.conforming) i _ _ _ blue green red one in
    let all_b = all.0 in
    let all_g = all.1 in
    let all_r = all.2 in
    let same = skew_there p q r d e f c lb lg lr w.blue_whole w.green_whole w.red_whole (omega arith) (omega arith) (omega arith) in
    is.other_skew (same_there p q r d e f c same.0 same.1 same.2)

-- The first alignment, whatever follows.

pub clear_has_no_contender : ClearHasNoContender
clear_has_no_contender ps sent received offset skews counts x until h tapped small aligns clear p q r d e f is =
    let found = aligned_whatever_follows ps sent received until h offset skews counts x.blue x.green x.red tapped small aligns in
    let a = found.4.0 in
    let begins = found.4.3 in
    let at_b = begins.blue in
    let at_g = begins.green in
    let at_r = begins.red in
    let t = found.3.triple in
    let b = t.blue.past in
    let g = t.green.past in
    let v = t.red.past in
    let same = one_first x.blue x.green x.red found.0 found.1 found.2 p q r found.3 is.later.own.first in
    let are : AreFrom received x found.0 found.1 found.2 0 a = record {
      blue = lane_from (blues received) x.blue (offset + slice_index skews 0) (slice_index counts 0) found.0 a (characters (λ l. l.blue) received (λ k lt. (h.characters k lt).blue)) tapped.blue_part.bits_are (omega arith) (omega arith);
      green = lane_from (greens received) x.green (offset + slice_index skews 1) (slice_index counts 1) found.1 a (characters (λ l. l.green) received (λ k lt. (h.characters k lt).green)) tapped.green_part.bits_are (omega arith) (omega arith);
      red = lane_from (reds received) x.red (offset + slice_index skews 2) (slice_index counts 2) found.2 a (characters (λ l. l.red) received (λ k lt. (h.characters k lt).red)) tapped.red_part.bits_are (omega arith) (omega arith);
    } in
    let lb = is.later.blue_later in
    let lg = is.later.green_later in
    let lr = is.later.red_later in
    none_contends ps sent received 0 (record { conforming = h.conforming; spelled = h.spelled; same_length = h.same_length }) (λ i k late control ends low high. clear i k control ends low high) x p q r 0 a
    (subst (λ n. AreFrom received x n q r 0 a) same.0 (subst (λ n. AreFrom received x found.0 n r 0 a) same.1 (subst (λ n. AreFrom received x found.0 found.1 n 0 a) same.2 are))) d e f is
    (record { blue = omega arith; green = omega arith; red = omega arith }) (omega arith)
