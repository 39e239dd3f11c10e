-- The lanes of a tap have a control period whole whose columns were received as they were sent.
use Rattle.std.proofs.Common.{◌≡◌, ℕ, ◌+◌, ◌-◌, ◌*◌, ◌<◌, ◌≤◌, Bool, true, false, List, length, map, take, drop, get_or, refl, ap, ◌∙◌, sym, subst, arith, Some, length-drop}
use Rattle.std.specs.Prelude.{slice_index}
use Rattle.std.proofs.lemmas.List.{length-map, get_or-map}
use Rattle.tmds_word.specs.Bits.{number, window}
use Rattle.tmds_word.specs.Column.{Column, blues, greens, reds}
use Rattle.tmds_word.specs.Taps.{part_of, IsTap, AreNear}
use Rattle.terc4.specs.Tables.{is_control}
use Rattle.terc4.proofs.Words.{few_turns}
use Rattle.lane_align.specs.Lanes.{HasControl}
use Rattle.lane_align.proofs.Controls.{window_here, not_both}
use Rattle.lane_deskew.specs.Aligned.{aligned_column}
use Rattle.island_pack.specs.Kinds.{Kind, control_column, kinds_of, kind_at}
use Rattle.island_pack.specs.Periods.{Period}
use Rattle.island_pack.specs.Sparse.{no_column, column_at, unlike_at, IsNarrow}
use Rattle.lane_track.proofs.Around.{length-part}
use Rattle.link_laws.proofs.Freely.{free_received}
use Rattle.link_laws.proofs.Shapes.{alternating}
use Rattle.link_laws.proofs.Spelled.{FitsWord, FitsColumn}
use Rattle.link_laws.proofs.Tapped.{characters}
use Rattle.link_sink.specs.Sinks.{Fed}
use Rattle.relock_sink.specs.Bands.{AtEdges}
use Rattle.relock_sink.specs.Relocks.{is_announced}
use Rattle.relock_sink.specs.Rivals.{is_guard_band}
use Rattle.relock_laws.specs.Doubted.{IsWholeRun}
use Rattle.relock_laws.specs.Refuted.{GoesOn}
use Rattle.relock_laws.specs.Settled.{EndsNineteen, IsGoodPeriod}
use Rattle.relock_laws.specs.RefutingSettled.{IsWholeGoodFrom}
use Rattle.relock_laws.specs.WholePeriods.{IsWholeAmong, HasWholeLane, WholeComesWhole}
use Rattle.relock_laws.proofs.Announced.{ArePair, pair_at, announces, whole_as_sent}
use Rattle.relock_laws.proofs.Begun.{three_before}
use Rattle.relock_laws.proofs.Refuting.{column_of_windows}
use Rattle.relock_laws.proofs.Seen.{part_word}
use Rattle.relock_laws.proofs.Spared.{AreSpelled, spelled_freely, spared_fits}
use Rattle.relock_laws.proofs.Windows.{rest_window}

-- One lane: its words, as the columns that were received, and its bits.

module _ (g : Column → ℕ) (ps : List Period) (sent received : List Column) (h : AreSpelled ps sent received) (j a : ℕ) (whole : IsWholeAmong ps sent received j a)
    (inside : a + 28 ≤ length received) (of : (k : Kind) (c : Column) → FitsColumn k c → FitsWord k (g c)) where
  word : (k : ℕ) → k < length received → get_or (map g received) k 0 ≡ g (column_at received k)
  word k lt = get_or-map g received k no_column 0 lt

  fits : (k : ℕ) → j ≤ k + 3 → k < a + 27 → FitsWord (kind_at (kinds_of ps) k) (g (column_at received k))
  fits k low high =
      let within = inside in
      of (kind_at (kinds_of ps) k) (column_at received k) (spared_fits ps sent received h k (whole.as_sent k low high) (omega arith))

  control : (k : ℕ) → j ≤ k → k < a + 12 → is_control (get_or (map g received) k 0) ≡ true
  control k low high =
      let within = inside in
      ap is_control (word k (omega arith)) ∙ (fits k (omega arith) (omega arith)).controls (whole.begins.control k low (omega arith))

  other : (k : ℕ) → j ≤ k + 3 → k < a + 27 → (kind_at (kinds_of ps) k ≡ control_column → ⊥) → is_control (get_or (map g received) k 0) ≡ false
  other k low high none =
      let within = inside in
      ap is_control (word k (omega arith)) ∙ few_turns (g (column_at received k)) ((fits k low high).others none)

  before : (k : ℕ) → k < 3 → is_control (get_or (map g received) (j - 1 - k) 0) ≡ false
  before k lt =
      let late = whole.late in
      let long = whole.long in
      let at : j ≡ j - 1 + 1 = omega arith in
      let then : kind_at (kinds_of ps) (j - 1 + 1) ≡ control_column = subst (λ n. kind_at (kinds_of ps) n ≡ control_column) at (whole.begins.control j (omega arith) (omega arith)) in
      other (j - 1 - k) (omega arith) (omega arith) (λ is. three_before (kinds_of ps) (alternating ps h.conforming) (j - 1) k (whole.begins.before (j - 1) at) then lt (omega arith) is)

  module _ (xs us : List Bool) (offset skew many ahead place : ℕ) (lane : HasWholeLane offset skew ahead j a place (length xs)) (tapped : us ≡ part_of (map g received) (offset + skew) many)
      (after : drop ahead xs ≡ us) (below : (k : ℕ) → k < length (map g received) → get_or (map g received) k 0 < 1024) where
    -- where the character of a column begins
    abbrev At : ℕ → ℕ
    At k = place + 10 * k - 10 * (a + 12)

    pub here : (k : ℕ) → j ≤ k + 3 → k < a + 28 → window xs (At k) ≡ Some (get_or (map g received) k 0)
    here k low high =
        let late = whole.late in
        let at = lane.at in
        let from = lane.from in
        let upto = lane.upto in
        let w = number (take 10 (drop (At k) xs)) in
        let is = window_here xs (At k) w (λ short. omega arith) refl in
        let mine = rest_window ahead xs (At k) w (omega arith) is in
        let said = part_word (map g received) (offset + skew) many (At k - ahead) k w below (subst (λ ys. window ys (At k - ahead) ≡ Some w) (after ∙ tapped) mine) (omega arith) in
        is ∙ ap Some (sym said.is)

    has : (k p : ℕ) → j ≤ k → k < a + 12 → At k ≡ p → HasControl xs p
    has k p low high at = subst (HasControl xs) at (record { word = get_or (map g received) k 0; here = here k (omega arith) (omega arith); control = control k low high })

    has_none : (k p : ℕ) → j ≤ k + 3 → k < a + 28 → is_control (get_or (map g received) k 0) ≡ false → At k ≡ p → HasControl xs p → ⊥
    has_none k p low high none at is = not_both xs (At k) (get_or (map g received) k 0) (here k low high) none (subst (HasControl xs) (sym at) is)

    pub nineteen : EndsNineteen xs place
    nineteen =
        let from = lane.from in
        let long = whole.long in
        record { begins = omega arith; controls = λ k lt. has (a + 12 - 19 + k) (place - 190 + 10 * k) (omega arith) (omega arith) (omega arith) }

    pub goes_on : GoesOn xs place
    goes_on =
        let long = whole.long in
        record {
          whole = λ k lt. let at : At (a + 12 + k) ≡ place + 10 * k = omega arith in (get_or (map g received) (a + 12 + k) 0, subst (λ p. window xs p ≡ Some (get_or (map g received) (a + 12 + k) 0)) at (here (a + 12 + k) (omega arith) (omega arith)));
          payload = λ k w lt is.
              let at : place + 10 * k ≡ At (a + 12 + k) = omega arith in
              let there = here (a + 12 + k) (omega arith) (omega arith) in
              let none = other (a + 12 + k) (omega arith) (omega arith) (whole.other (a + 12 + k) (omega arith) (omega arith)) in
              let mine = subst (λ p. window xs p ≡ Some w) at is in
              cc;
        }

    pub whole_run : IsWholeRun xs place (a + 12 - j)
    whole_run =
        let from = lane.from in
        let long = whole.long in
        let late = whole.late in
        record {
          begins = omega arith;
          controls = λ k lt. has (a + 11 - k) (place - 10 - 10 * k) (omega arith) (omega arith) (omega arith);
          others = λ k lt. has_none (j - 1 - k) (place - 10 * (a + 12 - j) - 10 - 10 * k) (omega arith) (omega arith) (before k lt) (omega arith);
        }

    -- its character of a column after the control period
    pub character : (k : ℕ) → k < 16 → window xs (place - 120 + 10 * (12 + k)) ≡ Some (g (column_at received (a + 12 + k)))
    character k lt =
        let within = inside in
        let from = lane.from in
        let long = whole.long in
        let at : At (a + 12 + k) ≡ place - 120 + 10 * (12 + k) = omega arith in
        subst (λ p. window xs p ≡ Some (g (column_at received (a + 12 + k)))) at (here (a + 12 + k) (omega arith) (omega arith) ∙ ap Some (word (a + 12 + k) (omega arith)))

-- Three lanes.

-- the columns that were received are long enough for a lane
long_enough : (words : List ℕ) (xs us : List Bool) (offset skew many ahead j a place : ℕ) → HasWholeLane offset skew ahead j a place (length xs) → us ≡ part_of words (offset + skew) many
    → offset + skew + many ≤ 10 * length words → drop ahead xs ≡ us → a + 28 ≤ length words
long_enough words xs us offset skew many ahead j a place lane tapped within after =
    let at = lane.at in
    let upto = lane.upto in
    let part = length-part words (offset + skew) many within in
    let rest = length-drop ahead xs in
    let same = ap length after in
    let size = ap length tapped in
    omega arith

-- a control period comes whole
pub record ComesSpelled (ps : List Period) (sent received : List Column) (offset : ℕ) (skews counts : List ℕ) (x fed : Fed) (before : List ℕ) (j a d e f : ℕ) : Type 0 where
  pub spelled : AreSpelled ps sent received
  pub narrow : (i : ℕ) → i < length received → IsNarrow (column_at received i)
  pub tap : IsTap received offset skews counts x.blue x.green x.red
  pub blue_after : drop (slice_index before 0) fed.blue ≡ x.blue
  pub green_after : drop (slice_index before 1) fed.green ≡ x.green
  pub red_after : drop (slice_index before 2) fed.red ≡ x.red
  pub whole : IsWholeAmong ps sent received j a
  pub blue : HasWholeLane offset (slice_index skews 0) (slice_index before 0) j a d (length fed.blue)
  pub green : HasWholeLane offset (slice_index skews 1) (slice_index before 1) j a e (length fed.green)
  pub red : HasWholeLane offset (slice_index skews 2) (slice_index before 2) j a f (length fed.red)
  pub blue_green : AreNear d e
  pub green_red : AreNear e f
  pub blue_red : AreNear d f

-- a lane has so many bits before the control period
pub whole_before : (offset skew ahead j a place many : ℕ) → j + 19 ≤ a + 12 → HasWholeLane offset skew ahead j a place many → ahead + 190 ≤ place
whole_before offset skew ahead j a place many long lane = let from = lane.from in omega arith

-- the lanes have it whole
pub spelled_whole : (ps : List Period) (sent received : List Column) (offset : ℕ) (skews counts : List ℕ) (x fed : Fed) (before : List ℕ) (j a d e f : ℕ)
    → ComesSpelled ps sent received offset skews counts x fed before j a d e f → IsWholeGoodFrom fed d e f (a + 12 - j)
spelled_whole ps sent received offset skews counts x fed before j a d e f comes = record {
  good = record {
    good = good;
    band = band;
    blue_on = goes_on (λ l. l.blue) ps sent received h j a comes.whole inside (λ k l fits. fits.blue) fed.blue x.blue offset (slice_index skews 0) (slice_index counts 0) (slice_index before 0) d comes.blue tap.blue_part.bits_are comes.blue_after blues_are;
    green_on = goes_on (λ l. l.green) ps sent received h j a comes.whole inside (λ k l fits. fits.green) fed.green x.green offset (slice_index skews 1) (slice_index counts 1) (slice_index before 1) e comes.green tap.green_part.bits_are comes.green_after greens_are;
    red_on = goes_on (λ l. l.red) ps sent received h j a comes.whole inside (λ k l fits. fits.red) fed.red x.red offset (slice_index skews 2) (slice_index counts 2) (slice_index before 2) f comes.red tap.red_part.bits_are comes.red_after reds_are;
  };
  blue = whole_run (λ l. l.blue) ps sent received h j a comes.whole inside (λ k l fits. fits.blue) fed.blue x.blue offset (slice_index skews 0) (slice_index counts 0) (slice_index before 0) d comes.blue tap.blue_part.bits_are comes.blue_after blues_are;
  green = whole_run (λ l. l.green) ps sent received h j a comes.whole inside (λ k l fits. fits.green) fed.green x.green offset (slice_index skews 1) (slice_index counts 1) (slice_index before 1) e comes.green tap.green_part.bits_are comes.green_after greens_are;
  red = whole_run (λ l. l.red) ps sent received h j a comes.whole inside (λ k l fits. fits.red) fed.red x.red offset (slice_index skews 2) (slice_index counts 2) (slice_index before 2) f comes.red tap.red_part.bits_are comes.red_after reds_are;
}
  where
    h : AreSpelled ps sent received
    h = comes.spelled

    tap : IsTap received offset skews counts x.blue x.green x.red
    tap = comes.tap

    blues_are : (k : ℕ) → k < length (blues received) → get_or (blues received) k 0 < 1024
    blues_are = characters (λ l. l.blue) received (λ k lt. (comes.narrow k lt).blue)

    greens_are : (k : ℕ) → k < length (greens received) → get_or (greens received) k 0 < 1024
    greens_are = characters (λ l. l.green) received (λ k lt. (comes.narrow k lt).green)

    reds_are : (k : ℕ) → k < length (reds received) → get_or (reds received) k 0 < 1024
    reds_are = characters (λ l. l.red) received (λ k lt. (comes.narrow k lt).red)

    inside : a + 28 ≤ length received
    inside =
        let size = length-map received (λ c. c.blue) in
        let long = long_enough (blues received) fed.blue x.blue offset (slice_index skews 0) (slice_index counts 0) (slice_index before 0) j a d comes.blue tap.blue_part.bits_are tap.blue_part.within comes.blue_after in
        omega arith

    column_there : (k : ℕ) → k < 16 → aligned_column fed.blue fed.green fed.red d e f (12 + k) ≡ Some (column_at received (a + 12 + k))
    column_there k lt =
        column_of_windows fed d e f (12 + k) (column_at received (a + 12 + k)).blue (column_at received (a + 12 + k)).green (column_at received (a + 12 + k)).red
        (character (λ l. l.blue) ps sent received h j a comes.whole inside (λ k l fits. fits.blue) fed.blue x.blue offset (slice_index skews 0) (slice_index counts 0) (slice_index before 0) d comes.blue tap.blue_part.bits_are comes.blue_after blues_are k lt)
        (character (λ l. l.green) ps sent received h j a comes.whole inside (λ k l fits. fits.green) fed.green x.green offset (slice_index skews 1) (slice_index counts 1) (slice_index before 1) e comes.green tap.green_part.bits_are comes.green_after greens_are k lt)
        (character (λ l. l.red) ps sent received h j a comes.whole inside (λ k l fits. fits.red) fed.red x.red offset (slice_index skews 2) (slice_index counts 2) (slice_index before 2) f comes.red tap.red_part.bits_are comes.red_after reds_are k lt)

    pair : ArePair (column_at sent (a + 12)) (column_at sent (a + 12 + 1))
    pair =
        let within = inside in
        let long = h.same_length in
        pair_at ps sent h.conforming h.spelled (a + 11) (a + 12) comes.whole.ends (omega arith) (omega arith)

    here : aligned_column fed.blue fed.green fed.red d e f 12 ≡ Some (column_at received (a + 12))
    here = let at : a + 12 + 0 ≡ a + 12 = omega arith in subst (λ n. aligned_column fed.blue fed.green fed.red d e f 12 ≡ Some (column_at received n)) at (column_there 0 (omega arith))

    none : (k : ℕ) → k < 2 → unlike_at sent received (a + 12 + k) ≡ 0
    none k lt = let long = comes.whole.long in comes.whole.as_sent (a + 12 + k) (omega arith) (omega arith)

    none_here : unlike_at sent received (a + 12) ≡ 0
    none_here = let long = comes.whole.long in comes.whole.as_sent (a + 12) (omega arith) (omega arith)

    few_next : unlike_at sent received (a + 12 + 1) ≤ 1
    few_next = let none = none 1 (omega arith) in omega arith

    opens : AtEdges is_announced true fed d e f
    opens = record {
      here = column_at received (a + 12);
      next = column_at received (a + 12 + 1);
      is_here = here;
      is_next = column_there 1 (omega arith);
      so = announces (column_at sent (a + 12)) (column_at sent (a + 12 + 1)) (column_at received (a + 12)) (column_at received (a + 12 + 1)) pair none_here few_next;
    }

    band : AtEdges is_guard_band true fed d e f
    band = record {
      here = column_at received (a + 12);
      next = column_at received (a + 12 + 1);
      is_here = here;
      is_next = column_there 1 (omega arith);
      so = whole_as_sent (column_at sent (a + 12)) (column_at sent (a + 12 + 1)) (column_at received (a + 12)) (column_at received (a + 12 + 1)) pair none_here (none 1 (omega arith));
    }

    good : IsGoodPeriod fed d e f
    good = record {
      blue = nineteen (λ l. l.blue) ps sent received h j a comes.whole inside (λ k l fits. fits.blue) fed.blue x.blue offset (slice_index skews 0) (slice_index counts 0) (slice_index before 0) d comes.blue tap.blue_part.bits_are comes.blue_after blues_are;
      green = nineteen (λ l. l.green) ps sent received h j a comes.whole inside (λ k l fits. fits.green) fed.green x.green offset (slice_index skews 1) (slice_index counts 1) (slice_index before 1) e comes.green tap.green_part.bits_are comes.green_after greens_are;
      red = nineteen (λ l. l.red) ps sent received h j a comes.whole inside (λ k l fits. fits.red) fed.red x.red offset (slice_index skews 2) (slice_index counts 2) (slice_index before 2) f comes.red tap.red_part.bits_are comes.red_after reds_are;
      blue_green = comes.blue_green;
      green_red = comes.green_red;
      blue_red = comes.blue_red;
      opens = opens;
    }

-- Received with sparse damage.

pub whole_comes_whole : WholeComesWhole
whole_comes_whole ps sent received offset skews counts x fed before j a d e f comes =
    let free = free_received ps sent received comes.reception.reception in
    let whole = spelled_whole ps sent received offset skews counts x fed before j a d e f
    (record {
      spelled = spelled_freely ps sent received free;
      narrow = free.sparse.characters;
      tap = comes.reception.tapped;
      blue_after = comes.blue_after;
      green_after = comes.green_after;
      red_after = comes.red_after;
      whole = comes.whole;
      blue = comes.blue;
      green = comes.green;
      red = comes.red;
      blue_green = comes.blue_green;
      green_red = comes.green_red;
      blue_red = comes.blue_red;
    }) in (
      record {
        reception = comes.reception;
        blue_after = comes.blue_after;
        green_after = comes.green_after;
        red_after = comes.red_after;
        ends = comes.whole.ends;
        blue = omega (arith, comes.blue.at);
        green = omega (arith, comes.green.at);
        red = omega (arith, comes.red.at);
        blue_whole = whole_before offset (slice_index skews 0) (slice_index before 0) j a d (length fed.blue) comes.whole.long comes.blue;
        green_whole = whole_before offset (slice_index skews 1) (slice_index before 1) j a e (length fed.green) comes.whole.long comes.green;
        red_whole = whole_before offset (slice_index skews 2) (slice_index before 2) j a f (length fed.red) comes.whole.long comes.red;
        good = whole.good.good;
      },
      whole,
    )
