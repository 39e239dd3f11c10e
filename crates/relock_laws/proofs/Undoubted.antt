-- The alignment of a tap is not doubted where the beginning or the end of each control period is spared: edges contend with it at none
-- whose end is, and where a beginning is, all lanes show it.
use Rattle.std.proofs.Common.{◌≡◌, ℕ, ◌+◌, ◌-◌, ◌*◌, ◌/◌, ◌%◌, ◌<◌, ◌≤◌, max, Bool, List, length, get_or, subst, arith, inl, inr, Some}
use Rattle.std.specs.Prelude.{slice_index}
use Rattle.std.proofs.lemmas.Bool.{cases_lt}
use Rattle.tmds_word.specs.Bits.{window}
use Rattle.tmds_word.specs.Column.{Column, blues, greens, reds}
use Rattle.tmds_word.specs.Taps.{part_of, IsPart, IsTap, HasSmallSkew}
use Rattle.lane_align.specs.Lanes.{IsEdge}
use Rattle.lane_deskew.specs.Triples.{IsFirst}
use Rattle.lane_deskew.proofs.First.{one_first}
use Rattle.island_pack.specs.Kinds.{Kind, control_column, kinds_of, kind_at, EndsAt}
use Rattle.island_pack.specs.Periods.{Period}
use Rattle.link_sink.specs.Sinks.{Fed}
use Rattle.link_laws.specs.Alternating.{IsAlternating}
use Rattle.link_laws.specs.Laws.{ReceivedFreely, EndsControl, BeginColumn, HoldsEnd, AlignsUntil}
use Rattle.link_laws.proofs.Freely.{free_received}
use Rattle.link_laws.proofs.Shapes.{alternating}
use Rattle.link_laws.proofs.Tapped.{characters, tap_accounted}
use Rattle.link_laws.proofs.Until.{Holds}
use Rattle.relock_sink.specs.Rivals.{middle, columns_before, HaveSameSkew}
use Rattle.relock_sink.specs.Doubts.{IsContender, IsDoubted}
use Rattle.relock_laws.specs.Doubted.{IsSpared, BeginsUntil, IsBeginSpared, EachIsSpared, UntilIsUndoubted}
use Rattle.relock_laws.proofs.Begun.{begun_lane, begun_there}
use Rattle.relock_laws.proofs.Refuting.{between}
use Rattle.relock_laws.proofs.Seen.{part_word}
use Rattle.relock_laws.proofs.Spared.{IsLaneFrom, spared_lane, edge_there, three_after}
use Rattle.relock_laws.proofs.UntilEnds.{lane_until, early_edge_there}
use Rattle.relock_laws.proofs.Upholding.{AreFrom, ends_of, ends_long}

-- The alignment in use.

-- the words of a tap, from the end of a control period on
pub lane_from : (words : List ℕ) (xs : List Bool) (from many p a : ℕ) → ((k : ℕ) → k < length words → get_or words k 0 < 1024) → xs ≡ part_of words from many → 120 ≤ p → p + from ≡ 10 * (a + 12)
    → IsLaneFrom words xs p 0 a
lane_from words xs from many p a below is past begins i j w le at here =
    part_word words from many (p - 120 + 10 * j) i w below (subst (λ ys. window ys (p - 120 + 10 * j) ≡ Some w) is here) (omega arith)

-- it is the end of a control period, as the columns that were received
pub record IsOwn (ps : List Period) (received : List Column) (offset : ℕ) (skews : List ℕ) (until : ℕ) (x : Fed) (p q r : ℕ) : Type 0 where
  pub a : ℕ
  pub upto : a + 12 ≤ until
  pub ends : EndsControl ps (a + 11)
  pub are : AreFrom received x p q r 0 a
  pub begins : BeginColumn offset skews (a + 12) p q r

pub own_first : (ps : List Period) (sent received : List Column) → ReceivedFreely ps sent received → (offset : ℕ) (skews counts : List ℕ) (x : Fed) → IsTap received offset skews counts x.blue x.green x.red
    → HasSmallSkew skews → (until : ℕ) → AlignsUntil ps sent received offset skews counts until → (p q r : ℕ) → IsFirst x.blue x.green x.red p q r → IsOwn ps received offset skews until x p q r
own_first ps sent received reception offset skews counts x tapped small until aligns p q r first =
    let t = tap_accounted ps sent received reception offset skews counts x.blue x.green x.red tapped small until aligns in
    let begins = t.4.3 in
    let at_b = begins.blue in
    let at_g = begins.green in
    let at_r = begins.red in
    let b = t.3.triple.blue.past in
    let g = t.3.triple.green.past in
    let v = t.3.triple.red.past in
    let h = reception.sparse in
    let same = one_first x.blue x.green x.red t.0 t.1 t.2 p q r t.3 first in
    let is : IsOwn ps received offset skews until x t.0 t.1 t.2 = record {
      a = t.4.0;
      upto = t.4.1;
      ends = t.4.2.ends;
      are = record {
        blue = lane_from (blues received) x.blue (offset + slice_index skews 0) (slice_index counts 0) t.0 t.4.0
            (characters (λ l. l.blue) received (λ k lt. (h.characters k lt).blue)) tapped.blue_part.bits_are (omega arith) (omega arith);
        green = lane_from (greens received) x.green (offset + slice_index skews 1) (slice_index counts 1) t.1 t.4.0
            (characters (λ l. l.green) received (λ k lt. (h.characters k lt).green)) tapped.green_part.bits_are (omega arith) (omega arith);
        red = lane_from (reds received) x.red (offset + slice_index skews 2) (slice_index counts 2) t.2 t.4.0
            (characters (λ l. l.red) received (λ k lt. (h.characters k lt).red)) tapped.red_part.bits_are (omega arith) (omega arith);
      };
      begins = begins;
    } in
    subst (λ n. IsOwn ps received offset skews until x n q r) same.0
    (subst (λ n. IsOwn ps received offset skews until x t.0 n r) same.1 (subst (λ n. IsOwn ps received offset skews until x t.0 t.1 n) same.2 is))

-- edges as many whole characters after one on each lane have its skew
pub same_there : (p q r d e f c : ℕ) → p + 10 * c ≡ d → q + 10 * c ≡ e → r + 10 * c ≡ f → HaveSameSkew p q r d e f
same_there p q r d e f c b g v = (omega arith, omega arith)

-- The beginning of a control period.

-- it has at least twelve columns
long_period : (kinds : List Kind) → IsAlternating kinds → (j i : ℕ) → EndsAt kinds i → j ≤ i → (h : ℕ) → j ≡ h + 1 → (kind_at kinds h ≡ control_column → ⊥) → j + 11 ≤ i
long_period kinds alternates j i ends order h at none = elim (cases_lt i (j + 11)) [
  | inr long ↦ long
  | inl short ↦
      let place : i - (i - h) ≡ h = omega arith in
      absurd (none (subst (λ m. kind_at kinds m ≡ control_column) place (ends_long kinds alternates i (i - h) ends (omega arith))))
]

-- and begins at least three columns after another one
begins_far : (kinds : List Kind) → IsAlternating kinds → (u j i : ℕ) → EndsAt kinds u → j ≤ i → ((k : ℕ) → j ≤ k → k ≤ i → kind_at kinds k ≡ control_column) → u < i → u + 4 ≤ j
begins_far kinds alternates u j i ends order control later = elim (cases_lt j (u + 4)) [
  | inr far ↦ far
  | inl near ↦
      let k = max j (u + 1) - (u + 1) in
      absurd (three_after kinds alternates u k ends (omega arith) (control (u + 1 + k) (omega arith) (omega arith)))
]

-- Where an alignment has received columns from one on.

-- three edges lie no earlier than so many characters after the alignment
pub record AreAfter (p q r n d e f : ℕ) : Type 0 where
  pub blue : p + 10 * n ≤ d
  pub green : q + 10 * n ≤ e
  pub red : r + 10 * n ≤ f

-- so they have as many columns before them
pub enough_before : (p q r n d e f : ℕ) → AreAfter p q r n d e f → n ≤ columns_before p q r d e f
enough_before p q r n d e f after =
    let b = after.blue in
    let g = after.green in
    let v = after.red in
    least_middle ((d - p) / 10) ((e - q) / 10) ((f - r) / 10) n (omega arith) (omega arith) (omega arith)
  where
    least_middle : (a b c n : ℕ) → n ≤ a → n ≤ b → n ≤ c → n ≤ middle a b c
    least_middle a b c n x y z = omega arith

module _ (ps : List Period) (sent received : List Column) (reception : ReceivedFreely ps sent received) (x : Fed) (p q r n a : ℕ) (are : AreFrom received x p q r n a) where
  -- edges contend at no control period that is spared
  pub spared_has_none : (d e f i : ℕ) → IsContender x p q r d e f → AreAfter p q r n d e f → i + n ≡ a + (11 + columns_before p q r d e f) → IsSpared sent received i → ⊥
  spared_has_none d e f i is after at spared =
      let c = columns_before p q r d e f in
      let kinds = kinds_of ps in
      let alternates = alternating ps reception.conforming in
      let enough = enough_before p q r n d e f after in
      let ends = (ends_of ps sent received reception x p q r n a i (11 + c) are (omega arith) at is.period).0 in
      let t = is.later.triple in
      let own = is.later.own.first.triple in
      let past_b = own.blue.past in
      let past_g = own.green.past in
      let past_r = own.red.past in
      let near = between x p q r d e f is.later.own t is.later.blue_later is.later.green_later is.later.red_later in
      let b = edge_there kinds (blues received) alternates x.blue p n a i c d are.blue ends at (spared_lane (λ l. l.blue) ps sent received i reception spared (λ k l fits. fits.blue))
      t.blue (omega arith) after.blue near.blue_whole near.near.first_over near.near.first_under in
      let g = edge_there kinds (greens received) alternates x.green q n a i c e are.green ends at (spared_lane (λ l. l.green) ps sent received i reception spared (λ k l fits. fits.green))
      t.green (omega arith) after.green near.green_whole near.near.second_over near.near.second_under in
      let v = edge_there kinds (reds received) alternates x.red r n a i c f are.red ends at (spared_lane (λ l. l.red) ps sent received i reception spared (λ k l fits. fits.red))
      t.red (omega arith) after.red near.red_whole near.near.third_over near.near.third_under in
      is.other_skew (same_there p q r d e f c b g v)

  -- and none doubt it at one whose beginning is
  begun_has_none : (d e f i j : ℕ) → IsDoubted x p q r d e f → AreAfter p q r n d e f → i + n ≡ a + (11 + columns_before p q r d e f) → a + 15 ≤ j → BeginsUntil ps j i → IsBeginSpared sent received j i → ⊥
  begun_has_none d e f i j is after at late begins spared =
      let c = columns_before p q r d e f in
      let kinds = kinds_of ps in
      let alternates = alternating ps reception.conforming in
      let enough = enough_before p q r n d e f after in
      let seen = ends_of ps sent received reception x p q r n a i (11 + c) are (omega arith) (omega arith) is.contender.period in
      let within = seen.2 in
      let long : j + 11 ≤ i = long_period kinds alternates j i seen.0 begins.order (j - 1) (omega arith) (begins.before (j - 1) (omega arith)) in
      let h = reception.sparse in
      let t = is.contender.later.triple in
      let own = is.contender.later.own.first.triple in
      let past_b = own.blue.past in
      let past_g = own.green.past in
      let past_r = own.red.past in
      let near = between x p q r d e f is.contender.later.own t is.contender.later.blue_later is.contender.later.green_later is.contender.later.red_later in
      let bits = is.begins.bits in
      let b = begun_there (blues received) x.blue p n a are.blue (omega arith) j i c d
      (begun_lane (λ l. l.blue) ps sent received j i reception begins spared (omega arith) (omega arith) (λ k l fits. fits.blue) h.few_blue)
      own.blue t.blue near.blue_whole after.blue late long at near.near.first_over near.near.first_under (d - bits) is.begins.blue in
      let g = begun_there (greens received) x.green q n a are.green (omega arith) j i c e
      (begun_lane (λ l. l.green) ps sent received j i reception begins spared (omega arith) (omega arith) (λ k l fits. fits.green) h.few_green)
      own.green t.green near.green_whole after.green late long at near.near.second_over near.near.second_under (e - bits) is.begins.green in
      let v = begun_there (reds received) x.red r n a are.red (omega arith) j i c f
      (begun_lane (λ l. l.red) ps sent received j i reception begins spared (omega arith) (omega arith) (λ k l fits. fits.red) h.few_red)
      own.red t.red near.red_whole after.red late long at near.near.third_over near.near.third_under (f - bits) is.begins.red in
      is.contender.other_skew (omega arith, omega arith)

  -- so none doubt it after a column from which the beginning or the end of each control period is spared
  pub later_undoubted : (from : ℕ) → EachIsSpared ps sent received from → EndsControl ps (a + 11) → (d e f : ℕ) → IsDoubted x p q r d e f → AreAfter p q r n d e f
      → n < columns_before p q r d e f → from + n ≤ a + (11 + columns_before p q r d e f) + 1 → ⊥
  later_undoubted from each_is_spared own_ends d e f is after more late =
      let c = columns_before p q r d e f in
      let i = a + (11 + c) - n in
      let long = reception.sparse.same_length in
      let seen = ends_of ps sent received reception x p q r n a i (11 + c) are (omega arith) (omega arith) is.contender.period in
      let within = seen.2 in
      elim (each_is_spared i (omega arith) seen.0 (omega arith)) [
        | inl spared ↦ spared_has_none d e f i is.contender after (omega arith) spared
        | inr begun ↦
            let far = begins_far (kinds_of ps) (alternating ps reception.conforming) (a + 11) begun.0 i own_ends begun.1.order begun.1.control (omega arith) in
            begun_has_none d e f i begun.0 is after (omega arith) (omega arith) begun.1 begun.2
      ]

-- Of a tap.

module _ (ps : List Period) (sent received : List Column) (reception : ReceivedFreely ps sent received) (offset : ℕ) (skews counts : List ℕ) (x : Fed)
    (tapped : IsTap received offset skews counts x.blue x.green x.red) where
  -- edges contend at no control period that ends before the column until which damage spares control and guard words, but the last of those
  early_has_none : (until : ℕ) → AlignsUntil ps sent received offset skews counts until → (p q r d e f a : ℕ) → AreFrom received x p q r 0 a → BeginColumn offset skews (a + 12) p q r
      → IsContender x p q r d e f → a + (11 + columns_before p q r d e f) + 1 < until → ⊥
  early_has_none until aligns p q r d e f a are begins is early =
      let c = columns_before p q r d e f in
      let kinds = kinds_of ps in
      let alternates = alternating ps reception.conforming in
      let ends = (ends_of ps sent received reception x p q r 0 a (a + (11 + c)) (11 + c) are (omega arith) (omega arith) is.period).0 in
      let t = is.later.triple in
      let n = between x p q r d e f is.later.own t is.later.blue_later is.later.green_later is.later.red_later in
      let h = reception.sparse in
      let at_b = begins.blue in
      let at_g = begins.green in
      let at_r = begins.red in
      let b = early_edge_there kinds until (blues received) _ alternates (lane_until (λ l. l.blue) ps sent received until reception aligns.spares (λ k l fits. fits.blue) (λ k lt. (h.characters k lt).blue) h.few_blue)
      aligns.after (offset + slice_index skews 0) (slice_index counts 0) a c p d (holds (blues received) x.blue 0 until aligns.holds (omega arith) tapped.blue_part) ends early
      (subst (λ ys. IsEdge ys d) tapped.blue_part.bits_are t.blue) (omega arith) is.later.blue_later n.blue_whole n.near.first_over n.near.first_under in
      let g = early_edge_there kinds until (greens received) _ alternates (lane_until (λ l. l.green) ps sent received until reception aligns.spares (λ k l fits. fits.green) (λ k lt. (h.characters k lt).green) h.few_green)
      aligns.after (offset + slice_index skews 1) (slice_index counts 1) a c q e (holds (greens received) x.green 1 until aligns.holds (omega arith) tapped.green_part) ends early
      (subst (λ ys. IsEdge ys e) tapped.green_part.bits_are t.green) (omega arith) is.later.green_later n.green_whole n.near.second_over n.near.second_under in
      let v = early_edge_there kinds until (reds received) _ alternates (lane_until (λ l. l.red) ps sent received until reception aligns.spares (λ k l fits. fits.red) (λ k lt. (h.characters k lt).red) h.few_red)
      aligns.after (offset + slice_index skews 2) (slice_index counts 2) a c r f (holds (reds received) x.red 2 until aligns.holds (omega arith) tapped.red_part) ends early
      (subst (λ ys. IsEdge ys f) tapped.red_part.bits_are t.red) (omega arith) is.later.red_later n.red_whole n.near.third_over n.near.third_under in
      is.other_skew (same_there p q r d e f c b g v)
    where
      holds : (words : List ℕ) (bits : List Bool) (lane until : ℕ) → HoldsEnd offset skews counts until → lane < 3 → IsPart words (offset + slice_index skews lane) (slice_index counts lane) bits
          → Holds words (offset + slice_index skews lane) (slice_index counts lane) until
      holds words bits lane until h lt part = record { begins = h.begins lane lt; reaches = h.reaches lane lt; within = part.within }

  -- so where the beginning or the end of each is spared, none doubt it: those that end after it
  pub not_doubted : (until from : ℕ) → AlignsUntil ps sent received offset skews counts until → EachIsSpared ps sent received from
      → (p q r d e f : ℕ) (own : IsOwn ps received offset skews until x p q r) → ((u : ℕ) → until ≤ u + 1 → own.a + 12 ≤ u → from ≤ u + 1) → IsDoubted x p q r d e f → ⊥
  not_doubted until from aligns each_is_spared p q r d e f own late is =
      let c = columns_before p q r d e f in
      let now = is.contender.later in
      let near = between x p q r d e f now.own now.triple now.blue_later now.green_later now.red_later in
      let b = now.blue_later in
      let g = now.green_later in
      let v = now.red_later in
      let one = enough_before p q r 1 d e f (later_by_one b g v near.blue_whole near.green_whole near.red_whole) in
      elim (cases_lt (own.a + (11 + c) + 1) until) [
        | inl short ↦ early_has_none until aligns p q r d e f own.a own.are own.begins is.contender short
        | inr after ↦
            let from_late = late (own.a + (11 + c)) after (omega arith) in
            later_undoubted ps sent received reception x p q r 0 own.a own.are from each_is_spared own.ends d e f is (record { blue = omega arith; green = omega arith; red = omega arith })
            (omega arith) (omega arith)
      ]
    where
      later_by_one : p < d → q < e → r < f → p % 10 ≡ d % 10 → q % 10 ≡ e % 10 → r % 10 ≡ f % 10 → AreAfter p q r 1 d e f
      later_by_one b g v x y z = record { blue = omega arith; green = omega arith; red = omega arith }

pub until_is_undoubted : UntilIsUndoubted
until_is_undoubted ps sent received offset skews counts x reception small until aligns each_is_spared p q r d e f is =
    let free = free_received ps sent received reception.reception in
    let own = own_first ps sent received free offset skews counts x reception.tapped small until aligns p q r is.contender.later.own.first in
    not_doubted ps sent received free offset skews counts x reception.tapped until until aligns each_is_spared p q r d e f own (λ u after later. after) is
