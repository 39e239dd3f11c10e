-- What holds of epochs.
use Rattle.std.specs.Prelude.{◌≡◌, ◌⊎◌, ◌↔◌, ℕ, zero, suc, ◌+◌, ◌-◌, ◌*◌, ◌<◌, ◌≤◌, Bool, true, false, List, [], ◌∷◌, length, take, drop, slice_index}
use Rattle.tmds_word.specs.Column.{Column, blues, greens, reds}
use Rattle.tmds_word.specs.Taps.{part_of, IsTap, HasSmallSkew}
use Rattle.terc4.specs.Tables.{is_control}
use Rattle.lane_align.specs.Lanes.{IsLock, IsEdge}
use Rattle.lane_align.specs.Laws.{IsCalm}
use Rattle.lane_deskew.specs.Triples.{IsFirst}
use Rattle.lane_deskew.specs.Aligned.{aligned_columns}
use Rattle.island_pack.specs.Periods.{Period}
use Rattle.island_pack.specs.Kinds.{kind_at, kinds_of, pixel_column}
use Rattle.island_pack.specs.Sparse.{IsSparseInPayload}
use Rattle.period_grammar.specs.Heard.{heard}
use Rattle.link_sink.specs.Sinks.{Fed}
use Rattle.link_laws.specs.Account.{account}
use Rattle.link_laws.specs.Laws.{ReceivedOf, EndsControl, BeginColumn, IsAccounted, HasUnlike}
use Rattle.link_laws.specs.Local.{IsLocalExample}
use Rattle.lane_track.specs.Slips.{Slips, slipped}
use Rattle.track_sink.specs.TrackEvents.{TrackEvent}
use Rattle.track_sink.specs.Epochs.{EpochRule, lane_of, most_of, rest_of, IsEnd, HasNoEnd, IsTracked}
use Rattle.track_sink.specs.Tracks.{Grows, HasTracked, StartsTrack}
use Rattle.track_sink.specs.declared.watch.Cause.{Cause}

-- of all bits something is reported, and nothing else: so neither their cutting into feeds nor anything else can matter
abbrev pub SomeTrack : Type 0
SomeTrack = (begun : Bool) (z : ℕ) (fed : Fed) → (epochs aligned : ℕ) × (track_events : List TrackEvent) × IsTracked begun z fed epochs aligned track_events

abbrev pub OneTrack : Type 0
OneTrack =
    (begun : Bool) (z : ℕ) (fed : Fed) (n m k j : ℕ) (us vs : List TrackEvent) → IsTracked begun z fed n m us → IsTracked begun z fed k j vs
    → (n ≡ k) × (m ≡ j) × (us ≡ vs)

-- an end that is found stays
abbrev pub EndStays : Type 0
EndStays =
    (before now : Fed) (lane place : ℕ) → IsEnd before lane place → Grows before now → IsEnd now lane place

-- where bits show an end that those before them did not, those before reach no further past it than what shows an end
abbrev pub IsShown : EpochRule → Type 0
IsShown r = (before now : Fed) (cause : Cause) (place : ℕ) → r.none before → Grows before now → r.ends now cause place → most_of before ≤ place + r.back

-- what a tracker reported is the beginning of what is reported of all
abbrev pub ReportedStarts : Type 0
ReportedStarts = (fed : Fed) (reported : List TrackEvent) → HasTracked fed reported → StartsTrack fed reported

-- Where no lane slips.

-- columns received with sparse damage, and a tap of them
pub record Received (ps : List Period) (sent received : List Column) (offset : ℕ) (skews counts : List ℕ) (x : Fed) : Type 0 where
  pub reception : ReceivedOf ps sent received
  pub tapped : IsTap received offset skews counts x.blue x.green x.red

-- there is one epoch, and what is reported is what is reported of the lanes
abbrev pub OneEpoch : Type 0
OneEpoch =
    (ps : List Period) (sent received : List Column) (offset : ℕ) (skews counts : List ℕ) (x : Fed) → Received ps sent received offset skews counts x
    → HasNoEnd x

-- Where one lane slips once.

abbrev pub words_at : List Column → ℕ → List ℕ
words_at cs zero = blues cs
words_at cs (suc zero) = greens cs
words_at cs (suc (suc l)) = reds cs

-- one lane lost so many bits from a place on
pub record Slipped (x : Fed) (lane place dropped : ℕ) (y : Fed) : Type 0 where
  pub within : lane < 3
  pub few : (0 < dropped) × (dropped < 10)
  pub this : lane_of y lane ≡ slipped (lane_of x lane) place dropped
  pub others : (l : ℕ) → l < 3 → (l ≡ lane → ⊥) → lane_of y l ≡ lane_of x l

-- the skews after it: the lane is so many bits later
abbrev pub later_skews : List ℕ → ℕ → ℕ → List ℕ
later_skews skews zero dropped = (slice_index skews 0 + dropped) ∷ slice_index skews 1 ∷ slice_index skews 2 ∷ []
later_skews skews (suc zero) dropped = slice_index skews 0 ∷ (slice_index skews 1 + dropped) ∷ slice_index skews 2 ∷ []
later_skews skews (suc (suc l)) dropped = slice_index skews 0 ∷ slice_index skews 1 ∷ (slice_index skews 2 + dropped) ∷ []

-- damage in pixels and packets alone; the bits of the lane from 120 before the place to 120 after those that were lost
-- belong to undamaged pixels of one video period, whose first column is `first` and whose control period after it
-- begins with column `next`; the skews after the slip are small
pub record SlipsInVideo (ps : List Period) (sent received : List Column) (offset : ℕ) (skews counts : List ℕ) (lane place dropped first next : ℕ) : Type 0 where
  pub alone : IsSparseInPayload ps sent received
  pub begins : 120 ≤ place
  pub ends : place + dropped + 120 ≤ slice_index counts lane
  pub after : 10 * first ≤ offset + slice_index skews lane + place - 120
  pub before : offset + slice_index skews lane + place + dropped + 120 ≤ 10 * next
  pub pixels : (i : ℕ) → first ≤ i → i < next → kind_at (kinds_of ps) i ≡ pixel_column
  pub then : EndsControl ps next ⊎ (kind_at (kinds_of ps) next ≡ pixel_column → ⊥)
  pub undamaged :
      (i : ℕ) → 10 * i < offset + slice_index skews lane + place + dropped + 120 → offset + slice_index skews lane + place - 120 < 10 * i + 10
      → slice_index (words_at received lane) i ≡ slice_index (words_at sent lane) i
  pub small : HasSmallSkew (later_skews skews lane dropped)

-- where an epoch begins on a lane that lost bits, as a place of the lane before: at the control period that begins with column
-- `next`, or one or two characters before it where these were received as control words
pub record BeginsAgain (received : List Column) (offset : ℕ) (skews : List ℕ) (lane dropped next start : ℕ) : Type 0 where
  pub early : ℕ
  pub few : early ≤ 2
  pub control : (k : ℕ) → k < early → is_control (slice_index (words_at received lane) (next - 1 - k)) ≡ true
  pub plain : is_control (slice_index (words_at received lane) (next - 1 - early)) ≡ false
  pub place : start + dropped + offset + slice_index skews lane ≡ 10 * (next - early)

-- what is reported of the columns of the first epoch that end before the slip on the lane
pub record FirstAccounted (ps : List Period) (sent received : List Column) (offset : ℕ) (skews : List ℕ) (y : Fed) (lane place start d e f : ℕ) : Type 0 where
  pub a : ℕ
  pub ends : EndsControl ps (a + 11)
  pub begins : BeginColumn offset skews (a + 12) d e f
  pub reported :
      (m : ℕ) → slice_index (d ∷ e ∷ f ∷ []) lane - 120 + 10 * m ≤ place
      → m ≤ length (aligned_columns (take start y.blue) (take start y.green) (take start y.red) d e f)
      → heard (take m (aligned_columns (take start y.blue) (take start y.green) (take start y.red) d e f)) ≡ account ps sent received a m

abbrev pub FirstEpoch : Type 0
FirstEpoch =
    (ps : List Period) (sent received : List Column) (offset : ℕ) (skews counts : List ℕ) (x y : Fed) (lane place dropped first next start : ℕ)
    → Received ps sent received offset skews counts x → Slipped x lane place dropped y
    → SlipsInVideo ps sent received offset skews counts lane place dropped first next
    → IsEnd y lane start
    → (d e f : ℕ) → IsFirst (take start y.blue) (take start y.green) (take start y.red) d e f
    → FirstAccounted ps sent received offset skews y lane place start d e f

-- at most one slip is noticed, on that lane, at the control period after the line, and what is reported from there on
-- is the account from the first alignment of the second epoch on
abbrev pub SecondEpoch : Type 0
SecondEpoch =
    (ps : List Period) (sent received : List Column) (offset : ℕ) (skews counts : List ℕ) (x y : Fed) (lane place dropped first next : ℕ)
    → Received ps sent received offset skews counts x → Slipped x lane place dropped y
    → SlipsInVideo ps sent received offset skews counts lane place dropped first next
    → (found start : ℕ) → IsEnd y found start
    → (found ≡ lane) × (place ≤ start) × BeginsAgain received offset skews lane dropped next start × HasNoEnd (rest_of start y)
    × ((d e f : ℕ) → IsFirst (drop start y.blue) (drop start y.green) (drop start y.red) d e f
    → (a : ℕ) × IsAccounted ps sent received (aligned_columns (drop start y.blue) (drop start y.green) (drop start y.red) d e f) a
    × BeginColumn (offset + start) (later_skews skews lane dropped) (a + 12) d e f)

-- it is noticed where the lane has a lock before it and twelve characters of that control period, those one or two right
-- before it counted in that were received as control characters
abbrev pub SlipNoticed : Type 0
SlipNoticed =
    (ps : List Period) (sent received : List Column) (offset : ℕ) (skews counts : List ℕ) (x y : Fed) (lane place dropped first next : ℕ)
    → Received ps sent received offset skews counts x → Slipped x lane place dropped y
    → SlipsInVideo ps sent received offset skews counts lane place dropped first next
    → (lock : ℕ) → IsLock (lane_of x lane) lock → lock + 120 ≤ place
    → (ahead : ℕ) → ahead ≤ 2 → ((k : ℕ) → k < ahead → is_control (slice_index (words_at received lane) (next - 1 - k)) ≡ true)
    → 10 * (next - ahead + 12) ≤ offset + slice_index skews lane + slice_index counts lane
    → (start : ℕ) × IsEnd y lane start

-- and not where the lane has no lock before it: there is one epoch, in which the lane locks after the slip
abbrev pub SlipPasses : Type 0
SlipPasses =
    (ps : List Period) (sent received : List Column) (offset : ℕ) (skews counts : List ℕ) (x y : Fed) (lane place dropped first next : ℕ)
    → Received ps sent received offset skews counts x → Slipped x lane place dropped y
    → SlipsInVideo ps sent received offset skews counts lane place dropped first next
    → ((lock : ℕ) → IsLock (lane_of x lane) lock → lock + 120 ≤ place → ⊥) → HasNoEnd y

-- what is reported of the second epoch, from the law on taps: its lanes are a tap of the same columns, later by its
-- start, with the skews after the slip
abbrev pub SecondReported : Type 0
SecondReported =
    (ps : List Period) (sent received : List Column) (offset : ℕ) (skews counts : List ℕ) (x y : Fed) (lane place dropped start : ℕ)
    → Received ps sent received offset skews counts x → IsSparseInPayload ps sent received → Slipped x lane place dropped y
    → HasSmallSkew (later_skews skews lane dropped) → place ≤ start
    → (d e f : ℕ) → IsFirst (drop start y.blue) (drop start y.green) (drop start y.red) d e f
    → (a : ℕ) × IsAccounted ps sent received (aligned_columns (drop start y.blue) (drop start y.green) (drop start y.red) d e f) a
    × BeginColumn (offset + start) (later_skews skews lane dropped) (a + 12) d e f

-- parts of three calm lanes
pub record CalmLanes (x : Fed) (words : ℕ → List ℕ) (marks : ℕ → List Bool) (from many : ℕ → ℕ) : Type 0 where
  pub calm : (l : ℕ) → l < 3 → IsCalm (words l) (marks l)
  pub parts : (l : ℕ) → l < 3 → lane_of x l ≡ part_of (words l) (from l) (many l)

-- where one of them slips once among characters of few turns, an epoch ends there or nowhere, and the next has no end
abbrev pub AtMostTwo : Type 0
AtMostTwo =
    (x y : Fed) (words : ℕ → List ℕ) (marks : ℕ → List Bool) (from many : ℕ → ℕ) (lane place dropped : ℕ)
    → CalmLanes x words marks from many → Slips (words lane) (marks lane) (from lane) (many lane) place dropped → Slipped x lane place dropped y
    → (found start : ℕ) → IsEnd y found start → (found ≡ lane) × (place ≤ start) × HasNoEnd (rest_of start y)

-- where none slips, none ends
abbrev pub CalmHasNoEnd : Type 0
CalmHasNoEnd =
    (x : Fed) (words : ℕ → List ℕ) (marks : ℕ → List Bool) (from many : ℕ → ℕ) → CalmLanes x words marks from many → HasNoEnd x

-- lanes that are cut: this one at a place, the others at another
abbrev pub fronts : Fed → ℕ → ℕ → ℕ → Fed
fronts x zero place start = record { blue = take place x.blue; green = take start x.green; red = take start x.red }
fronts x (suc zero) place start = record { blue = take start x.blue; green = take place x.green; red = take start x.red }
fronts x (suc (suc l)) place start = record { blue = take start x.blue; green = take start x.green; red = take place x.red }

-- what is reported of the first epoch, from the law on taps: its first alignment is that of the lanes before the slip,
-- and what is heard of their aligned columns, which end before the slip on the lane, is the account
abbrev pub FirstReported : Type 0
FirstReported =
    (ps : List Period) (sent received : List Column) (offset : ℕ) (skews counts : List ℕ) (x y : Fed) (lane place dropped start : ℕ)
    → Received ps sent received offset skews counts x → IsSparseInPayload ps sent received → Slipped x lane place dropped y → HasSmallSkew skews
    → ((e : ℕ) → IsEdge (take start (lane_of y lane)) e ↔ IsEdge (take place (lane_of x lane)) e)
    → (d e f : ℕ) → IsFirst (take start y.blue) (take start y.green) (take start y.red) d e f
    → IsFirst (fronts x lane place start).blue (fronts x lane place start).green (fronts x lane place start).red d e f
    × ((a : ℕ) × IsAccounted ps sent received (aligned_columns (fronts x lane place start).blue (fronts x lane place start).green (fronts x lane place start).red d e f) a
    × BeginColumn offset skews (a + 12) d e f)

-- where damage lies in pixels and packets alone, the lanes of a tap have one epoch
abbrev pub PayloadHasNoEnd : Type 0
PayloadHasNoEnd =
    (ps : List Period) (sent received : List Column) (offset : ℕ) (skews counts : List ℕ) (x : Fed) → Received ps sent received offset skews counts x
    → IsSparseInPayload ps sent received → HasNoEnd x

-- a stream with a damaged pixel whose lane 0 loses three bits of a line, where the lanes' skews are up to 70 bits, and both
-- epochs have a full alignment
pub record IsSlipExample (ps : List Period) (sent received : List Column) (counts : List ℕ) (x y : Fed) (first next start : ℕ) : Type 0 where
  pub reception : Received ps sent received 7 (0 ∷ 70 ∷ 35 ∷ []) counts x
  pub slips : Slipped x 0 400 3 y
  pub in_line : SlipsInVideo ps sent received 7 (0 ∷ 70 ∷ 35 ∷ []) counts 0 400 3 first next
  pub damaged : HasUnlike pixel_column ps sent received
  pub end : IsEnd y 0 start
  pub before : HasSmallSkew (0 ∷ 70 ∷ 35 ∷ [])
  pub one : (d e f : ℕ) × IsFirst (take start y.blue) (take start y.green) (take start y.red) d e f
  pub two : (d e f : ℕ) × IsFirst (drop start y.blue) (drop start y.green) (drop start y.red) d e f

-- there is one
abbrev pub HasSlipExample : Type 0
HasSlipExample =
    (ps : List Period) × (sent received : List Column) × (counts : List ℕ) × (x y : Fed) × (first next start : ℕ)
    × IsSlipExample ps sent received counts x y first next start

-- a stream with a column of which no word was received as it was sent, after the alignment, and a period after it that stands
-- alone, in a tap no lane of which has a stray
abbrev pub HasTrackLocalExample : Type 0
HasTrackLocalExample =
    (front : List Period) × (p : Period) × (back : List Period) × (sent received : List Column) × (counts : List ℕ) × (until : ℕ) × (x : Fed)
    × IsLocalExample front p back sent received counts until x.blue x.green x.red × HasNoEnd x
