-- Whatever came before: from a good control period on the lanes are aligned where a period opens.
use Rattle.std.specs.Prelude.{◌≡◌, ◌⊎◌, ℕ, ◌+◌, ◌-◌, ◌*◌, ◌<◌, ◌≤◌, min, Bool, true, List, drop, slice_index}
use Rattle.tmds_word.specs.Column.{Column}
use Rattle.tmds_word.specs.Taps.{part_of, AreNear}
use Rattle.lane_align.specs.Lanes.{HasControl}
use Rattle.lane_align.specs.Laws.{IsCalm}
use Rattle.lane_deskew.specs.Triples.{IsFirst}
use Rattle.lane_deskew.specs.Aligned.{aligned_columns}
use Rattle.island_pack.specs.Periods.{Period}
use Rattle.link_laws.specs.Laws.{EndsControl, IsAccounted}
use Rattle.link_sink.specs.Sinks.{Fed}
use Rattle.track_sink.specs.Epochs.{rest_of}
use Rattle.track_sink.specs.declared.watch.Cause.{Cause}
use Rattle.track_laws.specs.Laws.{Received}
use Rattle.relock_sink.specs.Bands.{AtEdges}
use Rattle.relock_sink.specs.Relocks.{is_announced, IsUnconfirmed, IsLastEpoch, relock_ends}

-- nineteen control characters end at a place: the twelve before an edge, and seven more, as many as lanes may be apart
pub record EndsNineteen (xs : List Bool) (e : ℕ) : Type 0 where
  pub begins : 190 ≤ e
  pub controls : (k : ℕ) → k < 19 → HasControl xs (e - 190 + 10 * k)

-- a control period that ends on three lanes near each other, where a period opens; what else the lanes have is free
pub record IsGoodPeriod (fed : Fed) (d e f : ℕ) : Type 0 where
  pub blue : EndsNineteen fed.blue d
  pub green : EndsNineteen fed.green e
  pub red : EndsNineteen fed.red f
  pub blue_green : AreNear d e
  pub green_red : AreNear e f
  pub blue_red : AreNear d f
  pub opens : AtEdges is_announced true fed d e f

-- an epoch ends at a place, for either reason
abbrev pub EndsEpoch : Fed → ℕ → Type 0
EndsEpoch fed place = (cause : Cause) × relock_ends fed cause place

-- the places of a capture at which its epochs begin
pub data IsStart : Fed → ℕ → Type 0 where
  first_start : (fed : Fed) → IsStart fed 0
  next_start : (fed : Fed) (start place : ℕ) → IsStart fed start → EndsEpoch (rest_of start fed) place → IsStart fed (start + place)

-- an epoch has the twelve characters before the edges of a good control period on each lane, and does not end before them; its
-- alignment is at those edges, or it was one before that was confirmed
pub record IsSettled (fed : Fed) (d e f start p q r : ℕ) : Type 0 where
  pub begins : start + 120 ≤ min d (min e f)
  pub ends : (place : ℕ) → EndsEpoch (rest_of start fed) place → min d (min e f) < start + place + 120
  pub first : IsFirst (rest_of start fed).blue (rest_of start fed).green (rest_of start fed).red p q r
  pub place :
      ((start + p ≡ d) × (start + q ≡ e) × (start + r ≡ f))
      ⊎ ((start + p + 200 ≤ d) × (start + q + 200 ≤ e) × (start + r + 200 ≤ f))
  pub confirmed : IsUnconfirmed (rest_of start fed) p q r → ⊥

-- there is such an epoch
abbrev pub SettlesAtPeriod : Type 0
SettlesAtPeriod =
    (fed : Fed) (d e f : ℕ) → IsGoodPeriod fed d e f
    → (start : ℕ) × IsStart fed start × ((p q r : ℕ) × IsSettled fed d e f start p q r)

-- from those nineteen characters on a lane has few damaged characters
pub record IsCalmFrom (xs : List Bool) (e : ℕ) : Type 0 where
  pub words : List ℕ
  pub marks : List Bool
  pub from : ℕ
  pub many : ℕ
  pub calm : IsCalm words marks
  pub part : drop (e - 190) xs ≡ part_of words from many

-- where all three have, that epoch is the last
abbrev pub SettlesForGood : Type 0
SettlesForGood =
    (fed : Fed) (d e f : ℕ) → IsGoodPeriod fed d e f → IsCalmFrom fed.blue d → IsCalmFrom fed.green e → IsCalmFrom fed.red f
    → (start p q r : ℕ) → IsSettled fed d e f start p q r → IsLastEpoch (rest_of start fed)

-- a tap of columns received with sparse damage, wherever it lies, after any bits, so many on each lane; the edges of a good
-- control period of it, which ends before column a + 12
pub record IsAgain (ps : List Period) (sent received : List Column) (offset : ℕ) (skews counts : List ℕ) (x fed : Fed) (before : List ℕ) (a d e f : ℕ) : Type 0 where
  pub reception : Received ps sent received offset skews counts x
  pub blue_after : drop (slice_index before 0) fed.blue ≡ x.blue
  pub green_after : drop (slice_index before 1) fed.green ≡ x.green
  pub red_after : drop (slice_index before 2) fed.red ≡ x.red
  pub ends : EndsControl ps (a + 11)
  pub blue : d + offset + slice_index skews 0 ≡ 10 * (a + 12) + slice_index before 0
  pub green : e + offset + slice_index skews 1 ≡ 10 * (a + 12) + slice_index before 1
  pub red : f + offset + slice_index skews 2 ≡ 10 * (a + 12) + slice_index before 2
  pub blue_whole : slice_index before 0 + 190 ≤ d
  pub green_whole : slice_index before 1 + 190 ≤ e
  pub red_whole : slice_index before 2 + 190 ≤ f
  pub good : IsGoodPeriod fed d e f

-- the epoch that has it is the last, and where it is aligned there, what is reported from there on is the account
abbrev pub RecoversAgain : Type 0
RecoversAgain =
    (ps : List Period) (sent received : List Column) (offset : ℕ) (skews counts : List ℕ) (x fed : Fed) (before : List ℕ) (a d e f : ℕ)
    → IsAgain ps sent received offset skews counts x fed before a d e f
    → (start : ℕ) × IsStart fed start
    × ((p q r : ℕ) × IsSettled fed d e f start p q r × IsLastEpoch (rest_of start fed)
    × (start + p ≡ d → IsAccounted ps sent received (aligned_columns (rest_of start fed).blue (rest_of start fed).green (rest_of start fed).red p q r) a))

-- there are such a tap and bits before it, an epoch of which has an end
abbrev pub HasAgainExample : Type 0
HasAgainExample =
    (ps : List Period) × (sent received : List Column) × (offset : ℕ) × (skews counts : List ℕ) × (x fed : Fed) × (before : List ℕ) × (a d e f place : ℕ)
    × IsAgain ps sent received offset skews counts x fed before a d e f × EndsEpoch fed place

-- an epoch has an end, or it is the last
abbrev pub EndsOrIsLast : Type 0
EndsOrIsLast = (fed : Fed) → ((place : ℕ) × EndsEpoch fed place) ⊎ IsLastEpoch fed

-- and it has one
abbrev pub OneEnd : Type 0
OneEnd = (fed : Fed) (p q : ℕ) → EndsEpoch fed p → EndsEpoch fed q → p ≡ q
