-- When an alignment is doubted: never a true one, and each other one at a control period that is received whole.
use Rattle.std.specs.Prelude.{◌≡◌, ◌⊎◌, ℕ, ◌+◌, ◌-◌, ◌*◌, ◌<◌, ◌≤◌, Bool, true, false, ◌||◌, List, length}
use Rattle.tmds_word.specs.Column.{Column}
use Rattle.tmds_word.specs.Taps.{IsTap, HasSmallSkew}
use Rattle.terc4.specs.Columns.{is_control_column, is_twelve_or_more}
use Rattle.terc4.specs.Tables.{is_control, is_guard, value_in, terc_words}
use Rattle.lane_align.specs.Lanes.{HasControl}
use Rattle.island_pack.specs.Kinds.{control_column, kinds_of, kind_at}
use Rattle.island_pack.specs.Periods.{Period}
use Rattle.island_pack.specs.Sparse.{column_at, unlike_at, IsSparseInPayload}
use Rattle.link_sink.specs.Sinks.{Fed}
use Rattle.link_laws.specs.Laws.{EndsControl, AlignsUntil}
use Rattle.link_laws.specs.Local.{ReceivedUntil}
use Rattle.track_laws.specs.Laws.{Received, Slipped, SlipsInVideo}
use Rattle.relock_sink.specs.Rivals.{IsConfirmed, HaveSameSkew}
use Rattle.relock_sink.specs.Doubts.{IsContender, IsDoubted}
use Rattle.relock_laws.specs.Refuted.{IsWholePeriod}

-- A true alignment.

-- where the damage of a tap lies in pixels and packets alone, no control period ends by its alignment in the midst of edges of
-- another skew at which a guard band is received whole
abbrev pub PayloadHasNoContender : Type 0
PayloadHasNoContender =
    (ps : List Period) (sent received : List Column) (offset : ℕ) (skews counts : List ℕ) (x : Fed) → Received ps sent received offset skews counts x
    → IsSparseInPayload ps sent received → HasSmallSkew skews
    → (p q r d e f : ℕ) → IsContender x p q r d e f → ⊥

-- nor does one where a lane slips once within a line, whether the slip is noticed or not
abbrev pub SlipHasNoContender : Type 0
SlipHasNoContender =
    (ps : List Period) (sent received : List Column) (offset : ℕ) (skews counts : List ℕ) (x y : Fed) (lane place dropped first next : ℕ)
    → Received ps sent received offset skews counts x → Slipped x lane place dropped y
    → SlipsInVideo ps sent received offset skews counts lane place dropped first next
    → (p q r d e f : ℕ) → IsContender y p q r d e f → ⊥

-- the fifteen columns up to the end of a control period and the three after it were received as they were sent
abbrev pub IsSpared : List Column → List Column → ℕ → Type 0
IsSpared sent received i = (k : ℕ) → i < k + 15 → k ≤ i + 3 → unlike_at sent received k ≡ 0

-- column j is the first one of the control period whose last one is column i
pub record BeginsUntil (ps : List Period) (j i : ℕ) : Type 0 where
  pub order : j ≤ i
  pub control : (k : ℕ) → j ≤ k → k ≤ i → kind_at (kinds_of ps) k ≡ control_column
  pub before : (h : ℕ) → j ≡ h + 1 → kind_at (kinds_of ps) h ≡ control_column → ⊥

-- its first column, the three before it, if there are any, and its last one were received as they were sent
pub record IsBeginSpared (sent received : List Column) (j i : ℕ) : Type 0 where
  pub first : (k : ℕ) → j ≤ k + 3 → k ≤ j → unlike_at sent received k ≡ 0
  pub last : unlike_at sent received i ≡ 0

-- the beginning or the end was spared of each control period that other columns follow, from the one before a column on
abbrev pub EachIsSpared : List Period → List Column → List Column → ℕ → Type 0
EachIsSpared ps sent received until =
    (i : ℕ) → until ≤ i + 1 → EndsControl ps i → i + 1 < length sent → IsSpared sent received i ⊎ ((j : ℕ) × BeginsUntil ps j i × IsBeginSpared sent received j i)

-- where damage is sparse, wherever it lies, and spares control and guard words until a column that each lane has, and from there on
-- the beginning or the end of each control period, the alignment of a tap is not doubted
abbrev pub UntilIsUndoubted : Type 0
UntilIsUndoubted =
    (ps : List Period) (sent received : List Column) (offset : ℕ) (skews counts : List ℕ) (x : Fed) → Received ps sent received offset skews counts x
    → HasSmallSkew skews → (until : ℕ) → AlignsUntil ps sent received offset skews counts until → EachIsSpared ps sent received until
    → (p q r d e f : ℕ) → IsDoubted x p q r d e f → ⊥

-- Where any characters are received after the alignment.

-- whether a word is a guard word of some lane: before a video data period, or at a data island
abbrev pub is_guard_word : ℕ → Bool
is_guard_word w = is_guard w || is_twelve_or_more (value_in terc_words w)

-- If a word was received as a control word, it was sent as one. A control word was not received as a guard word.
pub record IsUnmistaken (sent received : ℕ) : Type 0 where
  pub control : is_control received ≡ true → is_control sent ≡ true
  pub guard : is_control sent ≡ true → is_guard_word received ≡ true → ⊥

pub record IsUnmistakenColumn (sent received : Column) : Type 0 where
  pub blue : IsUnmistaken sent.blue received.blue
  pub green : IsUnmistaken sent.green received.green
  pub red : IsUnmistaken sent.red received.red

-- This holds of the fifteen columns up to the end of each control period, as it was received, and of the three after it.
abbrev pub HasClearEnds : List Column → List Column → Type 0
HasClearEnds sent received =
    (i k : ℕ) → is_control_column (column_at received i) ≡ true → is_control_column (column_at received (i + 1)) ≡ false → i < k + 15 → k ≤ i + 3
    → IsUnmistakenColumn (column_at sent k) (column_at received k)

-- Then no other edges contend with the alignment.
abbrev pub ClearHasNoContender : Type 0
ClearHasNoContender =
    (ps : List Period) (sent received : List Column) (offset : ℕ) (skews counts : List ℕ) (x : Fed) (until : ℕ) → ReceivedUntil ps sent received until
    → IsTap received offset skews counts x.blue x.green x.red → HasSmallSkew skews → AlignsUntil ps sent received offset skews counts until
    → HasClearEnds sent received → (p q r d e f : ℕ) → IsContender x p q r d e f → ⊥

-- Another alignment.

-- so many control characters end at an edge, and three others come before them
pub record IsWholeRun (xs : List Bool) (e n : ℕ) : Type 0 where
  pub begins : 10 * n + 30 ≤ e
  pub controls : (k : ℕ) → k < n → HasControl xs (e - 10 - 10 * k)
  pub others : (k : ℕ) → k < 3 → HasControl xs (e - 10 * n - 10 - 10 * k) → ⊥

-- a control period of so many columns that is received whole on all lanes, from three characters before it on
pub record IsWholeFrom (fed : Fed) (d e f n : ℕ) : Type 0 where
  pub period : IsWholePeriod fed d e f
  pub blue : IsWholeRun fed.blue d n
  pub green : IsWholeRun fed.green e n
  pub red : IsWholeRun fed.red f n

-- an earlier alignment with another skew is doubted there, without exception
abbrev pub DoubtsAtWhole : Type 0
DoubtsAtWhole =
    (fed : Fed) (p q r d e f n : ℕ) → IsConfirmed fed p q r → IsWholeFrom fed d e f n → p < d → q < e → r < f → (HaveSameSkew p q r d e f → ⊥)
    → IsDoubted fed p q r d e f

-- Examples.

-- a tap, damage beside the end of a control period of which leaves its beginning spared
pub record IsUndoubtedExample (ps : List Period) (sent received : List Column) (offset : ℕ) (skews counts : List ℕ) (x : Fed) (until i : ℕ) : Type 0 where
  pub reception : Received ps sent received offset skews counts x
  pub small : HasSmallSkew skews
  pub aligns : AlignsUntil ps sent received offset skews counts until
  pub spared : EachIsSpared ps sent received until
  pub ends : EndsControl ps i
  pub late : until ≤ i + 1
  pub damaged : IsSpared sent received i → ⊥

abbrev pub HasUndoubtedExample : Type 0
HasUndoubtedExample =
    (ps : List Period) × (sent received : List Column) × (offset : ℕ) × (skews counts : List ℕ) × (x : Fed) × (until i : ℕ)
    × IsUndoubtedExample ps sent received offset skews counts x until i
