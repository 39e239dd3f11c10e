-- Where the epochs of lanes end whose alignment is used only where a period opens at it: nowhere where no lane slips, and where
-- one slips once, where those of lanes do whose alignments are always used.
use Rattle.std.specs.Prelude.{ℕ, ◌+◌, ◌≤◌, List}
use Rattle.tmds_word.specs.Column.{Column}
use Rattle.tmds_word.specs.Taps.{IsTap, HasSmallSkew}
use Rattle.lane_deskew.specs.Triples.{IsFirst}
use Rattle.island_pack.specs.Periods.{Period}
use Rattle.island_pack.specs.Sparse.{unlike_at, IsSparseInPayload}
use Rattle.link_sink.specs.Sinks.{Fed}
use Rattle.link_laws.specs.Laws.{AlignsUntil, IsExample}
use Rattle.link_laws.specs.Local.{ReceivedUntil}
use Rattle.track_sink.specs.Epochs.{rest_of, IsEnd, HasNoEnd}
use Rattle.track_laws.specs.Laws.{Received, Slipped, SlipsInVideo, IsSlipExample}
use Rattle.relock_sink.specs.Relocks.{IsUnconfirmed, IsSlipEnd, IsUnconfirmedEnd, IsLastEpoch}

-- Where no lane slips.

-- where damage lies in pixels and packets alone, the lanes of a tap have one epoch
abbrev pub PayloadIsLastEpoch : Type 0
PayloadIsLastEpoch =
    (ps : List Period) (sent received : List Column) (offset : ℕ) (skews counts : List ℕ) (x : Fed) → Received ps sent received offset skews counts x
    → IsSparseInPayload ps sent received → HasSmallSkew skews → IsLastEpoch x

-- so they have where damage is sparse, wherever it lies, and spares control and guard words until a column that each of them has
abbrev pub UntilIsLastEpoch : Type 0
UntilIsLastEpoch =
    (ps : List Period) (sent received : List Column) (offset : ℕ) (skews counts : List ℕ) (x : Fed) → Received ps sent received offset skews counts x
    → HasSmallSkew skews → (until : ℕ) → AlignsUntil ps sent received offset skews counts until → IsLastEpoch x

-- and where any characters are received after that column and the one after it, if no lane has a stray
abbrev pub LocalIsLastEpoch : Type 0
LocalIsLastEpoch =
    (ps : List Period) (sent received : List Column) (offset : ℕ) (skews counts : List ℕ) (x : Fed) (until : ℕ) → ReceivedUntil ps sent received until
    → IsTap received offset skews counts x.blue x.green x.red → HasSmallSkew skews → AlignsUntil ps sent received offset skews counts until
    → unlike_at sent received (until + 1) ≤ 1 → HasNoEnd x → IsLastEpoch x

-- Where one lane slips once.

-- whether the slip is noticed or not, the first alignment is not unconfirmed
abbrev pub SlipIsConfirmed : Type 0
SlipIsConfirmed =
    (ps : List Period) (sent received : List Column) (offset : ℕ) (skews counts : List ℕ) (x y : Fed) (lane place dropped first next : ℕ)
    → Received ps sent received offset skews counts x → Slipped x lane place dropped y
    → SlipsInVideo ps sent received offset skews counts lane place dropped first next
    → (d e f : ℕ) → IsUnconfirmed y d e f → ⊥

-- so the epoch ends where a lane has a stray, if one has, and nowhere else; and the epoch after it has no end
pub record EndsAtSlip (y : Fed) : Type 0 where
  pub ends : (found start : ℕ) → IsEnd y found start → IsSlipEnd y found start
  pub then : (found start : ℕ) → IsSlipEnd y found start → IsLastEpoch (rest_of start y)
  pub confirmed : (place : ℕ) → IsUnconfirmedEnd y place → ⊥
  pub last : HasNoEnd y → IsLastEpoch y

abbrev pub SlipEnds : Type 0
SlipEnds =
    (ps : List Period) (sent received : List Column) (offset : ℕ) (skews counts : List ℕ) (x y : Fed) (lane place dropped first next : ℕ)
    → Received ps sent received offset skews counts x → Slipped x lane place dropped y
    → SlipsInVideo ps sent received offset skews counts lane place dropped first next
    → EndsAtSlip y

-- Examples.

-- one epoch of lanes with a full alignment and with damage of a pixel, of a packet, of a control period and of guard columns
pub record IsLastExample (ps : List Period) (sent received : List Column) (counts : List ℕ) (until : ℕ) (x : Fed) : Type 0 where
  pub example : IsExample ps sent received counts until
  pub aligned : (d e f : ℕ) × IsFirst x.blue x.green x.red d e f
  pub last : IsLastEpoch x

abbrev pub HasLastExample : Type 0
HasLastExample = (ps : List Period) × (sent received : List Column) × (counts : List ℕ) × (until : ℕ) × (x : Fed) × IsLastExample ps sent received counts until x

-- a stream with a damaged pixel one lane of which loses bits of a line: an epoch that ends there, and one after it
abbrev pub HasSlipEndExample : Type 0
HasSlipEndExample =
    (ps : List Period) × (sent received : List Column) × (counts : List ℕ) × (x y : Fed) × (first next start : ℕ)
    × IsSlipExample ps sent received counts x y first next start × IsSlipEnd y 0 start × IsLastEpoch (rest_of start y)
