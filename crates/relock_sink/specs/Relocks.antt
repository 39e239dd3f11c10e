-- When an alignment is used: where a period opens at its edges. After each control period a video data period or a data island
-- begins with a guard band of two columns (HDMI 1.4, section 5.2); an edge that a damaged control character made has none. That
-- an alignment without one is let go is this project's own rule.
use Rattle.std.specs.Prelude.{◌≡◌, ℕ, ◌+◌, ◌<◌, ◌≤◌, max, min, Bool, false, ◌&&◌, ◌||◌, nat_le}
use Rattle.tmds_word.specs.Column.{Column}
use Rattle.terc4.specs.Columns.{video_words, island_words}
use Rattle.lane_deskew.specs.Triples.{IsFirst}
use Rattle.link_sink.specs.Sinks.{Fed}
use Rattle.track_sink.specs.Epochs.{EpochRule, IsEnd, HasNoEnd}
use Rattle.track_sink.specs.declared.watch.Cause.{Cause}
use Rattle.track_sink.specs.declared.watch.Cause.TheVariants.{Slip, Unconfirmed, Refuted}
use Rattle.relock_sink.specs.Bands.{AtEdges}

-- whether two columns are the guard band of a period, the first of them as it is sent, of the second all characters but one
unfoldable pub is_announced : Column → Column → Bool
is_announced g h = (nat_le 3 (video_words g) && nat_le 2 (video_words h)) || (nat_le 3 (island_words g) && nat_le 2 (island_words h))

-- lanes are first aligned at edges from which on two columns have arrived, and a period opens there or none does
pub record IsFirstSo (opens : Bool) (fed : Fed) (d e f : ℕ) : Type 0 where
  pub first : IsFirst fed.blue fed.green fed.red d e f
  pub columns : AtEdges is_announced opens fed d e f

-- none does
abbrev pub IsUnconfirmed : Fed → (d e f : ℕ) → Type 0
IsUnconfirmed fed d e f = IsFirstSo false fed d e f

-- the end of the bits of the two columns
abbrev pub shown_at : ℕ → ℕ → ℕ → ℕ
shown_at d e f = max d (max e f) + 20

-- the epoch ends at a stray, whose run ends no later than what shows the alignment unconfirmed
pub record IsSlipEnd (fed : Fed) (lane place : ℕ) : Type 0 where
  pub end : IsEnd fed lane place
  pub before : (d e f : ℕ) → IsUnconfirmed fed d e f → place + 120 ≤ shown_at d e f

-- the epoch ends so that the least edge of its alignment, and no other, is forgotten: the alignment is unconfirmed, and that is
-- shown before the run of any stray ends
pub record IsUnconfirmedEnd (fed : Fed) (place : ℕ) : Type 0 where
  pub blue : ℕ
  pub green : ℕ
  pub red : ℕ
  pub unconfirmed : IsUnconfirmed fed blue green red
  pub forgets : place + 119 ≡ min blue (min green red)
  pub before : (lane p : ℕ) → IsEnd fed lane p → shown_at blue green red < p + 120

-- the epoch has no end: no lane has a stray, and the alignment, if there is one, is not unconfirmed
pub record IsLastEpoch (fed : Fed) : Type 0 where
  pub no_stray : HasNoEnd fed
  pub confirmed : (d e f : ℕ) → IsUnconfirmed fed d e f → ⊥

abbrev pub relock_ends : Fed → Cause → ℕ → Type 0
relock_ends fed (Slip lane) place = IsSlipEnd fed lane place
relock_ends fed Unconfirmed place = IsUnconfirmedEnd fed place
relock_ends fed Refuted place = ⊥

-- an epoch ends so; the two columns at an alignment, whose edges lie 70 bits apart at most, end no more than 209 bits past the
-- place at which it is left
abbrev pub relock_rule : EpochRule
relock_rule = record { ends = relock_ends; none = IsLastEpoch; back = 209 }
