-- When epochs end whose alignment is let go where it is refuted: where they end whose alignment is to be confirmed, or before the
-- edges that refute it. That an alignment is let go then is this project's own rule.
use Rattle.std.specs.Prelude.{◌≡◌, ℕ, ◌+◌, ◌<◌, ◌≤◌, max, min}
use Rattle.link_sink.specs.Sinks.{Fed}
use Rattle.track_sink.specs.Epochs.{EpochRule, most_of, IsEnd}
use Rattle.track_sink.specs.declared.watch.Cause.{Cause}
use Rattle.track_sink.specs.declared.watch.Cause.TheVariants.{Slip, Unconfirmed, Refuted}
use Rattle.relock_sink.specs.Relocks.{IsSlipEnd, IsUnconfirmedEnd, IsLastEpoch}
use Rattle.relock_sink.specs.Doubts.{IsLetGo}

-- the end of the bits that show an alignment refuted by these edges: its own columns there, whose characters begin at most 70 bits
-- past the greatest of the edges, end no later
abbrev pub refuted_at : ℕ → ℕ → ℕ → ℕ
refuted_at d e f = max d (max e f) + 90

-- the epoch ends at a stray, whose run ends no later than what shows the alignment unconfirmed or refuted
pub record IsSlipFirst (fed : Fed) (lane place : ℕ) : Type 0 where
  pub slip : IsSlipEnd fed lane place
  pub before : (p q r d e f : ℕ) → IsLetGo fed p q r d e f → place + 120 ≤ refuted_at d e f

-- the epoch ends where the run begins that ends at the least of the edges that refute its alignment, of several such edges those
-- whose greatest is least: all bits have arrived that show it, and they do before the run of any stray ends
pub record IsRefutedEnd (fed : Fed) (place : ℕ) : Type 0 where
  pub own_blue : ℕ
  pub own_green : ℕ
  pub own_red : ℕ
  pub blue : ℕ
  pub green : ℕ
  pub red : ℕ
  pub refuted : IsLetGo fed own_blue own_green own_red blue green red
  pub shown : refuted_at blue green red ≤ most_of fed
  pub least : (p q r d e f : ℕ) → IsLetGo fed p q r d e f → max blue (max green red) ≤ max d (max e f)
  pub begins : place + 120 ≡ min blue (min green red)
  pub before : (lane p : ℕ) → IsEnd fed lane p → refuted_at blue green red < p + 120

-- the epoch has no end: none as where alignments are to be confirmed alone, and no bits have arrived that show its alignment refuted
pub record IsLastUnrefuted (fed : Fed) : Type 0 where
  pub last : IsLastEpoch fed
  pub unrefuted : (p q r d e f : ℕ) → IsLetGo fed p q r d e f → most_of fed < refuted_at d e f

abbrev pub refuting_ends : Fed → Cause → ℕ → Type 0
refuting_ends fed (Slip lane) place = IsSlipFirst fed lane place
refuting_ends fed Unconfirmed place = IsUnconfirmedEnd fed place
refuting_ends fed Refuted place = IsRefutedEnd fed place

-- an epoch ends so; the bits that show an alignment refuted by edges, which lie 70 bits apart at most, end no more than 280 bits past
-- the place at which it is left
abbrev pub refuting_rule : EpochRule
refuting_rule = record { ends = refuting_ends; none = IsLastUnrefuted; back = 280 }
