-- How far an epoch was looked through for its end, where its alignment is let go once it is refuted.
use Rattle.std.specs.Prelude.{◌≡◌, ℕ, ◌+◌, ◌-◌, ◌≤◌, Option, Some, None}
use Rattle.link_sink.specs.Sinks.{Fed}
use Rattle.track_sink.specs.Epochs.{most_of, front_of}
use Rattle.track_sink.specs.declared.watch.Cause.{Cause}
use Rattle.track_sink.specs.declared.watch.Cause.TheVariants.{Slip, Unconfirmed, Refuted}
use Rattle.track_sink.specs.declared.watch.End.{End}
use Rattle.relock_sink.specs.Relocks.{IsLastEpoch}
use Rattle.relock_sink.specs.Watches.{HasWatched, passed_of}
use Rattle.relock_sink.specs.RivalSearches.{HasSoughtRivals}
use Rattle.relock_sink.specs.declared.refuter.Refuter.{Refuter}

-- the first bits of the epoch show no end, and no edges before a place refute its alignment, so that no bits of theirs show that
pub record HasLooked (w : Refuter) (fed : Fed) : Type 0 where
  pub within : w.shown ≤ most_of fed
  pub watched : HasWatched w.relock (front_of w.shown fed)
  pub far : w.shown ≤ passed_of w.relock + 209
  pub last : IsLastEpoch (front_of w.shown fed)
  pub rivals : HasSoughtRivals w.rivals fed
  pub limit : w.rivals.alignments.limit ≡ w.shown - 89

-- no end of an epoch lies before it
abbrev pub refuter_passed : Refuter → ℕ
refuter_passed w = w.shown - 280

-- before which place edges are looked for that refute the alignment: none where it is unconfirmed
abbrev pub limit_by : Cause → ℕ → ℕ
limit_by (Slip lane) place = place + 30
limit_by Unconfirmed place = 0
limit_by Refuted place = 0

-- after the first bits were looked through for another end
abbrev pub limit_at : Option End → ℕ → ℕ
limit_at None shown = shown - 89
limit_at (Some end) shown = limit_by end.cause end.place
