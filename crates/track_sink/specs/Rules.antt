-- What holds of a rule by which epochs end, and of what looks for their ends.
use Rattle.std.specs.Prelude.{◌≡◌, ◌⊎◌, ℕ, ◌+◌, ◌<◌, ◌≤◌}
use Rattle.link_sink.specs.Sinks.{Fed}
use Rattle.track_sink.specs.Epochs.{EpochRule, most_of}
use Rattle.track_sink.specs.Tracks.{Grows}
use Rattle.track_sink.specs.declared.watch.Cause.{Cause}
use Rattle.track_sink.specs.declared.watch.Cause.TheVariants.{Slip}

-- an epoch has one end or none; an end that is found stays when bits arrive, lies past the first bit and before the last,
-- and a slip is a lane's. Few bits past the end show it
pub record IsRule (r : EpochRule) : Type 0 where
  pub decided : (fed : Fed) → ((cause : Cause) × (place : ℕ) × r.ends fed cause place) ⊎ r.none fed
  pub excludes : (fed : Fed) (cause : Cause) (place : ℕ) → r.none fed → r.ends fed cause place → ⊥
  pub one_end : (fed : Fed) (c d : Cause) (p q : ℕ) → r.ends fed c p → r.ends fed d q → (c ≡ d) × (p ≡ q)
  pub stays : (before now : Fed) (cause : Cause) (place : ℕ) → r.ends before cause place → Grows before now → r.ends now cause place
  pub within : (fed : Fed) (cause : Cause) (place : ℕ) → r.ends fed cause place → (0 < place) × (place < most_of fed)
  pub lane : (fed : Fed) (lane place : ℕ) → r.ends fed (Slip lane) place → lane < 3
  pub few : r.back ≤ 280

-- what was looked at is so when bits arrive; no end lies before the place that was passed, which the bits that are there decide
pub record IsWatch {W : Type 0} (r : EpochRule) (looked : W → Fed → Type 0) (passed : W → ℕ) : Type 0 where
  pub looks_on : (w : W) (before now : Fed) → looked w before → Grows before now → looked w now
  pub not_before : (w : W) (fed : Fed) (cause : Cause) (place : ℕ) → looked w fed → r.ends fed cause place → passed w ≤ place
  pub reaches : (w : W) (fed : Fed) → looked w fed → (passed w ≡ 0) ⊎ (passed w + r.back ≤ most_of fed)
