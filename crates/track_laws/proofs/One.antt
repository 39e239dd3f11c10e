-- One event is reported of all bits.
use Rattle.std.proofs.Common.{◌≡◌, ℕ, Bool, List}
use Rattle.link_sink.specs.Sinks.{Fed}
use Rattle.track_sink.specs.TrackEvents.{TrackEvent}
use Rattle.track_sink.specs.Epochs.{EpochRule, IsTrackedBy, IsTracked}
use Rattle.track_sink.specs.Rules.{IsRule}
use Rattle.track_sink.specs.StrayRule.{stray_is_rule}
use Rattle.track_sink.proofs.One.{alone_is_one, one_track as one_track_of}

-- whatever ends an epoch
pub one_track_by : {r : EpochRule} → IsRule r → (begun : Bool) (z : ℕ) (fed : Fed) (n m k j : ℕ) (us vs : List TrackEvent) → IsTrackedBy r begun z fed n m us → IsTrackedBy r begun z fed k j vs
    → (n ≡ k) × (m ≡ j) × (us ≡ vs)
one_track_by is begun z fed n m k j us vs a b = one_track_of alone_is_one is begun z fed n m k j us vs a b

pub one_track : (begun : Bool) (z : ℕ) (fed : Fed) (n m k j : ℕ) (us vs : List TrackEvent) → IsTracked begun z fed n m us → IsTracked begun z fed k j vs
    → (n ≡ k) × (m ≡ j) × (us ≡ vs)
one_track begun z fed n m k j us vs a b = one_track_by stray_is_rule begun z fed n m k j us vs a b
