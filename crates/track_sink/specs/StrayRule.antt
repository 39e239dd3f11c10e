-- Strays end epochs by a rule, and what seeks them looks for ends of that rule.
use Rattle.std.proofs.Common.{◌≡◌, ◌⊎◌, ℕ, ◌<◌, ◌≤◌, arith, inl, inr}
use Rattle.link_sink.specs.Sinks.{Fed}
use Rattle.track_sink.specs.Epochs.{stray_rule, stray_ends, HasNoEnd, most_of}
use Rattle.track_sink.specs.Rules.{IsRule, IsWatch}
use Rattle.track_sink.specs.Seeking.{IsSought}
use Rattle.track_sink.specs.Tracks.{Grows}
use Rattle.track_sink.specs.declared.strays.Strays.{Strays}
use Rattle.track_sink.specs.declared.watch.Cause.{Cause}
use Rattle.track_sink.specs.declared.watch.Cause.TheVariants.{Slip, Unconfirmed, Refuted}
use Rattle.track_sink.specs.Ends.{end_decided, end_is_far, end_within, one_end}
use Rattle.track_sink.specs.Sought.{sought_on, end_after}
use Rattle.track_sink.specs.Staying.{end_stays}

decided : (fed : Fed) → ((cause : Cause) × (place : ℕ) × stray_ends fed cause place) ⊎ HasNoEnd fed
decided fed = elim (end_decided fed) [ inl h ↦ inl (Slip h.0, h.1, h.2) | inr none ↦ inr none ]

excludes : (fed : Fed) (cause : Cause) (place : ℕ) → HasNoEnd fed → stray_ends fed cause place → ⊥
excludes fed (Slip lane) place none end = none lane end.within place end.stray
excludes fed Unconfirmed place none end = end
excludes fed Refuted place none end = end

one : (fed : Fed) (c d : Cause) (p q : ℕ) → stray_ends fed c p → stray_ends fed d q → (c ≡ d) × (p ≡ q)
one fed (Slip l) (Slip m) p q a b = let e = one_end fed l m p q a b in (λ i. Slip (e.0 i), e.1)
one fed (Slip l) Unconfirmed p q a b = absurd b
one fed (Slip l) Refuted p q a b = absurd b
one fed Unconfirmed d p q a b = absurd a
one fed Refuted d p q a b = absurd a

stays : (before now : Fed) (cause : Cause) (place : ℕ) → stray_ends before cause place → Grows before now → stray_ends now cause place
stays before now (Slip lane) place end grows = end_stays before now lane place end grows
stays before now Unconfirmed place end grows = end
stays before now Refuted place end grows = end

within : (fed : Fed) (cause : Cause) (place : ℕ) → stray_ends fed cause place → (0 < place) × (place < most_of fed)
within fed (Slip lane) place end = let far = end_is_far fed lane place end in let long = end_within fed lane place end in (omega arith, omega arith)
within fed Unconfirmed place end = absurd end
within fed Refuted place end = absurd end

pub stray_is_rule : IsRule stray_rule
stray_is_rule = record {
  decided = decided;
  excludes = excludes;
  one_end = one;
  stays = stays;
  within = within;
  lane = λ fed lane place end. end.within;
  few = omega arith;
}

not_before : (w : Strays) (fed : Fed) (cause : Cause) (place : ℕ) → IsSought w fed → stray_ends fed cause place → w.seen ≤ place
not_before w fed (Slip lane) place looked end = end_after fed w w.seen lane place looked.sought end
not_before w fed Unconfirmed place looked end = absurd end
not_before w fed Refuted place looked end = absurd end

pub stray_is_watch : IsWatch stray_rule IsSought (λ w. w.seen)
stray_is_watch = record {
  looks_on = sought_on;
  not_before = not_before;
  reaches = λ w fed looked. looked.decided;
}
