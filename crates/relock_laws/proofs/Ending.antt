-- Where an epoch ends whose first alignment is unconfirmed, or a lane of which has a stray.
use Rattle.std.proofs.Common.{◌≡◌, ◌⊎◌, ℕ, ◌+◌, ◌≤◌, max, subst, arith, inl, inr}
use Rattle.lane_deskew.specs.Triples.{IsFirst}
use Rattle.lane_deskew.proofs.First.{one_first}
use Rattle.link_sink.specs.Sinks.{Fed}
use Rattle.track_sink.specs.Epochs.{IsEnd}
use Rattle.track_sink.specs.Ends.{one_end}
use Rattle.track_sink.specs.declared.watch.Cause.{Cause}
use Rattle.track_sink.specs.declared.watch.Cause.TheVariants.{Slip, Unconfirmed, Refuted}
use Rattle.relock_sink.specs.Relocks.{IsUnconfirmed, IsLastEpoch, relock_ends}
use Rattle.relock_sink.specs.Ends.{decided, one, one_unconfirmed}
use Rattle.relock_laws.specs.Settled.{EndsEpoch}

-- lanes have one first alignment
pub none_unconfirmed : (fed : Fed) (p q r : ℕ) → IsFirst fed.blue fed.green fed.red p q r → (IsUnconfirmed fed p q r → ⊥) → (d e f : ℕ) → IsUnconfirmed fed d e f → ⊥
none_unconfirmed fed p q r first none d e f u =
    let same = one_first fed.blue fed.green fed.red d e f p q r u.first first in
    none (subst (λ n. IsUnconfirmed fed n q r) same.0 (subst (λ n. IsUnconfirmed fed d n r) same.1 (subst (λ n. IsUnconfirmed fed d e n) same.2 u)))

-- where the alignment is unconfirmed the epoch ends, no later than where it does for that reason alone
pub unconfirmed_ends : (fed : Fed) (d e f : ℕ) → IsUnconfirmed fed d e f → (place : ℕ) × EndsEpoch fed place × (place + 100 ≤ max d (max e f))
unconfirmed_ends fed d e f u = elim (decided fed) [
  | inr last ↦ absurd (last.confirmed d e f u)
  | inl end ↦ by end.0 end.1 end.2
]
  where
    by : (cause : Cause) (place : ℕ) → relock_ends fed cause place → (place : ℕ) × EndsEpoch fed place × (place + 100 ≤ max d (max e f))
    by (Slip lane) place end = let shown = end.before d e f u in (place, (Slip lane, end), omega arith)
    by Unconfirmed place end =
        let same = one_unconfirmed fed d e f end.blue end.green end.red u end.unconfirmed in
        let blue = same.0 in
        let green = same.1 in
        let red = same.2 in
        let at = end.forgets in
        (place, (Unconfirmed, end), omega arith)
    by Refuted place end = absurd end

-- where a lane has a stray it ends, at or before it
pub stray_ends : (fed : Fed) (lane p : ℕ) → IsEnd fed lane p → (place : ℕ) × EndsEpoch fed place × (place ≤ p)
stray_ends fed lane p stray = elim (decided fed) [
  | inr last ↦ absurd (last.no_stray lane stray.within p stray.stray)
  | inl end ↦ by end.0 end.1 end.2
]
  where
    by : (cause : Cause) (place : ℕ) → relock_ends fed cause place → (place : ℕ) × EndsEpoch fed place × (place ≤ p)
    by (Slip l) place end = let same = one_end fed l lane place p end.end stray in let at = same.1 in (place, (Slip l, end), omega arith)
    by Unconfirmed place end = let shown = end.before lane p stray in let at = end.forgets in (place, (Unconfirmed, end), omega arith)
    by Refuted place end = absurd end

pub ends_or_is_last : (fed : Fed) → ((place : ℕ) × EndsEpoch fed place) ⊎ IsLastEpoch fed
ends_or_is_last fed = elim (decided fed) [
  | inr last ↦ inr last
  | inl end ↦ inl (end.1, (end.0, end.2))
]

pub one_place : (fed : Fed) (p q : ℕ) → EndsEpoch fed p → EndsEpoch fed q → p ≡ q
one_place fed p q a b = (one fed a.0 b.0 p q a.1 b.1).1
