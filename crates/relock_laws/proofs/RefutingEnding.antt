-- Where an epoch ends whose first alignment is unconfirmed or let go, or a lane of which has a stray.
use Rattle.std.proofs.Common.{◌⊎◌, ℕ, ◌+◌, ◌≤◌, max, min, arith, inl, inr}
use Rattle.lane_deskew.specs.Triples.{IsTriple}
use Rattle.link_sink.specs.Sinks.{Fed}
use Rattle.track_sink.specs.Epochs.{most_of, IsEnd}
use Rattle.track_sink.specs.Ends.{one_end}
use Rattle.track_sink.specs.declared.watch.Cause.{Cause}
use Rattle.track_sink.specs.declared.watch.Cause.TheVariants.{Slip, Unconfirmed, Refuted}
use Rattle.relock_sink.specs.Relocks.{IsUnconfirmed}
use Rattle.relock_sink.specs.Ends.{one_unconfirmed}
use Rattle.relock_sink.specs.Doubts.{IsLetGo}
use Rattle.relock_sink.specs.Refuting.{refuted_at, IsSlipFirst, refuting_ends, refuting_rule}
use Rattle.relock_sink.specs.RefutedDecided.{later_of}
use Rattle.relock_sink.specs.RefutingEnds.{decided, not_both}
use Rattle.relock_laws.specs.RefutingLaws.{EndsBy}
use Rattle.relock_laws.proofs.Settling.{not_past}

-- where the alignment is unconfirmed the epoch ends, no later than where it does for that reason alone
pub unconfirmed_leaves : (fed : Fed) (d e f : ℕ) → IsUnconfirmed fed d e f → (place : ℕ) × EndsBy refuting_rule fed place × (place + 100 ≤ max d (max e f))
unconfirmed_leaves fed d e f u = elim (decided fed) [
  | inr none ↦ absurd (none.last.confirmed d e f u)
  | inl end ↦ by end.0 end.1 end.2
]
  where
    by : (cause : Cause) (place : ℕ) → refuting_ends fed cause place → (place : ℕ) × EndsBy refuting_rule fed place × (place + 100 ≤ max d (max e f))
    by (Slip lane) place end = let shown = end.slip.before d e f u in (place, (Slip lane, end), omega arith)
    by Unconfirmed place end =
        let same = one_unconfirmed fed d e f end.blue end.green end.red u end.unconfirmed in
        let blue = same.0 in
        let green = same.1 in
        let red = same.2 in
        let at = end.forgets in
        (place, (Unconfirmed, end), omega arith)
    by Refuted place end =
        let l = later_of fed end.own_blue end.own_green end.own_red end.blue end.green end.red end.refuted in
        absurd (not_both fed end.own_blue end.own_green end.own_red d e f l.own u)

-- where a lane has a stray it ends, at or before it
pub stray_leaves : (fed : Fed) (lane p : ℕ) → IsEnd fed lane p → (place : ℕ) × EndsBy refuting_rule fed place × (place ≤ p)
stray_leaves fed lane p stray = elim (decided fed) [
  | inr none ↦ absurd (none.last.no_stray lane stray.within p stray.stray)
  | inl end ↦ by end.0 end.1 end.2
]
  where
    by : (cause : Cause) (place : ℕ) → refuting_ends fed cause place → (place : ℕ) × EndsBy refuting_rule fed place × (place ≤ p)
    by (Slip l) place end = let same = one_end fed l lane place p end.slip.end stray in let at = same.1 in (place, (Slip l, end), omega arith)
    by Unconfirmed place end = let shown = end.before lane p stray in let at = end.forgets in (place, (Unconfirmed, end), omega arith)
    by Refuted place end = let shown = end.before lane p stray in let at = end.begins in (place, (Refuted, end), omega arith)

-- edges of which the greatest is no greater have no greater least one
least_not_past : (fed : Fed) (p q r d e f : ℕ) → IsTriple fed.blue fed.green fed.red p q r → IsTriple fed.blue fed.green fed.red d e f
    → max p (max q r) ≤ max d (max e f) → min p (min q r) ≤ min d (min e f)
least_not_past fed p q r d e f a b le =
    let bg = b.blue_green in
    let br = b.blue_red in
    let gr = b.green_red in
    let bg0 = bg.0 in
    let bg1 = bg.1 in
    let br0 = br.0 in
    let br1 = br.1 in
    let gr0 = gr.0 in
    let gr1 = gr.1 in
    let x = not_past fed.blue p d a.blue b.blue (omega arith) in
    let y = not_past fed.green q e a.green b.green (omega arith) in
    let z = not_past fed.red r f a.red b.red (omega arith) in
    omega arith

-- where the alignment is let go for edges it ends, where the run before the least of them begins or before; or at a stray, whose run
-- ends no later than the bits that show it
pub let_go_leaves : (fed : Fed) (p q r d e f : ℕ) → IsLetGo fed p q r d e f → refuted_at d e f ≤ most_of fed
    → ((place : ℕ) × EndsBy refuting_rule fed place × (place + 120 ≤ min d (min e f)))
    ⊎ ((lane place : ℕ) × IsSlipFirst fed lane place × (place + 30 ≤ max d (max e f)))
let_go_leaves fed p q r d e f is shown = elim (decided fed) [
  | inr none ↦ let late = none.unrefuted p q r d e f is in absurd (omega arith)
  | inl end ↦ by end.0 end.1 end.2
]
  where
    by : (cause : Cause) (place : ℕ) → refuting_ends fed cause place
        → ((place : ℕ) × EndsBy refuting_rule fed place × (place + 120 ≤ min d (min e f)))
        ⊎ ((lane place : ℕ) × IsSlipFirst fed lane place × (place + 30 ≤ max d (max e f)))
    by (Slip lane) place end = let before = end.before p q r d e f is in inr (lane, place, end, omega arith)
    by Unconfirmed place end = absurd (not_both fed p q r end.blue end.green end.red (later_of fed p q r d e f is).own end.unconfirmed)
    by Refuted place end =
        let first = later_of fed end.own_blue end.own_green end.own_red end.blue end.green end.red end.refuted in
        let least = least_not_past fed end.blue end.green end.red d e f first.triple (later_of fed p q r d e f is).triple (end.least p q r d e f is) in
        let at = end.begins in
        inl (place, (Refuted, end), omega arith)
