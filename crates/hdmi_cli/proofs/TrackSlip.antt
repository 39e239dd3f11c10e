-- `recover track` and `recover relock` of a tapped stream one lane of which lost bits within a line: there are two epochs, and the
-- text is theirs.
use Rattle.std.proofs.Common.{◌≡◌, ℕ, ◌+◌, ◌<◌, Bool, true, false, ◌||◌, List, ◌++◌, take, drop, ap, ap₂, sym, ◌∙◌, subst, inl, inr, arith}
use Rattle.std.specs.Prelude.{Option, Some}
use Rattle.std.specs.Io.KnownBytes.{Appends}
use Rattle.terc4.specs.Columns.{one_if}
use Rattle.lane_deskew.specs.Aligned.{aligned_columns}
use Rattle.lane_deskew.specs.Triples.{IsFirst}
use Rattle.period_grammar.specs.Heard.{heard}
use Rattle.period_grammar.specs.Events.{Event}
use Rattle.link_sink.specs.Alignment.{AreReported, reported_by}
use Rattle.link_sink.specs.Sinks.{Fed}
use Rattle.link_sink.specs.declared.hear.Outcome.{Outcome}
use Rattle.capture_file.proofs.OneCapture.{one_capture, no_fault}
use Rattle.command_line.specs.Commands.{IsCommand}
use Rattle.command_line.specs.declared.command.Command.{Command}
use Rattle.command_line.specs.declared.command.Command.TheVariants.{RecoverTrack, RecoverRelock, RecoverContentRelock}
use Rattle.track_sink.specs.Epochs.{EpochRule, stray_rule, rest_of, IsEnd, HasNoEnd, IsTrackedBy, last_epoch, more_epochs}
use Rattle.track_sink.specs.Rules.{IsRule}
use Rattle.track_sink.specs.StrayRule.{stray_is_rule}
use Rattle.track_sink.specs.declared.watch.Cause.TheVariants.{Slip}
use Rattle.track_sink.specs.TrackEvents.{TrackEvent, track_events_of, slip_if, end_events}
use Rattle.relock_sink.specs.Refuting.{refuting_rule}
use Rattle.relock_sink.specs.RefuterRule.{refuting_is_rule}
use Rattle.relock_laws.proofs.SlipUnrefuted.{slip_ends_alone}
use Rattle.track_laws.specs.Laws.{Received}
use Rattle.track_laws.proofs.Noticed.{second_epoch, slip_noticed}
use Rattle.track_laws.proofs.Before.{first_epoch}
use Rattle.capture_commands.specs.Endings.{Devices, RunEnds, Unless, status_of}
use Rattle.hdmi_cli.specs.Headline.{TappedStream}
use Rattle.capture_commands.specs.Outcome.{Does, RunOutcome, TracksLanes, TracksCapture}
use Rattle.capture_commands.specs.TrackListings.{TrackListing, content_track_listing, link_track_listing}
use Rattle.hdmi_cli.specs.TrackSlip.{LineSlip, lanes_of, IsSlippedTap, IsNoticed, track_events_across, IsTrackedAcross}
use Rattle.capture_commands.specs.declared.ending.Ending.{Ending}
use Rattle.hdmi_cli.proofs.Headline.{aligned_same, run_ended}
use Rattle.hdmi_cli.proofs.TrackHeadline.{epoch_reported}

-- what is reported of two epochs
record IsTwice (begun : Bool) (z : ℕ) (y : Fed) (lane start aligned : ℕ) (track_events : List TrackEvent) : Type 0 where
  one : Outcome
  two : Outcome
  first : List Event
  second : List Event
  first_reported : AreReported (take start y.blue) (take start y.green) (take start y.red) one first
  second_reported : AreReported (drop start y.blue) (drop start y.green) (drop start y.red) two second
  aligned_is : aligned ≡ one_if one.aligned + one_if two.aligned
  track_events_are : track_events ≡ track_events_of first ++ (slip_if (begun || one.aligned) lane (z + start) ++ track_events_of second)

reported_twice : (r : EpochRule) → IsRule r → (begun : Bool) (z : ℕ) (y : Fed) (n m : ℕ) (track_events : List TrackEvent) → IsTrackedBy r begun z y n m track_events
    → (lane start : ℕ) → r.ends y (Slip lane) start → r.none (rest_of start y) → IsTwice begun z y lane start m track_events
reported_twice r rule begun z y n m track_events (last_epoch _ _ _ o events none reported) lane start end no_end = absurd (rule.excludes y (Slip lane) start none end)
reported_twice r rule begun z y n m track_events (more_epochs _ _ _ o events cause p n1 m1 rest found reported track) lane start end no_end =
    let e = rule.one_end y cause (Slip lane) p start found end in
    let moved : IsTrackedBy r (begun || o.aligned) (z + start) (rest_of start y) n1 m1 rest = subst (λ q. IsTrackedBy r (begun || o.aligned) (z + q) (rest_of q y) n1 m1 rest) e.1 track in
    let second = epoch_reported r rule (begun || o.aligned) (z + start) (rest_of start y) n1 m1 rest moved no_end in
    let ended : end_events {T = Event} (begun || o.aligned) cause (z + p) ≡ slip_if (begun || o.aligned) lane (z + start) = ap₂ (λ c q. end_events (begun || o.aligned) c (z + q)) e.0 e.1 in
    record {
      one = o;
      two = second.outcome;
      first = events;
      second = second.events;
      first_reported = subst (λ q. AreReported (take q y.blue) (take q y.green) (take q y.red) o events) e.1 reported;
      second_reported = second.reported;
      aligned_is = ap (λ k. one_if o.aligned + k) second.aligned_is;
      track_events_are = ap₂ (λ us vs. track_events_of events ++ (us ++ vs)) ended second.track_events_are;
    }

-- of a whole capture
twice_whole : (y : Fed) (lane start aligned : ℕ) (track_events : List TrackEvent) (h : IsTwice false 0 y lane start aligned track_events) → track_events ≡ track_events_across h.one.aligned h.first lane start h.second
twice_whole y lane start aligned track_events h =
    let e : 0 + start ≡ start = omega arith in
    h.track_events_are ∙ ap (λ n. track_events_of h.first ++ (slip_if h.one.aligned lane n ++ track_events_of h.second)) e

-- what is reported of lanes with a full alignment
pub reported_at : (b : Bool) (xs ys zs : List Bool) (columns : ℕ) (events : List Event) (d e f : ℕ) → reported_by b xs ys zs columns events → IsFirst xs ys zs d e f
    → events ≡ heard (aligned_columns xs ys zs d e f)
reported_at true xs ys zs columns events d e f reported first = reported.reported ∙ ap heard (aligned_same xs ys zs reported.blue reported.green reported.red d e f reported.first first)
reported_at false xs ys zs columns events d e f reported first = absurd (reported.nowhere d e f first.triple)

both_or : (a b : Bool) → (a || b) ≡ true → one_if a + one_if b ≡ 0 → ⊥
unfolding one_if
both_or a b h k = grind arith

neither : (a b : Bool) → (a || b) ≡ false → 0 < one_if a + one_if b → ⊥
unfolding one_if
neither a b h k = grind arith

-- where the stray ends an epoch by the rule too, and what follows is the last
abbrev AlsoEnds : EpochRule → LineSlip → Fed → Type 0
AlsoEnds r s y = (start : ℕ) → IsEnd y s.lane start → HasNoEnd (rest_of start y) → r.ends y (Slip s.lane) start × r.none (rest_of start y)

across : (r : EpochRule) → IsRule r → (listing : TrackListing) (t : TappedStream) (s : LineSlip) (y : Fed) → AlsoEnds r s y → IsSlippedTap t s y → IsNoticed t s → (o : RunOutcome) (status : ℕ) (old new : Option (List ℕ))
    → TracksLanes r listing y o → o.status ≡ status → Appends old new o.output → IsTrackedAcross listing t s y status old new
across r rule listing t s y also tapped noticed o status old new (epochs, aligned, track_events, track, outcome) status_is written =
    let reception : Received t.periods t.sent t.received t.offset t.skews t.counts (lanes_of t) = record { reception = tapped.reception; tapped = tapped.tap } in
    let found = slip_noticed t.periods t.sent t.received t.offset t.skews t.counts (lanes_of t) y s.lane s.place s.dropped s.first s.next reception tapped.slips tapped.in_line
    noticed.lock noticed.is_lock noticed.before noticed.early noticed.few noticed.control noticed.whole in
    let start = found.0 in
    let end = found.1 in
    let law = second_epoch t.periods t.sent t.received t.offset t.skews t.counts (lanes_of t) y s.lane s.place s.dropped s.first s.next reception tapped.slips tapped.in_line s.lane start end in
    let ends = also start end law.3 in
    let h = reported_twice r rule false 0 y epochs aligned track_events track s.lane start ends.0 ends.1 in
    let same = twice_whole y s.lane start aligned track_events h in
    let few = h.aligned_is in
    record {
      start = start;
      begins = law.2;
      one = h.one;
      two = h.two;
      before = h.first;
      after = h.second;
      first_reported = h.first_reported;
      second_reported = h.second_reported;
      first_is = λ d e f first. first_epoch t.periods t.sent t.received t.offset t.skews t.counts (lanes_of t) y s.lane s.place s.dropped s.first s.next start reception tapped.slips tapped.in_line end d e f first;
      second_is = λ d e f first.
          let is = law.4 d e f first in
          (is.0, is.1.ends, is.2, reported_at h.two.aligned (drop start y.blue) (drop start y.green) (drop start y.red) h.two.columns h.second d e f h.second_reported first ∙ is.1.reported);
      aligned = grind (arith, both_or);
      unaligned = grind (arith, neither);
    }

of_capture : (r : EpochRule) → IsRule r → (listing : TrackListing) (t : TappedStream) (s : LineSlip) (y : Fed) → AlsoEnds r s y → IsSlippedTap t s y → IsNoticed t s → (o : RunOutcome) (status : ℕ) (old new : Option (List ℕ))
    → TracksCapture r listing t.bytes o → o.status ≡ status → Appends old new o.output → IsTrackedAcross listing t s y status old new
of_capture r rule listing t s y also tapped noticed o status old new (inl (fed, captured, lanes)) status_is written =
    let same = one_capture y.blue y.green y.red fed.blue fed.green fed.red t.bytes tapped.captured captured in
    let fed_is : fed ≡ y = λ i. record { blue = sym same.blue i; green = sym same.green i; red = sym same.red i } in
    across r rule listing t s y also tapped noticed o status old new (subst (λ x. TracksLanes r listing x o) fed_is lanes) status_is written
of_capture r rule listing t s y also tapped noticed o status old new (inr (fault, fed, track_events, faulty, before, reported, is)) status_is written =
    absurd (no_fault t.bytes fault (record { blue = y.blue; green = y.green; red = y.red; holds = tapped.captured }) faulty)

pub across_of : (r : EpochRule) → IsRule r → (listing : TrackListing) (this : Command) → ((bytes : List ℕ) (o : RunOutcome) → Does this bytes o → TracksCapture r listing bytes o)
    → (words : List (List ℕ)) (ending : Ending) (before after : Devices) (status : ℕ) → RunEnds words ending before after → status ≡ status_of ending → IsCommand words this
    → (t : TappedStream) (s : LineSlip) (y : Fed) → AlsoEnds r s y → IsSlippedTap t s y → IsNoticed t s → before.left ≡ Some t.bytes → Unless (IsTrackedAcross listing t s y) status before after
across_of r rule listing this tracks words ending before after status ends is named t s y also tapped noticed left =
    run_ended (IsTrackedAcross listing t s y) this words ending before after status ends is named (λ answers.
    let answer = answers t.bytes left in
    of_capture r rule listing t s y also tapped noticed answer.outcome (status_of ending) before.held after.held (tracks t.bytes answer.outcome answer.does) answer.status answer.written)

pub tracked_across : (words : List (List ℕ)) (ending : Ending) (before after : Devices) (status : ℕ) → RunEnds words ending before after → status ≡ status_of ending → IsCommand words RecoverTrack
    → (t : TappedStream) (s : LineSlip) (y : Fed) → IsSlippedTap t s y → IsNoticed t s → before.left ≡ Some t.bytes → Unless (IsTrackedAcross link_track_listing t s y) status before after
tracked_across words ending before after status ends is named t s y tapped noticed left =
    across_of stray_rule stray_is_rule link_track_listing RecoverTrack (λ bytes o does. does) words ending before after status ends is named t s y (λ start end none. (end, none)) tapped noticed left

relocked_of : (listing : TrackListing) (this : Command) → ((bytes : List ℕ) (o : RunOutcome) → Does this bytes o → TracksCapture refuting_rule listing bytes o)
    → (words : List (List ℕ)) (ending : Ending) (before after : Devices) (status : ℕ) → RunEnds words ending before after → status ≡ status_of ending → IsCommand words this
    → (t : TappedStream) (s : LineSlip) (y : Fed) → IsSlippedTap t s y → IsNoticed t s → before.left ≡ Some t.bytes → Unless (IsTrackedAcross listing t s y) status before after
relocked_of listing this tracks words ending before after status ends is named t s y tapped noticed left =
    let reception : Received t.periods t.sent t.received t.offset t.skews t.counts (lanes_of t) = record { reception = tapped.reception; tapped = tapped.tap } in
    let law = slip_ends_alone t.periods t.sent t.received t.offset t.skews t.counts (lanes_of t) y s.lane s.place s.dropped s.first s.next reception tapped.slips tapped.in_line in
    across_of refuting_rule refuting_is_rule listing this tracks words ending before after status ends is named t s y
    (λ start end none. let slip = law.ends s.lane start end in (slip, law.then s.lane start slip)) tapped noticed left

pub relocked_across : (words : List (List ℕ)) (ending : Ending) (before after : Devices) (status : ℕ) → RunEnds words ending before after → status ≡ status_of ending → IsCommand words RecoverRelock
    → (t : TappedStream) (s : LineSlip) (y : Fed) → IsSlippedTap t s y → IsNoticed t s → before.left ≡ Some t.bytes → Unless (IsTrackedAcross link_track_listing t s y) status before after
relocked_across words ending before after status ends is named t s y tapped noticed left =
    relocked_of link_track_listing RecoverRelock (λ bytes o does. does) words ending before after status ends is named t s y tapped noticed left

pub content_relocked_across : (words : List (List ℕ)) (ending : Ending) (before after : Devices) (status : ℕ) → RunEnds words ending before after → status ≡ status_of ending → IsCommand words RecoverContentRelock
    → (t : TappedStream) (s : LineSlip) (y : Fed) → IsSlippedTap t s y → IsNoticed t s → before.left ≡ Some t.bytes → Unless (IsTrackedAcross content_track_listing t s y) status before after
content_relocked_across words ending before after status ends is named t s y tapped noticed left =
    relocked_of content_track_listing RecoverContentRelock (λ bytes o does. does) words ending before after status ends is named t s y tapped noticed left
