-- `recover relock` and `recover content relock` of a stream that comes after any bits: the epochs before its last one are passed, and what is reported of that one is the account.
use Rattle.std.proofs.Common.{◌≡◌, ◌⊎◌, ℕ, ◌+◌, ◌-◌, ◌*◌, ◌<◌, Bool, true, false, ◌||◌, List, [], ◌++◌, length, drop, refl, ap, sym, ◌∙◌, subst, inl, inr, arith, append_assoc}
use Rattle.std.specs.Prelude.{Option, Some}
use Rattle.std.specs.Io.KnownBytes.{Appends}
use Rattle.tmds_word.specs.Column.{Column}
use Rattle.terc4.specs.Columns.{one_if}
use Rattle.lane_deskew.specs.Aligned.{aligned_columns}
use Rattle.lane_deskew.specs.Triples.{IsFirst}
use Rattle.period_grammar.specs.Events.{Event}
use Rattle.period_grammar.specs.Heard.{heard}
use Rattle.link_laws.specs.Account.{account_from}
use Rattle.link_laws.specs.Local.{twelve_before}
use Rattle.link_sink.specs.Alignment.{reported_by}
use Rattle.link_sink.specs.Sinks.{Fed}
use Rattle.capture_file.proofs.OneCapture.{one_capture, no_fault}
use Rattle.command_line.specs.Commands.{IsCommand}
use Rattle.command_line.specs.declared.command.Command.{Command}
use Rattle.command_line.specs.declared.command.Command.TheVariants.{RecoverRelock, RecoverContentRelock}
use Rattle.track_sink.specs.Epochs.{EpochRule, rest_of, IsTrackBy, IsTrackedBy, last_epoch, more_epochs}
use Rattle.track_sink.proofs.Following.{track_events_both}
use Rattle.track_sink.specs.Feds.{rest_of_rest, same_fed}
use Rattle.track_sink.specs.Rules.{IsRule}
use Rattle.track_sink.specs.TrackEvents.{TrackEvent, track_events_of, end_events}
use Rattle.track_sink.specs.declared.watch.Cause.{Cause}
use Rattle.relock_sink.specs.Refuting.{IsLastUnrefuted, refuting_rule}
use Rattle.relock_sink.specs.RefuterRule.{refuting_is_rule}
use Rattle.relock_sink.specs.Rivals.{HaveSameSkew}
use Rattle.relock_laws.specs.RefutingSettled.{IsStartBy, first_start, next_start, IsSettledBy}
use Rattle.relock_laws.proofs.Again.{accounted_there, calm_again}
use Rattle.relock_laws.proofs.RefutingAgain.{same_skew_is_last}
use Rattle.relock_laws.proofs.RefutingSettling.{settles_by_refuting, settled_has_skew}
use Rattle.relock_laws.proofs.WholeSettling.{whole_has_skew}
use Rattle.relock_laws.proofs.SkewColumns.{same_skew_is_accounted}
use Rattle.capture_commands.specs.Endings.{Devices, RunEnds, Unless, status_of}
use Rattle.capture_commands.specs.Notes.{alignment_note}
use Rattle.capture_commands.specs.Outcome.{Does, RunOutcome, TracksLanes, TracksCapture, status_with}
use Rattle.hdmi_cli.specs.RelockAgain.{AgainStream, ComesAgain, columns_from, EndsWithAll, EndsWithLater, IsKeptThere, IsRelockedAgain}
use Rattle.capture_commands.specs.TrackListings.{TrackListing, content_track_listing, link_track_listing}
use Rattle.capture_commands.specs.declared.ending.Ending.{Ending}
use Rattle.hdmi_cli.proofs.Headline.{run_ended}
use Rattle.hdmi_cli.proofs.TrackHeadline.{epoch_reported}
use Rattle.hdmi_cli.proofs.TrackSlip.{reported_at}

-- what is reported from a place on at which an epoch begins
record FromStart (r : EpochRule) (fed : Fed) (start aligned : ℕ) (track_events : List TrackEvent) : Type 0 where
  first : List TrackEvent
  before : ℕ
  begun : Bool
  epochs : ℕ
  more : ℕ
  rest : List TrackEvent
  are : track_events ≡ first ++ rest
  count : aligned ≡ before + more
  tracked : IsTrackedBy r begun start (rest_of start fed) epochs more rest

-- after the end of an epoch
next_from : (r : EpochRule) → IsRule r → (fed : Fed) (start place aligned : ℕ) (track_events : List TrackEvent) → FromStart r fed start aligned track_events
    → (cause : Cause) → r.ends (rest_of start fed) cause place → FromStart r fed (start + place) aligned track_events
next_from r rule fed start place aligned track_events h cause end = by h.epochs h.more h.rest h.tracked h.are h.count
  where
    by : (n m : ℕ) (rest : List TrackEvent) → IsTrackedBy r h.begun start (rest_of start fed) n m rest → track_events ≡ h.first ++ rest → aligned ≡ h.before + m
        → FromStart r fed (start + place) aligned track_events
    by n m rest (last_epoch _ _ _ o events none reported) are count = absurd (rule.excludes (rest_of start fed) cause place none end)
    by n m rest (more_epochs _ _ _ o events c p n1 m1 later found reported track) are count =
        let e = rule.one_end (rest_of start fed) c cause p place found end in
        let there : IsTrackedBy r (h.begun || o.aligned) (start + place) (rest_of place (rest_of start fed)) n1 m1 later =
        subst (λ q. IsTrackedBy r (h.begun || o.aligned) (start + q) (rest_of q (rest_of start fed)) n1 m1 later) e.1 track in
        let head = track_events_of events ++ end_events (h.begun || o.aligned) c (start + p) in
        record {
          first = h.first ++ head;
          before = h.before + one_if o.aligned;
          begun = h.begun || o.aligned;
          epochs = n1;
          more = m1;
          rest = later;
          are =
              are ∙ ap (λ us. h.first ++ us) (sym (append_assoc (track_events_of events) (end_events (h.begun || o.aligned) c (start + p)) later))
              ∙ sym (append_assoc h.first head later);
          count = omega (arith, count);
          tracked = subst (λ x. IsTrackedBy r (h.begun || o.aligned) (start + place) x n1 m1 later) (rest_of_rest place start fed) there;
        }

from_start : (fed : Fed) (start : ℕ) → IsStartBy refuting_rule fed start → (epochs aligned : ℕ) (track_events : List TrackEvent) → IsTrackBy refuting_rule fed epochs aligned track_events
    → FromStart refuting_rule fed start aligned track_events
from_start _ _ (first_start fed) epochs aligned track_events track = record {
  first = [];
  before = 0;
  begun = false;
  epochs = epochs;
  more = aligned;
  rest = track_events;
  are = refl;
  count = omega arith;
  tracked = subst (λ x. IsTrackedBy refuting_rule false 0 x epochs aligned track_events) (same_fed fed (rest_of 0 fed) refl refl refl) track;
}
from_start _ _ (next_start fed start place begins end) epochs aligned track_events track =
    next_from refuting_rule refuting_is_rule fed start place aligned track_events (from_start fed start begins epochs aligned track_events track) end.0 end.1

-- an epoch with a full alignment is aligned
is_aligned : (b : Bool) (xs ys zs : List Bool) (columns : ℕ) (events : List Event) (d e f : ℕ) → reported_by b xs ys zs columns events → IsFirst xs ys zs d e f → one_if b ≡ 1
unfolding one_if
is_aligned true xs ys zs columns events d e f reported first = refl
is_aligned false xs ys zs columns events d e f reported first = absurd (reported.nowhere d e f first.triple)

-- what is written of lanes of which an epoch is aligned
text_is : (listing : TrackListing) (o : RunOutcome) (aligned : ℕ) (track_events : List TrackEvent)
    → ((0 < aligned) × (o ≡ record { status = status_with (listing.faults track_events); output = listing.text track_events; note = [] }))
    ⊎ ((aligned ≡ 0) × (o ≡ record { status = 7; output = []; note = alignment_note }))
    → 0 < aligned → o.output ≡ listing.text track_events
text_is listing o aligned track_events (inl (some, is)) more = ap (λ (x : RunOutcome). x.output) is
text_is listing o aligned track_events (inr (none, is)) more = absurd (omega (arith, none, more))

-- the events that end what is reported end the text
ends_with : (listing : TrackListing) (first : List TrackEvent) (events earlier later : List Event) (track_events : List TrackEvent) → track_events ≡ first ++ track_events_of events → events ≡ earlier ++ later
    → listing.text track_events ≡ listing.text ((first ++ track_events_of earlier) ++ track_events_of later)
ends_with listing first events earlier later track_events are is =
    ap listing.text (
    are ∙ ap (λ us. first ++ track_events_of us) is
    ∙ ap (λ us. first ++ us) (track_events_both earlier later)
    ∙ sym (append_assoc first (track_events_of earlier) (track_events_of later)))

-- what is written of an epoch that is the last: its events are those of its columns
pub record IsListed (listing : TrackListing) (columns : List Column) (old new : Option (List ℕ)) : Type 0 where
  pub first : List TrackEvent
  pub track_events : List TrackEvent
  pub are : track_events ≡ first ++ track_events_of (heard columns)
  pub written : Appends old new (listing.text track_events)

pub listed : (listing : TrackListing) (fed : Fed) (start p q r : ℕ) → IsStartBy refuting_rule fed start → IsFirst (rest_of start fed).blue (rest_of start fed).green (rest_of start fed).red p q r → IsLastUnrefuted (rest_of start fed)
    → (o : RunOutcome) (old new : Option (List ℕ)) → TracksLanes refuting_rule listing fed o → Appends old new o.output
    → IsListed listing (aligned_columns (rest_of start fed).blue (rest_of start fed).green (rest_of start fed).red p q r) old new
listed listing fed start p q r begins first last o old new (epochs, aligned, track_events, track, outcome) written =
    let rest = rest_of start fed in
    let from = from_start fed start begins epochs aligned track_events track in
    let epoch = epoch_reported refuting_rule refuting_is_rule from.begun start rest from.epochs from.more from.rest from.tracked last in
    let some = is_aligned epoch.outcome.aligned rest.blue rest.green rest.red epoch.outcome.columns epoch.events p q r epoch.reported first in
    let here = reported_at epoch.outcome.aligned rest.blue rest.green rest.red epoch.outcome.columns epoch.events p q r epoch.reported first in
    let count = from.count in
    let aligned_is = epoch.aligned_is in
    let text = text_is listing o aligned track_events outcome (omega (arith, count, aligned_is, some)) in
    record {
      first = from.first;
      track_events = track_events;
      are = from.are ∙ ap (λ us. from.first ++ us) (epoch.track_events_are ∙ ap track_events_of here);
      written = subst (λ (bytes : List ℕ). Appends old new bytes) text written;
    }

-- where it has the skew of the good control period
later_written : (listing : TrackListing) (t : AgainStream) → ComesAgain t → (start p q r : ℕ) → IsSettledBy refuting_rule t.lanes t.blue t.green t.red start p q r → HaveSameSkew p q r t.blue t.green t.red
    → (old new : Option (List ℕ)) → IsListed listing (columns_from t start p q r) old new
    → (n : ℕ) × (start + p + 10 * n ≡ t.blue) × EndsWithLater listing t (columns_from t start p q r) n old new
later_written listing t comes start p q r settled same old new h =
    let law = same_skew_is_accounted t.periods t.sent t.received t.offset t.skews t.counts t.tapped t.lanes t.before t.a t.blue t.green t.red comes.again start p q r settled same in
    let n = law.0 in
    let ends = law.3 in
    let columns = columns_from t start p q r in
    let later = account_from (n + 12) (length columns - (n + 12)) (twelve_before (t.a + 12) t.received) ends.tail (drop (t.a + 12) t.sent) (drop (t.a + 12) t.received) in (
      n,
      law.1,
      record {
        front = ends.front;
        later = ends.tail;
        are = ends.are;
        upto = ends.upto;
        first = h.first ++ track_events_of ends.earlier;
        written = subst (λ (bytes : List ℕ). Appends old new bytes) (ends_with listing h.first (heard columns) ends.earlier later h.track_events h.are ends.reported) h.written;
      },
    )

-- where it is aligned there it has that skew
skew_there : (fed : Fed) (d e f start p q r : ℕ) → IsSettledBy refuting_rule fed d e f start p q r → start + p ≡ d → HaveSameSkew p q r d e f
skew_there fed d e f start p q r settled there = elim settled.place [
  | inl at ↦ let x = at.0 in let y = at.1 in let z = at.2 in (omega arith, omega arith)
  | inr far ↦ let x = far.0 in absurd (omega arith)
]

there_written : (listing : TrackListing) (t : AgainStream) → ComesAgain t → (start p q r : ℕ) → IsSettledBy refuting_rule t.lanes t.blue t.green t.red start p q r → start + p ≡ t.blue
    → (old new : Option (List ℕ)) → IsListed listing (columns_from t start p q r) old new → EndsWithAll listing t (columns_from t start p q r) old new
there_written listing t comes start p q r settled there old new h =
    let is = accounted_there t.periods t.sent t.received t.offset t.skews t.counts t.tapped t.lanes t.before t.a t.blue t.green t.red start p q r comes.again settled.first settled.place there in
    (h.first, subst (λ (bytes : List ℕ). Appends old new bytes) (ap listing.text (h.are ∙ ap (λ us. h.first ++ track_events_of us) is.reported)) h.written)

again : (listing : TrackListing) (t : AgainStream) → ComesAgain t → (o : RunOutcome) (old new : Option (List ℕ)) → TracksLanes refuting_rule listing t.lanes o → Appends old new o.output → IsRelockedAgain listing t old new
again listing t comes o old new tracks written =
    let law = settles_by_refuting t.lanes t.blue t.green t.red comes.again.good in
    let start = law.0 in
    let p = law.2.0 in
    let q = law.2.1 in
    let r = law.2.2 in
    let settled = law.2.3 in
    let calm = calm_again t.periods t.sent t.received t.offset t.skews t.counts t.tapped t.lanes t.before t.a t.blue t.green t.red comes.again in
    let last : HaveSameSkew p q r t.blue t.green t.red → IsKeptThere t start p → IsLastUnrefuted (rest_of start t.lanes) =
    λ same kept. same_skew_is_last t.periods t.sent t.received t.offset t.skews t.counts t.tapped t.lanes t.before t.a t.blue t.green t.red comes.again kept.0 start p q r settled same kept.1 in
    let text : HaveSameSkew p q r t.blue t.green t.red → IsKeptThere t start p → IsListed listing (columns_from t start p q r) old new =
    λ same kept. listed listing t.lanes start p q r law.1 settled.first (last same kept) o old new tracks written in
    record {
      start = start;
      begins = law.1;
      edge_blue = p;
      edge_green = q;
      edge_red = r;
      settled = settled;
      last = last;
      written = λ same kept. later_written listing t comes start p q r settled same old new (text same kept);
      written_there = λ there spared.
          there_written listing t comes start p q r settled there old new (text (skew_there t.lanes t.blue t.green t.red start p q r settled there) (spared, inl there));
      skew = λ whole. (settled_has_skew t.lanes t.blue t.green t.red whole calm.blue calm.green calm.red start p q r settled).1;
      whole = λ n whole. (whole_has_skew t.lanes t.blue t.green t.red n whole calm.blue calm.green calm.red start p q r settled).1;
    }

of_bytes : (listing : TrackListing) (t : AgainStream) → ComesAgain t → (o : RunOutcome) (old new : Option (List ℕ)) → TracksCapture refuting_rule listing t.bytes o → Appends old new o.output → IsRelockedAgain listing t old new
of_bytes listing t comes o old new (inl (fed, captured, lanes)) written =
    let same = one_capture t.lanes.blue t.lanes.green t.lanes.red fed.blue fed.green fed.red t.bytes comes.captured captured in
    again listing t comes o old new (subst (λ x. TracksLanes refuting_rule listing x o) (sym (same_fed t.lanes fed same.blue same.green same.red)) lanes) written
of_bytes listing t comes o old new (inr (fault, fed, track_events, faulty, before, reported, is)) written =
    absurd (no_fault t.bytes fault (record { blue = t.lanes.blue; green = t.lanes.green; red = t.lanes.red; holds = comes.captured }) faulty)

again_of : (listing : TrackListing) (this : Command) → ((bytes : List ℕ) (o : RunOutcome) → Does this bytes o → TracksCapture refuting_rule listing bytes o)
    → (words : List (List ℕ)) (ending : Ending) (before after : Devices) (status : ℕ) → RunEnds words ending before after → status ≡ status_of ending → IsCommand words this
    → (t : AgainStream) → ComesAgain t → before.left ≡ Some t.bytes → Unless (λ _ old new. IsRelockedAgain listing t old new) status before after
again_of listing this tracks words ending before after status ends is named t comes left =
    run_ended (λ _ old new. IsRelockedAgain listing t old new) this words ending before after status ends is named (λ answers.
    let answer = answers t.bytes left in
    of_bytes listing t comes answer.outcome before.held after.held (tracks t.bytes answer.outcome answer.does) answer.written)

pub relocked_again : (words : List (List ℕ)) (ending : Ending) (before after : Devices) (status : ℕ) → RunEnds words ending before after → status ≡ status_of ending → IsCommand words RecoverRelock
    → (t : AgainStream) → ComesAgain t → before.left ≡ Some t.bytes → Unless (λ _ old new. IsRelockedAgain link_track_listing t old new) status before after
relocked_again words ending before after status ends is named t comes left =
    again_of link_track_listing RecoverRelock (λ bytes o does. does) words ending before after status ends is named t comes left

pub content_relocked_again : (words : List (List ℕ)) (ending : Ending) (before after : Devices) (status : ℕ) → RunEnds words ending before after → status ≡ status_of ending → IsCommand words RecoverContentRelock
    → (t : AgainStream) → ComesAgain t → before.left ≡ Some t.bytes → Unless (λ _ old new. IsRelockedAgain content_track_listing t old new) status before after
content_relocked_again words ending before after status ends is named t comes left =
    again_of content_track_listing RecoverContentRelock (λ bytes o does. does) words ending before after status ends is named t comes left
