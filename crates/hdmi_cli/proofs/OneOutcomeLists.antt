-- What captures are listed and tracked as is one outcome.
use Rattle.std.proofs.Common.{◌≡◌, ℕ, Bool, List, [], ◌++◌, ap, ◌∙◌, sym, subst, arith, inl, inr, append_assoc}
use Rattle.capture_file.specs.Captures.{IsCapture, IsCaptureOf, IsHeadless, HasRead, StopsIn, place_of}
use Rattle.capture_file.specs.Layout.{packed, blocks_below}
use Rattle.capture_file.specs.Laws.{AreSame, IsReadBefore}
use Rattle.capture_file.specs.declared.fault.CaptureFault.{CaptureFault}
use Rattle.capture_file.proofs.OneCapture.{one_capture, no_fault}
use Rattle.capture_file.proofs.OneFault.{one_fault, one_reading}
use Rattle.period_grammar.specs.Events.{Event}
use Rattle.link_sink.specs.Grammar.{Grammar}
use Rattle.link_sink.specs.Sinks.{Fed, IsReportedBy}
use Rattle.link_sink.proofs.Following.{reported_one}
use Rattle.track_sink.specs.Epochs.{EpochRule}
use Rattle.track_sink.specs.Rules.{IsRule}
use Rattle.track_laws.proofs.One.{one_track_by}
use Rattle.capture_reading.specs.Blocks.{AreBefore, HasBlocks}
use Rattle.capture_commands.specs.Listings.{Listing}
use Rattle.capture_commands.specs.Notes.{capture_note}
use Rattle.capture_commands.specs.TrackListings.{TrackListing}
use Rattle.capture_commands.specs.Outcome.{RunOutcome, status_with, ListsLanes, ListsBefore, ListsCapture, TracksLanes, TracksCapture}
use Rattle.hdmi_cli.proofs.Headline.{aligned_same, same_lanes}

-- ---- the whole blocks before a place

-- bytes that have no whole header have no whole blocks
pub none_read : (bytes taken rest counts : List ℕ) (j place : ℕ) (x y z : List Bool) → IsHeadless bytes → bytes ≡ taken ++ rest → HasRead counts j place taken x y z → ⊥
none_read bytes taken rest counts j place x y z none is read =
    let blocks = blocks_below j (packed x) (packed y) (packed z) in
    none read.head counts (blocks ++ rest) read.headed (is ∙ ap (λ bs. bs ++ rest) read.taken_is ∙ append_assoc read.head blocks rest)

pub same_fed : (f g : Fed) → AreSame f.blue f.green f.red g.blue g.green g.red → f ≡ g
same_fed f g same = λ i. record { blue = same.blue i; green = same.green i; red = same.red i }

pub read_before : (bytes : List ℕ) (place : ℕ) (taken rest counts : List ℕ) (j : ℕ) (fed : Fed) → bytes ≡ taken ++ rest → HasBlocks counts j taken fed → StopsIn counts j taken place
    → IsReadBefore bytes place taken fed.blue fed.green fed.red
read_before bytes place taken rest counts j fed is read stops = record { rest = rest; counts = counts; block = j; bytes_are = is; read = read; stops = stops }

pub one_before : (bytes : List ℕ) (place : ℕ) (f g : Fed) → AreBefore bytes place f → AreBefore bytes place g → f ≡ g
one_before bytes place f g (inl (none, is)) (inl (other, are)) = is ∙ sym are
one_before bytes place f g (inl (none, is)) (inr (taken, rest, counts, j, split, read, stops)) = absurd (none_read bytes taken rest counts j _ _ _ _ none split read)
one_before bytes place f g (inr (taken, rest, counts, j, split, read, stops)) (inl (none, is)) = absurd (none_read bytes taken rest counts j _ _ _ _ none split read)
one_before bytes place f g (inr (taken, rest, counts, j, split, read, stops)) (inr (took, more, other, k, cut, had, ends)) =
    same_fed f g (one_reading bytes place taken took _ _ _ _ _ _
    (read_before bytes place taken rest counts j f split read stops)
    (read_before bytes place took more other k g cut had ends)).1

-- ---- listings

one_listing : (g : Grammar) (listing : Listing) (x y z : List Bool) (o p : RunOutcome) → ListsLanes g listing x y z o → ListsLanes g listing x y z p → o ≡ p
one_listing g listing x y z o p (inl (columns, events, a, is)) (inl (others, all, b, are)) =
    let same : events ≡ all = a.reported ∙ ap g.whole (aligned_same x y z a.blue a.green a.red b.blue b.green b.red a.first b.first) ∙ sym b.reported in
    is ∙ ap (λ (es : List Event). record { status = status_with (listing.faults es); output = listing.text es; note = [] }) same ∙ sym are
one_listing g listing x y z o p (inl (columns, events, a, is)) (inr (others, all, b, are)) = absurd (b.nowhere a.blue a.green a.red a.first.triple)
one_listing g listing x y z o p (inr (columns, events, a, is)) (inl (others, all, b, are)) = absurd (a.nowhere b.blue b.green b.red b.first.triple)
one_listing g listing x y z o p (inr (columns, events, a, is)) (inr (others, all, b, are)) = is ∙ sym are

one_refusal : (g : Grammar) (listing : Listing) (bytes : List ℕ) (f h : CaptureFault) (o p : RunOutcome) → ListsBefore g listing bytes f o → ListsBefore g listing bytes h p → o ≡ p
one_refusal g listing bytes f h o p a b =
    let fault : h ≡ f = one_fault bytes h f b.is a.is in
    let again = subst (λ (x : CaptureFault). ListsBefore g listing bytes x p) fault b in
    let fed : again.fed ≡ a.fed = one_before bytes (place_of f) again.fed a.fed again.before a.before in
    let events : a.events ≡ again.events = reported_one g a.fed a.events again.events a.reported (subst (λ x. IsReportedBy g x again.events) fed again.reported) in
    a.outcome_is ∙ ap (λ (es : List Event). record { status = 3; output = listing.lines es; note = capture_note f }) events ∙ sym again.outcome_is

pub capture_of : (x y z : List Bool) (bytes : List ℕ) → IsCaptureOf x y z bytes → IsCapture bytes
capture_of x y z bytes is = record { blue = x; green = y; red = z; holds = is }

pub lists_once : (g : Grammar) (listing : Listing) (bytes : List ℕ) (o p : RunOutcome) → ListsCapture g listing bytes o → ListsCapture g listing bytes p → o ≡ p
lists_once g listing bytes o p (inl (x, y, z, is, lists)) (inl (u, v, w, are, others)) =
    one_listing g listing x y z o p lists (same_lanes g listing x y z u v w p (one_capture x y z u v w bytes is are) others)
lists_once g listing bytes o p (inl (x, y, z, is, lists)) (inr (fault, refused)) = absurd (no_fault bytes fault (capture_of x y z bytes is) refused.is)
lists_once g listing bytes o p (inr (fault, refused)) (inl (x, y, z, is, lists)) = absurd (no_fault bytes fault (capture_of x y z bytes is) refused.is)
lists_once g listing bytes o p (inr (fault, refused)) (inr (other, again)) = one_refusal g listing bytes fault other o p refused again

-- ---- tracks

one_tracking : (r : EpochRule) → IsRule r → (listing : TrackListing) (fed : Fed) (o p : RunOutcome) → TracksLanes r listing fed o → TracksLanes r listing fed p → o ≡ p
one_tracking r rule listing fed o p (n, m, us, a, inl (some, is)) (k, j, vs, b, inl (more, are)) =
    let one = one_track_by rule _ _ fed n m k j us vs a b in
    is ∙ ap (λ ts. record { status = status_with (listing.faults ts); output = listing.text ts; note = [] }) one.2 ∙ sym are
one_tracking r rule listing fed o p (n, m, us, a, inl (some, is)) (k, j, vs, b, inr (none, are)) = let one = one_track_by rule _ _ fed n m k j us vs a b in absurd (omega (arith, one.1, some, none))
one_tracking r rule listing fed o p (n, m, us, a, inr (none, is)) (k, j, vs, b, inl (some, are)) = let one = one_track_by rule _ _ fed n m k j us vs a b in absurd (omega (arith, one.1, some, none))
one_tracking r rule listing fed o p (n, m, us, a, inr (none, is)) (k, j, vs, b, inr (still, are)) = is ∙ sym are

pub tracks_once : (r : EpochRule) → IsRule r → (listing : TrackListing) (bytes : List ℕ) (o p : RunOutcome) → IsCapture bytes → TracksCapture r listing bytes o → TracksCapture r listing bytes p → o ≡ p
tracks_once r rule listing bytes o p capture (inl (f, is, tracks)) (inl (g, are, others)) =
    let same = one_capture g.blue g.green g.red f.blue f.green f.red bytes are is in
    one_tracking r rule listing f o p tracks (subst (λ x. TracksLanes r listing x p) (same_fed g f same) others)
tracks_once r rule listing bytes o p capture (inl a) (inr (fault, g, events, is, before, tracked, are)) = absurd (no_fault bytes fault capture is)
tracks_once r rule listing bytes o p capture (inr (fault, g, events, is, before, tracked, are)) b = absurd (no_fault bytes fault capture is)
