-- The text of the content of what is reported of lanes that may lose bits: the lines of its events as of one stream, whatever slips
-- and alignments that were let go lie between, and a line for each of these where it stands.
use Rattle.std.proofs.Common.{◌≡◌, ◌∙◌, ℕ, suc, ◌+◌, List, [], ◌∷◌, ◌++◌, refl, ap, sym, append-nil, append_assoc, arith}
use Rattle.std.specs.Prelude.{codes}
use Rattle.period_grammar.specs.Events.{Event}
use Rattle.listing_writer.specs.Texts.{relock_text, slip_text}
use Rattle.listing_writer.specs.ContentText.{content_faults, content_lines, content_text, fault_line_count, lines_after, lines_at, text_of}
use Rattle.listing_writer.specs.GrowingContent.{fault_count_append, text_append}
use Rattle.track_sink.specs.TrackEvents.{TrackEvent, event, slip, relock, track_events_of}

-- the events among them
unfoldable pub events_in : List TrackEvent → List Event
events_in [] = []
events_in (event t ∷ track_events) = t ∷ events_in track_events
events_in (slip lane place ∷ track_events) = events_in track_events
events_in (relock place ∷ track_events) = events_in track_events

-- the lines of what is reported after these events
unfoldable pub content_track_lines : List Event → List TrackEvent → List ℕ
content_track_lines past [] = []
content_track_lines past (event t ∷ track_events) = text_of (lines_at past t) ++ content_track_lines (past ++ t ∷ []) track_events
content_track_lines past (slip lane place ∷ track_events) = slip_text lane place ++ content_track_lines past track_events
content_track_lines past (relock place ∷ track_events) = relock_text place ++ content_track_lines past track_events

unfoldable pub content_track_text : List TrackEvent → List ℕ
content_track_text track_events = content_track_lines [] track_events ++ codes "end\n"

-- how many of these lines are fault lines: that of each slip and that of each alignment that was let go is one
unfoldable pub content_track_faults : List Event → List TrackEvent → ℕ
content_track_faults past [] = 0
content_track_faults past (event t ∷ track_events) = fault_line_count (lines_at past t) + content_track_faults (past ++ t ∷ []) track_events
content_track_faults past (slip lane place ∷ track_events) = suc (content_track_faults past track_events)
content_track_faults past (relock place ∷ track_events) = suc (content_track_faults past track_events)

-- they grow by events

pub events_in_append : (h k : List TrackEvent) → events_in (h ++ k) ≡ events_in h ++ events_in k
unfolding events_in
events_in_append [] k = refl
events_in_append (event t ∷ h) k = ap (λ (ts : List Event). t ∷ ts) (events_in_append h k)
events_in_append (slip lane place ∷ h) k = events_in_append h k
events_in_append (relock place ∷ h) k = events_in_append h k

pub content_track_lines_append : (past : List Event) (h k : List TrackEvent) → content_track_lines past (h ++ k) ≡ content_track_lines past h ++ content_track_lines (past ++ events_in h) k
unfolding content_track_lines events_in
content_track_lines_append past [] k = ap (λ (p : List Event). content_track_lines p k) (sym (append-nil past))
content_track_lines_append past (event t ∷ h) k =
    let line = text_of (lines_at past t) in
    ap (λ (bytes : List ℕ). line ++ bytes) (content_track_lines_append (past ++ t ∷ []) h k)
    ∙ ap (λ (p : List Event). line ++ (content_track_lines (past ++ t ∷ []) h ++ content_track_lines p k)) (append_assoc past (t ∷ []) (events_in h))
    ∙ sym (append_assoc line (content_track_lines (past ++ t ∷ []) h) (content_track_lines (past ++ t ∷ events_in h) k))
content_track_lines_append past (slip lane place ∷ h) k =
    ap (λ (bytes : List ℕ). slip_text lane place ++ bytes) (content_track_lines_append past h k)
    ∙ sym (append_assoc (slip_text lane place) (content_track_lines past h) (content_track_lines (past ++ events_in h) k))
content_track_lines_append past (relock place ∷ h) k =
    ap (λ (bytes : List ℕ). relock_text place ++ bytes) (content_track_lines_append past h k)
    ∙ sym (append_assoc (relock_text place) (content_track_lines past h) (content_track_lines (past ++ events_in h) k))

pub content_track_faults_append : (past : List Event) (h k : List TrackEvent) → content_track_faults past (h ++ k) ≡ content_track_faults past h + content_track_faults (past ++ events_in h) k
unfolding content_track_faults events_in
content_track_faults_append past [] k =
    let e = ap (λ (p : List Event). content_track_faults p k) (sym (append-nil past)) in
    omega (arith, e)
content_track_faults_append past (event t ∷ h) k =
    let later = content_track_faults_append (past ++ t ∷ []) h k in
    let e = ap (λ (p : List Event). content_track_faults p k) (append_assoc past (t ∷ []) (events_in h)) in
    omega (arith, later, e)
content_track_faults_append past (slip lane place ∷ h) k =
    let later = content_track_faults_append past h k in
    omega (arith, later)
content_track_faults_append past (relock place ∷ h) k =
    let later = content_track_faults_append past h k in
    omega (arith, later)

pub no_content_track_lines : content_track_lines [] [] ≡ []
unfolding content_track_lines
no_content_track_lines = refl

pub content_track_whole : (track_events : List TrackEvent) → content_track_text track_events ≡ content_track_lines [] track_events ++ codes "end\n"
unfolding content_track_text
content_track_whole track_events = refl

pub one_content_event : (past : List Event) (t : Event) → content_track_lines past (event t ∷ []) ≡ text_of (lines_at past t)
unfolding content_track_lines
one_content_event past t = append-nil (text_of (lines_at past t))

pub one_content_slip : (past : List Event) (lane place : ℕ) → content_track_lines past (slip lane place ∷ []) ≡ slip_text lane place
unfolding content_track_lines
one_content_slip past lane place = append-nil (slip_text lane place)

pub one_content_relock : (past : List Event) (place : ℕ) → content_track_lines past (relock place ∷ []) ≡ relock_text place
unfolding content_track_lines
one_content_relock past place = append-nil (relock_text place)

pub one_content_slip_fault : (past : List Event) (lane place : ℕ) → content_track_faults past (slip lane place ∷ []) ≡ 1
unfolding content_track_faults
one_content_slip_fault past lane place = refl

pub one_content_relock_fault : (past : List Event) (place : ℕ) → content_track_faults past (relock place ∷ []) ≡ 1
unfolding content_track_faults
one_content_relock_fault past place = refl

pub no_events_in_slip : (lane place : ℕ) → events_in (slip lane place ∷ []) ≡ []
unfolding events_in
no_events_in_slip lane place = refl

pub no_events_in_relock : (place : ℕ) → events_in (relock place ∷ []) ≡ []
unfolding events_in
no_events_in_relock place = refl

-- where all of them are events they are the content of these

pub events_in_events : (events : List Event) → events_in (track_events_of events) ≡ events
unfolding events_in
events_in_events [] = refl
events_in_events (t ∷ ts) = ap (λ (us : List Event). t ∷ us) (events_in_events ts)

no_text : [] ≡ text_of []
unfolding text_of
no_text = refl

no_fault_lines : 0 ≡ fault_line_count []
unfolding fault_line_count
no_fault_lines = refl

pub content_event_lines : (past events : List Event) → content_track_lines past (track_events_of events) ≡ text_of (lines_after past events)
unfolding content_track_lines lines_after
content_event_lines past [] = no_text
content_event_lines past (t ∷ ts) =
    ap (λ (bytes : List ℕ). text_of (lines_at past t) ++ bytes) (content_event_lines (past ++ t ∷ []) ts)
    ∙ sym (text_append (lines_at past t) (lines_after (past ++ t ∷ []) ts))

pub content_event_faults : (past events : List Event) → content_track_faults past (track_events_of events) ≡ fault_line_count (lines_after past events)
unfolding content_track_faults lines_after
content_event_faults past [] = no_fault_lines
content_event_faults past (t ∷ ts) =
    let later = content_event_faults (past ++ t ∷ []) ts in
    let both = fault_count_append (lines_at past t) (lines_after (past ++ t ∷ []) ts) in
    omega (arith, later, both)

pub content_events_text : (events : List Event) → content_track_text (track_events_of events) ≡ content_text events
unfolding content_track_text content_text content_lines
content_events_text events = ap (λ (bytes : List ℕ). bytes ++ codes "end\n") (content_event_lines [] events)

pub content_events_faults : (events : List Event) → content_track_faults [] (track_events_of events) ≡ content_faults events
unfolding content_faults content_lines
content_events_faults events = content_event_faults [] events
