-- What is reported to a lister of lanes that may lose bits and what it writes: the lines of the events, slips and alignments that were let go,
-- each after those before, and a last line.
use Rattle.std.proofs.Common.{◌≡◌, ◌∙◌, ℕ, ◌<◌, List, [], ◌∷◌, ◌++◌, length, take, refl, ap, sym, subst, append_assoc, append-nil, arith}
use Rattle.std.specs.Prelude.{Option, Result, Ok, Err, OnOk, OnErr, codes}
use Rattle.std.specs.Io.KnownBytes.{Appends}
use Rattle.std.proofs.KnownBytes.{Appends-nil, Appends-trans}
use Rattle.period_grammar.specs.Events.{Event}
use Rattle.listing_writer.specs.Texts.{counted, relock_text, slip_text}
use Rattle.listing_writer.specs.ContentAdded.{Recalls}
use Rattle.listing_writer.specs.ContentTaken.{Breaks, Lists}
use Rattle.listing_writer.specs.GrowingContent.{counted_twice}
use Rattle.listing_writer.specs.declared.content_state.ContentState.{ContentState}
use Rattle.track_sink.specs.TrackEvents.{TrackEvent, event, slip, relock, track_events_of}
use Rattle.capture_commands.specs.ContentTrackText.{content_event_faults, content_event_lines, content_track_faults, content_track_faults_append, content_track_lines, content_track_lines_append, content_track_whole, events_in, events_in_append, events_in_events, no_content_track_lines, no_events_in_relock, no_events_in_slip, one_content_event, one_content_relock, one_content_relock_fault, one_content_slip, one_content_slip_fault}
use Rattle.capture_commands.specs.TrackListings.{TrackListing, content_track_listing, link_track_listing}
use Rattle.capture_commands.specs.TrackText.{no_track_events, one_track_event, track_event_text, track_lines, track_lines_append, track_text}

-- the text of a listing: the lines of the events and slips, each after those before, and the last line
pub record IsTrackText (listing : TrackListing) (after : List TrackEvent → List TrackEvent → List ℕ) : Type 0 where
  pub whole : (track_events : List TrackEvent) → listing.text track_events ≡ listing.lines track_events ++ codes "end\n"
  pub none : listing.lines [] ≡ []
  pub both : (h k : List TrackEvent) → listing.lines (h ++ k) ≡ listing.lines h ++ after h k

-- what stands of a listing as a lister takes events and slips, from one to which nothing was reported on
pub record WritesTrackEvents {A : Type 0} (listing : TrackListing) (after : List TrackEvent → List TrackEvent → List ℕ) (tracked : A → A → List TrackEvent → Type 0) (lost : A → A → TrackEvent → Type 0) (held : A → Option (List ℕ)) (old : A) : Type 0 where
  pub grows : (x : A) (h : List TrackEvent) → tracked old x h → Appends (held old) (held x) (listing.lines h)
  pub breaks :
      (x y : A) (h : List TrackEvent) (e : TrackEvent) → tracked old x h → lost x y e
      → (n : ℕ) × (n < length (after h (e ∷ []))) × Appends (held x) (held y) (take n (after h (e ∷ [])))

-- ---- links

abbrev pub after_link_track : List TrackEvent → List TrackEvent → List ℕ
after_link_track h k = track_lines k

link_track_whole : (track_events : List TrackEvent) → track_text track_events ≡ track_lines track_events ++ codes "end\n"
unfolding track_text
link_track_whole track_events = refl

pub link_is_track_text : IsTrackText link_track_listing after_link_track
link_is_track_text = record { whole = link_track_whole; none = no_track_events; both = track_lines_append }

-- of one line a part was written
line_part : (lines line : List ℕ) (held holds : Option (List ℕ)) → lines ≡ line → (n : ℕ) × (n < length line) × Appends held holds (take n line) → (n : ℕ) × (n < length lines) × Appends held holds (take n lines)
line_part lines line held holds are it = (
  it.0,
  subst (λ (bytes : List ℕ). it.0 < length bytes) (sym are) it.1,
  subst (λ (bytes : List ℕ). Appends held holds (take it.0 bytes)) (sym are) it.2,
)

pub link_track_part : (e : TrackEvent) (held holds : Option (List ℕ)) → (n : ℕ) × (n < length (track_event_text e)) × Appends held holds (take n (track_event_text e))
    → (n : ℕ) × (n < length (track_lines (e ∷ []))) × Appends held holds (take n (track_lines (e ∷ [])))
link_track_part e held holds it = line_part (track_lines (e ∷ [])) (track_event_text e) held holds (one_track_event e) it

-- ---- contents

abbrev pub after_content_track : List TrackEvent → List TrackEvent → List ℕ
after_content_track h k = content_track_lines (events_in h) k

pub content_is_track_text : IsTrackText content_track_listing after_content_track
content_is_track_text = record { whole = content_track_whole; none = no_content_track_lines; both = content_track_lines_append [] }

-- these were reported after `reported`: their lines were written, and the fault lines among them counted
pub record ListsTrack (reported : List Event) (track_events : List TrackEvent) (now : ContentState) (before after : ℕ) (held holds : Option (List ℕ)) : Type 0 where
  pub recalls : Recalls now (reported ++ events_in track_events)
  pub faults : after ≡ counted before (content_track_faults reported track_events)
  pub written : Appends held holds (content_track_lines reported track_events)

-- one was reported after `reported`: of its lines not all was written
abbrev pub LosesTrack : List Event → TrackEvent → Option (List ℕ) → Option (List ℕ) → Type 0
LosesTrack reported (event t) held holds = Breaks reported t held holds
LosesTrack reported (slip lane place) held holds = (n : ℕ) × (n < length (slip_text lane place)) × Appends held holds (take n (slip_text lane place))
LosesTrack reported (relock place) held holds = (n : ℕ) × (n < length (relock_text place)) × Appends held holds (take n (relock_text place))

nothing_counted : (faults : ℕ) (reported : List Event) → faults ≡ counted faults (content_track_faults reported [])
unfolding content_track_faults
nothing_counted faults reported = omega arith

nothing_listed : (reported : List Event) → content_track_lines reported [] ≡ []
unfolding content_track_lines
nothing_listed reported = refl

no_events : events_in [] ≡ []
unfolding events_in
no_events = refl

pub lists_track_none : (past : ContentState) (faults : ℕ) (held : Option (List ℕ)) (reported : List Event) → Recalls past reported → ListsTrack reported [] past faults faults held held
lists_track_none past faults held reported recalls = record {
  recalls = subst (λ (t : List Event). Recalls past t) (sym (ap (λ (es : List Event). reported ++ es) no_events ∙ append-nil reported)) recalls;
  faults = nothing_counted faults reported;
  written = subst (λ (bytes : List ℕ). Appends held held bytes) (sym (nothing_listed reported)) (Appends-nil held);
}

pub lists_track_both : (x y z : ContentState) (before between after : ℕ) (a b c : Option (List ℕ)) (h k : List TrackEvent)
    → ((reported : List Event) → Recalls x reported → ListsTrack reported h y before between a b)
    → ((reported : List Event) → Recalls y reported → ListsTrack reported k z between after b c)
    → (reported : List Event) → Recalls x reported → ListsTrack reported (h ++ k) z before after a c
lists_track_both x y z before between after a b c h k first then reported recalls =
    let one = first reported recalls in
    let two = then (reported ++ events_in h) one.recalls in
    record {
      recalls = subst (λ (t : List Event). Recalls z t) (append_assoc reported (events_in h) (events_in k) ∙ ap (λ (es : List Event). reported ++ es) (sym (events_in_append h k))) two.recalls;
      faults =
          two.faults ∙ ap (λ (n : ℕ). counted n (content_track_faults (reported ++ events_in h) k)) one.faults
          ∙ counted_twice before (content_track_faults reported h) (content_track_faults (reported ++ events_in h) k)
          ∙ ap (λ (n : ℕ). counted before n) (sym (content_track_faults_append reported h k));
      written =
          subst (λ (text : List ℕ). Appends a c text) (sym (content_track_lines_append reported h k))
          (Appends-trans a b c (content_track_lines reported h) (content_track_lines (reported ++ events_in h) k) one.written two.written);
    }

-- events that were listed are events that were, and nothing else

pub listed_track : (now : ContentState) (before after : ℕ) (held holds : Option (List ℕ)) (reported h : List Event) → Lists reported h now before after held holds → ListsTrack reported (track_events_of h) now before after held holds
listed_track now before after held holds reported h it = record {
  recalls = subst (λ (es : List Event). Recalls now (reported ++ es)) (sym (events_in_events h)) it.recalls;
  faults = it.faults ∙ ap (λ (n : ℕ). counted before n) (sym (content_event_faults reported h));
  written = subst (λ (bytes : List ℕ). Appends held holds bytes) (sym (content_event_lines reported h)) it.written;
}

pub track_listed : (now : ContentState) (before after : ℕ) (held holds : Option (List ℕ)) (reported h : List Event) → ListsTrack reported (track_events_of h) now before after held holds → Lists reported h now before after held holds
track_listed now before after held holds reported h it = record {
  recalls = subst (λ (es : List Event). Recalls now (reported ++ es)) (events_in_events h) it.recalls;
  faults = it.faults ∙ ap (λ (n : ℕ). counted before n) (content_event_faults reported h);
  written = subst (λ (bytes : List ℕ). Appends held holds bytes) (content_event_lines reported h) it.written;
}

-- what is no event, and whose line is one fault line, is listed so
pub record IsOneLine (e : TrackEvent) (line : List ℕ) : Type 0 where
  pub no_events : events_in (e ∷ []) ≡ []
  pub fault : (reported : List Event) → content_track_faults reported (e ∷ []) ≡ 1
  pub text : (reported : List Event) → content_track_lines reported (e ∷ []) ≡ line

pub slip_is_line : (lane place : ℕ) → IsOneLine (slip lane place) (slip_text lane place)
slip_is_line lane place = record {
  no_events = no_events_in_slip lane place;
  fault = λ reported. one_content_slip_fault reported lane place;
  text = λ reported. one_content_slip reported lane place;
}

pub relock_is_line : (place : ℕ) → IsOneLine (relock place) (relock_text place)
relock_is_line place = record {
  no_events = no_events_in_relock place;
  fault = λ reported. one_content_relock_fault reported place;
  text = λ reported. one_content_relock reported place;
}

line_listed : (e : TrackEvent) (line : List ℕ) (past now : ContentState) (before after : ℕ) (held holds : Option (List ℕ)) → IsOneLine e line → now ≡ past → after ≡ counted before 1 → Appends held holds line
    → (reported : List Event) → Recalls past reported → ListsTrack reported (e ∷ []) now before after held holds
line_listed e line past now before after held holds is same count written reported recalls = record {
  recalls =
      subst (λ (es : List Event). Recalls now (reported ++ es)) (sym is.no_events)
      (subst (λ (es : List Event). Recalls now es) (sym (append-nil reported)) (subst (λ (s : ContentState). Recalls s reported) (sym same) recalls));
  faults = count ∙ ap (λ (n : ℕ). counted before n) (sym (is.fault reported));
  written = subst (λ (bytes : List ℕ). Appends held holds bytes) (sym (is.text reported)) written;
}

pub line_tracked : {E N : Type 0} (r : Result (Unit {0}) E) (e : TrackEvent) (line : List ℕ) (past now : ContentState) (before after : ℕ) (held holds : Option (List ℕ)) → IsOneLine e line → N → now ≡ past → OnOk r (after ≡ counted before 1) → OnOk r (Appends held holds line)
    → OnOk r (N × ((reported : List Event) → Recalls past reported → ListsTrack reported (e ∷ []) now before after held holds))
line_tracked (Ok done) e line past now before after held holds is name same count written = (name, line_listed e line past now before after held holds is same count written)
line_tracked (Err failed) e line past now before after held holds is name same count written = tt

pub line_lost : {E N M : Type 0} (P : M → Type 0) (r : Result (Unit {0}) E) (before after : ℕ) (line : List ℕ) (held holds : Option (List ℕ)) → N → OnErr r (after ≡ before) → OnErr r ((n : ℕ) × (n < length line) × Appends held holds (take n line))
    → OnErr r (N × (after ≡ before) × ((reported : M) → P reported → (n : ℕ) × (n < length line) × Appends held holds (take n line)))
line_lost P (Ok done) before after line held holds name count written = tt
line_lost P (Err failed) before after line held holds name count written = (name, count, λ reported recalls. written)

-- of the lines of one after others a part was written
pub track_part : (h : List TrackEvent) (e : TrackEvent) (held holds : Option (List ℕ)) → LosesTrack (events_in h) e held holds
    → (n : ℕ) × (n < length (after_content_track h (e ∷ []))) × Appends held holds (take n (after_content_track h (e ∷ [])))
track_part h (event t) held holds it =
    let line = sym (one_content_event (events_in h) t) in (
      it.n,
      subst (λ (bytes : List ℕ). it.n < length bytes) line it.inside,
      subst (λ (bytes : List ℕ). Appends held holds (take it.n bytes)) line it.written,
    )
track_part h (slip lane place) held holds it = line_part (content_track_lines (events_in h) (slip lane place ∷ [])) (slip_text lane place) held holds (one_content_slip (events_in h) lane place) it
track_part h (relock place) held holds it = line_part (content_track_lines (events_in h) (relock place ∷ [])) (relock_text place) held holds (one_content_relock (events_in h) place) it
