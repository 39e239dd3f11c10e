-- What is reported to a lister and what it writes: the lines of the events, each after those before, and a last line.
use Rattle.std.proofs.Common.{◌≡◌, ◌∙◌, ℕ, ◌<◌, List, [], ◌∷◌, ◌++◌, length, take, drop, Bool, true, false, if◌then◌else◌, refl, ap, sym, subst, append-nil}
use Rattle.std.specs.Prelude.{Option, codes}
use Rattle.std.specs.List.{flat_map}
use Rattle.std.proofs.lemmas.Grind.{flat_map-append}
use Rattle.std.proofs.Math.Seq.{drop-append_seam}
use Rattle.std.specs.Io.KnownBytes.{Appends}
use Rattle.period_grammar.specs.Events.{Event}
use Rattle.listing_writer.specs.Texts.{lines_of, link_text, fault_lines, counted}
use Rattle.listing_writer.specs.Growing.{lines_append}
use Rattle.listing_writer.specs.Checks.{check_lines, check_text, is_checked, verdict_line}
use Rattle.listing_writer.specs.GrowingChecks.{check_lines_append, checked_line, verdict_counted}
use Rattle.listing_writer.specs.ContentText.{content_lines, content_text, content_faults, lines_after, lines_at, text_of, fault_line_count}
use Rattle.listing_writer.specs.ContentAdded.{Recalls}
use Rattle.listing_writer.specs.ContentTaken.{Lists, Breaks}
use Rattle.listing_writer.specs.declared.content_state.ContentState.{ContentState}
use Rattle.listing_writer.specs.GrowingContent.{lines_after_append, text_append}
use Rattle.audio_out.specs.Frames.{biphase, frame_bytes, from_start}
use Rattle.audio_packets.specs.declared.sample.Sample.{Sample}
use Rattle.biphase_listing.specs.StreamText.{Lists as ListsSound, Breaks as BreaksSound, Recalls as RecallsSound, biphase_faults, biphase_text, samples_at, reported_samples}
use Rattle.capture_commands.specs.Listings.{Listing, link_listing, check_listing, content_listing, biphase_listing}

-- the text of a listing: the lines of the events, each after those before, and the last line
pub record IsText (listing : Listing) (after : List Event → List Event → List ℕ) (last : List Event → List ℕ) : Type 0 where
  pub whole : (events : List Event) → listing.text events ≡ listing.lines events ++ last events
  pub none : listing.lines [] ≡ []
  pub both : (h k : List Event) → listing.lines (h ++ k) ≡ listing.lines h ++ after h k

abbrev pub last_link : List Event → List ℕ
last_link events = codes "end\n"

abbrev pub after_link : List Event → List Event → List ℕ
after_link h k = lines_of k

link_whole : (events : List Event) → link_text events ≡ lines_of events ++ last_link events
unfolding link_text
link_whole events = refl

no_lines : lines_of [] ≡ []
unfolding lines_of
no_lines = refl

pub link_is_text : IsText link_listing after_link last_link
link_is_text = record { whole = link_whole; none = no_lines; both = lines_append }

abbrev pub last_check : List Event → List ℕ
last_check events = verdict_line (fault_lines events)

abbrev pub after_check : List Event → List Event → List ℕ
after_check h k = check_lines k

check_whole : (events : List Event) → check_text events ≡ check_lines events ++ last_check events
unfolding check_text
check_whole events = refl

no_checks : check_lines [] ≡ []
unfolding check_lines lines_of
no_checks = refl

pub check_is_text : IsText check_listing after_check last_check
check_is_text = record { whole = check_whole; none = no_checks; both = check_lines_append }

abbrev pub after_content : List Event → List Event → List ℕ
after_content h k = text_of (lines_after h k)

content_whole : (events : List Event) → content_text events ≡ text_of (content_lines events) ++ last_link events
unfolding content_text
content_whole events = refl

no_content : text_of (content_lines []) ≡ []
unfolding content_lines lines_after text_of
no_content = refl

content_both : (h k : List Event) → text_of (content_lines (h ++ k)) ≡ text_of (content_lines h) ++ after_content h k
unfolding content_lines
content_both h k = ap text_of (lines_after_append [] h k) ∙ text_append (lines_after [] h) (lines_after h k)

pub content_is_text : IsText content_listing after_content last_link
content_is_text = record { whole = content_whole; none = no_content; both = content_both }

-- what stands of a listing as a lister takes events, from one to which nothing was reported on
pub record Writes {A : Type 0} (listing : Listing) (after : List Event → List Event → List ℕ) (took : A → A → List Event → Type 0) (broke : A → A → Event → Type 0) (held : A → Option (List ℕ)) (old : A) : Type 0 where
  pub grows : (x : A) (h : List Event) → took old x h → Appends (held old) (held x) (listing.lines h)
  pub breaks :
      (x y : A) (h : List Event) (t : Event) → took old x h → broke x y t
      → (n : ℕ) × (n < length (after h (t ∷ []))) × Appends (held x) (held y) (take n (after h (t ∷ [])))

-- of a checked event's line a part was written
pub checked_part : (t : Event) (held holds : Option (List ℕ)) → (n : ℕ) × (n < length (lines_of (t ∷ []))) × (is_checked t ≡ true) × Appends held holds (take n (lines_of (t ∷ [])))
    → (n : ℕ) × (n < length (after_check [] (t ∷ []))) × Appends held holds (take n (after_check [] (t ∷ [])))
checked_part t held holds it =
    let line = sym (checked_line t it.2) in (
      it.0,
      subst (λ (bytes : List ℕ). it.0 < length bytes) line it.1,
      subst (λ (bytes : List ℕ). Appends held holds (take it.0 bytes)) line it.3,
    )

-- the last line of a check by a count that stands still at its greatest
pub verdict_of : (n : ℕ) (events : List Event) → n ≡ counted 0 (fault_lines events) → verdict_line n ≡ last_check events
verdict_of n events is = ap verdict_line is ∙ verdict_counted (fault_lines events)

-- the lines of one event more
one_after : (h : List Event) (t : Event) → text_of (lines_at h t) ≡ after_content h (t ∷ [])
unfolding lines_after
one_after h t = ap text_of (sym (append-nil (lines_at h t)))

-- a lister of contents to which nothing was reported before

pub written_first : (past now : ContentState) (h : List Event) (before after : ℕ) (held holds : Option (List ℕ)) → Lists [] h now before after held holds → Appends held holds (content_listing.lines h)
unfolding content_lines
written_first past now h before after held holds it = it.written

pub recalls_first : (past now : ContentState) (h : List Event) (before after : ℕ) (held holds : Option (List ℕ)) → Lists [] h now before after held holds → Recalls now h
recalls_first past now h before after held holds it = it.recalls

pub counted_first : (past now : ContentState) (h : List Event) (before after : ℕ) (held holds : Option (List ℕ)) → Lists [] h now before after held holds → before ≡ 0 → after ≡ counted 0 (content_faults h)
unfolding content_faults content_lines
counted_first past now h before after held holds it none = it.faults ∙ ap (λ n. counted n (fault_line_count (lines_after [] h))) none

pub broken_after : (past : ContentState) (h : List Event) (t : Event) (held holds : Option (List ℕ)) → Breaks h t held holds
    → (n : ℕ) × (n < length (after_content h (t ∷ []))) × Appends held holds (take n (after_content h (t ∷ [])))
broken_after past h t held holds it =
    let line = one_after h t in (
      it.n,
      subst (λ (bytes : List ℕ). it.n < length bytes) line it.inside,
      subst (λ (bytes : List ℕ). Appends held holds (take it.n bytes)) line it.written,
    )

-- a biphase stream: after events it grows by some bytes, and it has no last line

abbrev pub after_biphase : ℕ → List Event → List Event → List ℕ
after_biphase pair h k = drop (length (biphase_text pair h)) (biphase_text pair (h ++ k))

abbrev pub last_biphase : List Event → List ℕ
last_biphase events = []

record More (front whole : List Sample) : Type 0 where
  more : List Sample
  is : whole ≡ front ++ more

more_if : (b : Bool) (s : Sample) (xs ys : List Sample) → More (from_start xs) (from_start (xs ++ ys))
    → More (if b then s ∷ xs else from_start xs) (if b then s ∷ xs ++ ys else from_start (xs ++ ys))
more_if true s xs ys m = record { more = ys; is = refl }
more_if false s xs ys m = m

from_more : (xs ys : List Sample) → More (from_start xs) (from_start (xs ++ ys))
unfolding from_start
from_more [] ys = record { more = from_start ys; is = refl }
from_more (s ∷ xs) ys = more_if s.start s xs ys (from_more xs ys)

stream_grows : (pair : ℕ) (h k : List Event) → (more : List ℕ) × (biphase_text pair (h ++ k) ≡ biphase_text pair h ++ more)
unfolding biphase_text reported_samples biphase
stream_grows pair h k =
    let xs = flat_map (samples_at pair) h in
    let ys = flat_map (samples_at pair) k in
    let m = from_more xs ys in (
      flat_map frame_bytes m.more,
      ap (λ zs. flat_map frame_bytes (from_start zs)) (flat_map-append (samples_at pair) h k) ∙ ap (flat_map frame_bytes) m.is ∙ flat_map-append frame_bytes (from_start xs) m.more,
    )

drop_front : (front more whole : List ℕ) → whole ≡ front ++ more → drop (length front) whole ≡ more
drop_front front more whole is = ap (λ bytes. drop (length front) bytes) is ∙ drop-append_seam front more

biphase_both : (pair : ℕ) (h k : List Event) → biphase_text pair (h ++ k) ≡ biphase_text pair h ++ after_biphase pair h k
biphase_both pair h k =
    let g = stream_grows pair h k in
    g.1 ∙ ap (λ bytes. biphase_text pair h ++ bytes) (sym (drop_front (biphase_text pair h) g.0 (biphase_text pair (h ++ k)) g.1))

no_sound : (pair : ℕ) → biphase_text pair [] ≡ []
unfolding biphase_text reported_samples biphase from_start
no_sound pair = refl

biphase_whole : (pair : ℕ) (events : List Event) → biphase_text pair events ≡ biphase_text pair events ++ last_biphase events
biphase_whole pair events = sym (append-nil (biphase_text pair events))

pub biphase_is_text : (pair : ℕ) → IsText (biphase_listing pair) (after_biphase pair) last_biphase
biphase_is_text pair = record { whole = biphase_whole pair; none = no_sound pair; both = biphase_both pair }

pub sound_first : (pair : ℕ) (now : Bool) (h : List Event) (before after : ℕ) (held holds : Option (List ℕ)) → ListsSound pair [] h now before after held holds → Appends held holds (biphase_text pair h)
sound_first pair now h before after held holds it =
    subst (λ (bytes : List ℕ). Appends held holds bytes) (sym (it.grows ∙ ap (λ bytes. bytes ++ it.bytes) (no_sound pair))) it.written

pub sound_counted : (pair : ℕ) (now : Bool) (h : List Event) (before after : ℕ) (held holds : Option (List ℕ)) → ListsSound pair [] h now before after held holds → before ≡ 0 → after ≡ counted 0 (biphase_faults h)
sound_counted pair now h before after held holds it none = it.faults ∙ ap (λ n. counted n (biphase_faults h)) none

pub sound_after : (pair : ℕ) (h : List Event) (t : Event) (held holds : Option (List ℕ)) → BreaksSound pair h t held holds
    → (n : ℕ) × (n < length (after_biphase pair h (t ∷ []))) × Appends held holds (take n (after_biphase pair h (t ∷ [])))
sound_after pair h t held holds it =
    let same = sym (drop_front (biphase_text pair h) it.bytes (biphase_text pair (h ++ t ∷ [])) it.grows) in (
      it.n,
      subst (λ (bytes : List ℕ). it.n < length bytes) same it.missing,
      subst (λ (bytes : List ℕ). Appends held holds (take it.n bytes)) same it.written,
    )

pub sound_broken : (pair again : ℕ) → again ≡ pair → (now : Bool) (h : List Event) (t : Event) (before after : ℕ) (old held holds : Option (List ℕ)) → ListsSound pair [] h now before after old held
    → ((reported : List Event) → RecallsSound now again reported → BreaksSound again reported t held holds)
    → (n : ℕ) × (n < length (after_biphase pair h (t ∷ []))) × Appends held holds (take n (after_biphase pair h (t ∷ [])))
sound_broken pair again same now h t before after old held holds it broken =
    sound_after pair h t held holds ((subst (λ (p : ℕ). (reported : List Event) → RecallsSound now p reported → BreaksSound p reported t held holds) same broken) h it.recalls)
