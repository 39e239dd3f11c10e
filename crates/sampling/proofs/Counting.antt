-- What is counted, once one event more was reported.
use Rattle.std.proofs.Common.{◌≡◌, ◌∙◌, ℕ, ◌+◌, ◌-◌, ◌^◌, Bool, true, false, cond, List, [], ◌∷◌, ◌++◌, ◌⊎◌, inl, inr, Option, Some, None, min, ap, sym, subst, append-nil, arith}
use Rattle.std.specs.Prelude.{is_some, slice_index}
use Rattle.std.proofs.lemmas.List.{map-append}
use Rattle.frame_build.specs.FrameEvent.{FrameEvent, other}
use Rattle.frame_build.specs.declared.FrameNote.{FrameNote}
use Rattle.frame_build.specs.declared.LineNote.{LineNote}
use Rattle.frame_build.specs.State.{State}
use Rattle.frame_build.specs.FramesRepresent.{FramesRepresent}
use Rattle.period_grammar.specs.Events.{Event}
use Rattle.period_grammar.specs.Lending.{lent_event}
use Rattle.period_grammar.specs.declared.event.EventRef.{EventRef}
use Rattle.period_grammar.specs.declared.event.EventRef.TheVariants.{Open, Close, Cut}
use Rattle.listing_writer.specs.Texts.{counted}
use Rattle.listing_writer.specs.ContentText.{frame_event_of, frame_events}
use Rattle.listing_writer.specs.Listed.{Listed, row, listed_rows, listed_at, listed}
use Rattle.sampling.specs.Counts.{kept}
use Rattle.sampling.specs.Tallies.{Shows, Counted}
use Rattle.sampling.specs.declared.pictures.Pictures.{Pictures}
use Rattle.sampling.specs.declared.counter.Counter.{Counter}
use Rattle.sampling.proofs.Growing.{with_more, packets_more, listed_more}
use Rattle.sampling.proofs.LineKinds.{Kinds, kinds_at, none, IsUnlisted, open_unlisted, close_unlisted, cut_unlisted}

-- a count after so many more
abbrev pub after : ℕ → ℕ → ℕ
after count more = min (count + more) (2 ^ 64 - 1)

-- the counts grew by so much
pub record Gains (old new : Counter) (x : Kinds) : Type 0 where
  pub frames : new.frames ≡ after old.frames x.frames
  pub rows : new.rows ≡ after old.rows x.rows
  pub packets : new.packets ≡ after old.packets x.packets
  pub samples : new.samples ≡ after old.samples x.samples
  pub symbols : new.symbols ≡ after old.symbols x.symbols
  pub mended : new.mended ≡ after old.mended x.mended
  pub code : new.code ≡ after old.code x.code

-- a count that did not grow
pub still : (count n : ℕ) → count ≡ kept n → count ≡ after count 0
still count n is = omega arith

pub counted_more : (old new : Counter) (reported : List Event) (event : Event) (x : Kinds) → Counted old reported → kinds_at reported event ≡ x
    → FramesRepresent new.heard (frame_events reported ++ frame_event_of event ∷ []) → Shows new.pictures (listed reported ++ listed_at (frame_events reported) event) → Gains old new x
    → Counted new (reported ++ event ∷ [])
counted_more old new reported event x was kinds heard pictures gains = grind (arith, map-append, listed_more, with_more, Kinds, packets_more)

-- no row and no frame is listed of the event
pub unlisted : (p : Pictures) (reported : List Event) (event : Event) → Shows p (listed reported) → listed_at (frame_events reported) event ≡ [] → Shows p (listed reported ++ listed_at (frame_events reported) event)
unlisted p reported event was none = subst (λ (ls : List Listed). Shows p ls) (sym (ap (λ (ls : List Listed). listed reported ++ ls) none ∙ append-nil (listed reported))) was

-- the same counts, with what frames see of the event
abbrev pub hearing : Counter → State → Counter
hearing k heard = record {
  heard = heard;
  pictures = k.pictures;
  frames = k.frames;
  rows = k.rows;
  packets = k.packets;
  samples = k.samples;
  symbols = k.symbols;
  mended = k.mended;
  code = k.code;
}

-- nothing is counted of the event
pub counted_none : (k : Counter) (heard : State) (reported : List Event) (event : Event) → Counted k reported → kinds_at reported event ≡ none
    → listed_at (frame_events reported) event ≡ [] → FramesRepresent heard (frame_events reported ++ frame_event_of event ∷ []) → Counted (hearing k heard) (reported ++ event ∷ [])
counted_none k heard reported event was kinds empty stands =
    counted_more k (hearing k heard) reported event none was kinds stands (unlisted k.pictures reported event was.pictures empty)
    (record {
      frames = still _ _ was.frames;
      rows = still _ _ was.rows;
      packets = still _ _ was.packets;
      samples = still _ _ was.samples;
      symbols = still _ _ was.symbols;
      mended = still _ _ was.mended;
      code = still _ _ was.code;
    })

pub counted_unlisted : (k : Counter) (heard : State) (reported : List Event) (event : Event) → Counted k reported → IsUnlisted event → FramesRepresent heard (frame_events reported ++ other ∷ []) → Counted (hearing k heard) (reported ++ event ∷ [])
counted_unlisted k heard reported event was is_unlisted stands =
    counted_none k heard reported event was (is_unlisted.kinds reported) (is_unlisted.unlisted (frame_events reported)) (subst (λ (e : FrameEvent). FramesRepresent heard (frame_events reported ++ e ∷ [])) is_unlisted.frame_event stands)

-- the lister's count of fault lines
pub faults_kept : (old new a b c : ℕ) → old ≡ kept a → new ≡ counted old b → c ≡ a + b → new ≡ kept c
faults_kept old new a b c was now sum = omega arith

-- ---- frames and rows

pub is_frame : (r : Option FrameNote) → is_some r ≡ true → (note : FrameNote) × (r ≡ Some note)
is_frame r h = grind arith

pub no_frame : (r : Option FrameNote) → is_some r ≡ false → r ≡ None
no_frame r h = grind arith

pub row_listed : (p : Pictures) (ls : List Listed) (pixels : List ℕ) (note : LineNote) → note.counts ≡ true → Shows p (ls ++ row pixels note ∷ []) → Shows p (ls ++ listed_rows pixels note)
row_listed p ls pixels note counts shown = subst (λ (t : Bool). Shows p (ls ++ cond t (row pixels note ∷ []) [])) (sym counts) shown

-- ---- guards and the cut

abbrev pub IsParting : EventRef → Type 0
IsParting reported = ((sync : List ℕ) × (reported ≡ Open sync)) ⊎ (((sync : List ℕ) × (reported ≡ Close sync)) ⊎ ((column : ℕ) × (reported ≡ Cut column)))

pub parting_unlisted : (reported : EventRef) → IsParting reported → IsUnlisted (lent_event reported)
parting_unlisted reported (inl (sync, is)) = subst (λ (t : EventRef). IsUnlisted (lent_event t)) (sym is) (open_unlisted (slice_index sync 0) (slice_index sync 1))
parting_unlisted reported (inr (inl (sync, is))) = subst (λ (t : EventRef). IsUnlisted (lent_event t)) (sym is) (close_unlisted (slice_index sync 0) (slice_index sync 1))
parting_unlisted reported (inr (inr (column, is))) = subst (λ (t : EventRef). IsUnlisted (lent_event t)) (sym is) (cut_unlisted column)
