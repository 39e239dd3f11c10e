-- What is kept of all that was reported, once more was reported.
use Rattle.std.proofs.Common.{arith, ◌≡◌, ◌∙◌, ℕ, List, [], ◌∷◌, ◌++◌, Option, Some, None, reverse, true, ◌⊎◌, inl, inr, refl, sym, subst}
use Rattle.std.specs.Prelude.{option_map, filter_map, slice_index}
use Rattle.std.proofs.lemmas.List.{map-append, reverse-append}
use Rattle.std.proofs.lemmas.List.Elements.{filter_map-append}
use Rattle.infoframe.specs.declared.content.Avi.{Avi}
use Rattle.frame_build.specs.FrameEvent.{other}
use Rattle.frame_build.specs.FramesRepresent.{FramesRepresent}
use Rattle.period_grammar.specs.Events.{Event, open_island, close_island}
use Rattle.period_grammar.specs.Lending.{fault_event}
use Rattle.period_grammar.specs.declared.event.Fault.{Fault}
use Rattle.period_grammar.specs.Lending.{lent_event}
use Rattle.period_grammar.specs.declared.event.EventRef.{EventRef}
use Rattle.period_grammar.specs.declared.event.EventRef.TheVariants.{Open, Close}
use Rattle.listing_writer.specs.Texts.{line_words}
use Rattle.listing_writer.specs.ContentText.{frame_event_of, frame_events, avi_at, first_of, last_avi, last_vic, lines_at, is_fault_line}
use Rattle.listing_writer.specs.ContentAdded.{Recalls}
use Rattle.listing_writer.specs.declared.content_state.ContentState.{ContentState}

abbrev newer : Option Avi → Option Avi → Option Avi
newer (Some avi) before = Some avi
newer None before = before

front : (x : Option Avi) (ys : List Avi) → first_of (reverse (filter_map (λ (y : Option Avi). y) (x ∷ [])) ++ ys) ≡ newer x (first_of ys)
front x ys = grind arith

last_more : (reported : List Event) (event : Event) → last_avi (reported ++ event ∷ []) ≡ newer (avi_at event) (last_avi reported)
unfolding last_avi
last_more reported event = grind (arith, filter_map-append, reverse-append, front)

recalls_newer : (before now : ContentState) (reported : List Event) (event : Event) (read : Option Avi) → avi_at event ≡ read → now.vic ≡ option_map (λ avi. avi.vic) (newer read (last_avi reported))
    → FramesRepresent now.frames (frame_events reported ++ frame_event_of event ∷ []) → Recalls now (reported ++ event ∷ [])
unfolding last_vic
recalls_newer before now reported event read is vic stands = grind (arith, map-append, last_more)

-- an event that is read as no AVI InfoFrame
pub recalls_plain : (before now : ContentState) (reported : List Event) (event : Event) → avi_at event ≡ None → now.vic ≡ before.vic → FramesRepresent now.frames (frame_events reported ++ frame_event_of event ∷ [])
    → Recalls before reported → Recalls now (reported ++ event ∷ [])
unfolding last_vic
recalls_plain before now reported event none same stands recalls = recalls_newer before now reported event None none (same ∙ recalls.vic) stands

-- one that is
pub recalls_avi : (before now : ContentState) (reported : List Event) (event : Event) (avi : Avi) → avi_at event ≡ Some avi → now.vic ≡ Some avi.vic → FramesRepresent now.frames (frame_events reported ++ frame_event_of event ∷ [])
    → Recalls now (reported ++ event ∷ [])
recalls_avi before now reported event avi is vic stands = recalls_newer before now reported event (Some avi) is vic stands

-- a fault is no InfoFrame
pub no_avi : (fault : Fault) → avi_at (fault_event fault) ≡ None
unfolding avi_at
no_avi fault = grind arith

-- it has its line
pub fault_listed : (before : List Event) (fault : Fault) → line_words (fault_event fault) ∷ [] ≡ lines_at before (fault_event fault)
unfolding lines_at
fault_listed before fault = grind arith

-- a fault line
pub fault_marked : (fault : Fault) → is_fault_line (line_words (fault_event fault)) ≡ true
unfolding line_words
fault_marked fault = grind arith

-- the guards of an island
abbrev pub IsGuard : EventRef → Type 0
IsGuard reported = ((sync : List ℕ) × (reported ≡ Open sync)) ⊎ ((sync : List ℕ) × (reported ≡ Close sync))

-- they have no line, and are no InfoFrame
pub record IsUnlisted (event : Event) : Type 0 where
  pub read : avi_at event ≡ None
  pub frame_event : other ≡ frame_event_of event
  pub listed : (before : List Event) → [] ≡ lines_at before event

open_unlisted : (a b : ℕ) → IsUnlisted (open_island a b)
unfolding avi_at frame_event_of lines_at
open_unlisted a b = record { read = refl; frame_event = refl; listed = λ before. refl }

close_unlisted : (a b : ℕ) → IsUnlisted (close_island a b)
unfolding avi_at frame_event_of lines_at
close_unlisted a b = record { read = refl; frame_event = refl; listed = λ before. refl }

pub guard_unlisted : (reported : EventRef) → IsGuard reported → IsUnlisted (lent_event reported)
guard_unlisted reported (inl (sync, is)) = subst (λ (t : EventRef). IsUnlisted (lent_event t)) (sym is) (open_unlisted (slice_index sync 0) (slice_index sync 1))
guard_unlisted reported (inr (sync, is)) = subst (λ (t : EventRef). IsUnlisted (lent_event t)) (sym is) (close_unlisted (slice_index sync 0) (slice_index sync 1))
