-- What is added to the lines of one event.
use Rattle.std.specs.Prelude.{◌≡◌, ℕ, List, ◌∷◌, [], ◌++◌}
use Rattle.frame_build.specs.FramesRepresent.{FramesRepresent}
use Rattle.period_grammar.specs.Events.{Event}
use Rattle.listing_writer.specs.Texts.{counted}
use Rattle.listing_writer.specs.ContentText.{frame_events, last_vic, lines_at, text_of, fault_line_count}
use Rattle.listing_writer.specs.ContentSeen.{Seen}
use Rattle.listing_writer.specs.declared.content_state.ContentState.{ContentState}

-- these lines stand after those before, and the fault lines among them are counted
pub record Adds (old new : Seen) (lines : List (List ℕ)) : Type 0 where
  pub text : new.text ≡ old.text ++ text_of lines
  pub faults : new.faults ≡ counted old.faults (fault_line_count lines)

-- what is kept is that of all that was reported
pub record Recalls (past : ContentState) (reported : List Event) : Type 0 where
  pub frames : FramesRepresent past.frames (frame_events reported)
  pub vic : past.vic ≡ last_vic reported

-- this event was reported after `reported`, and its lines were added
pub record Hears (reported : List Event) (event : Event) (now : ContentState) (old new : Seen) : Type 0 where
  pub recalls : Recalls now (reported ++ event ∷ [])
  pub added : Adds old new (lines_at reported event)
