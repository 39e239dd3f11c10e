-- What a lister of contents has taken, or broken at.
use Rattle.std.specs.Prelude.{◌≡◌, ℕ, ◌<◌, List, ◌++◌, length, take, Option}
use Rattle.std.specs.Io.KnownBytes.{Appends}
use Rattle.period_grammar.specs.Events.{Event}
use Rattle.listing_writer.specs.Texts.{counted}
use Rattle.listing_writer.specs.ContentText.{lines_at, lines_after, text_of, fault_line_count}
use Rattle.listing_writer.specs.ContentAdded.{Recalls}
use Rattle.listing_writer.specs.declared.content_state.ContentState.{ContentState}

-- events were reported after `reported`: their lines were written, and the fault lines among them counted
pub record Lists (reported events : List Event) (now : ContentState) (before after : ℕ) (held holds : Option (List ℕ)) : Type 0 where
  pub recalls : Recalls now (reported ++ events)
  pub faults : after ≡ counted before (fault_line_count (lines_after reported events))
  pub written : Appends held holds (text_of (lines_after reported events))

-- an event was reported after `reported`: of its lines not all was written
pub record Breaks (reported : List Event) (event : Event) (held holds : Option (List ℕ)) : Type 0 where
  pub n : ℕ
  pub inside : n < length (text_of (lines_at reported event))
  pub written : Appends held holds (take n (text_of (lines_at reported event)))
