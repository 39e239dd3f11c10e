use Rattle.std.proofs.Common.{List, ℕ, [], ◌∷◌, ◌++◌, refl, sym, ap, subst}
use Rattle.frame_build.specs.FrameEvent.{FrameEvent}
use Rattle.frame_build.specs.FramesRepresent.{FramesRepresent}
use Rattle.period_grammar.specs.Events.{Event, cut}
use Rattle.period_grammar.specs.Lending.{lent_event}
use Rattle.listing_writer.specs.Texts.{line_words}
use Rattle.listing_writer.specs.ContentAdded.{Hears}
use Rattle.listing_writer.specs.ContentText.{frame_event_of, frame_events, avi_at, lines_at}
use Rattle.listing_writer.proofs.ContentAdding.{adds_as, adds_none}
use Rattle.listing_writer.proofs.ContentHearing.{recalls_plain, guard_unlisted}
use Rattle.listing_writer.proofs.content_state.ContentState.hear.Goals as goal

pub returns-in-Open : goal.returns-in-Open
returns-in-Open c before recalls =
    let is_unlisted = guard_unlisted c.args.event c.in-Open.is in
    record {
      recalls =
          recalls_plain c.args.self.now _ before (lent_event c.args.event) is_unlisted.read refl
          (subst (λ (frame_event : FrameEvent). FramesRepresent c.other.new.self (frame_events before ++ frame_event ∷ [])) is_unlisted.frame_event (c.other.ensures (frame_events before) recalls.frames)) recalls;
      added = adds_as (λ (lines : List (List ℕ)). lines) _ _ _ _ (is_unlisted.listed before) (adds_none c.args.lines.now);
    }

pub returns-in-Cut : goal.returns-in-Cut
unfolding line_words frame_event_of avi_at lines_at
returns-in-Cut c before recalls =
    subst (λ (event : Event). Hears before event (record { frames = c.other-in-Cut.new.self; vic = c.args.self.now.vic }) c.args.lines.now c.add.new.self) (sym (ap lent_event c.in-Cut.is))
    (record {
      recalls = recalls_plain c.args.self.now _ before (cut c.in-Cut.column) refl refl (c.other-in-Cut.ensures (frame_events before) recalls.frames) recalls;
      added = c.add.ensures.added _ c.long_line.ensures refl;
    })
