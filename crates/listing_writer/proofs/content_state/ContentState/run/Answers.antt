use Rattle.std.proofs.Common.{arith, ℕ, Option, None, refl, sym, ◌∙◌}
use Rattle.frame_build.specs.FrameEvent.{run as run_frame_event}
use Rattle.frame_build.specs.Group.{frame_at}
use Rattle.frame_build.specs.declared.FrameNote.{FrameNote}
use Rattle.period_grammar.specs.Events.{run}
use Rattle.listing_writer.specs.ContentText.{frame_event_of, frame_events, avi_at, lines_at, frame_lines}
use Rattle.listing_writer.proofs.ContentAdding.{adds_as, adds_none}
use Rattle.listing_writer.proofs.ContentCases.{no_some}
use Rattle.listing_writer.proofs.ContentHearing.{recalls_plain}
use Rattle.listing_writer.proofs.content_state.ContentState.run.Goals as goal

pub returns-in-Some : goal.returns-in-Some
unfolding frame_event_of avi_at lines_at
returns-in-Some c before recalls = record {
  recalls = recalls_plain c.args.self.now _ before (run c.args.value c.args.count) refl refl (c.run.ensures.stands (frame_events before) recalls.frames) recalls;
  added = grind (arith, adds_as);
}

pub returns-in_default : goal.returns-in_default
unfolding frame_event_of avi_at lines_at frame_lines
returns-in_default c before recalls = record {
  recalls = recalls_plain c.args.self.now _ before (run c.args.value c.args.count) refl refl (c.run.ensures.stands (frame_events before) recalls.frames) recalls;
  added =
      adds_as (λ (vic : Option ℕ). frame_lines vic (frame_at (frame_events before) (run_frame_event c.args.value c.args.count))) _ _ _ _ recalls.vic
      (adds_as (λ (frame : Option FrameNote). frame_lines c.args.self.now.vic frame) _ _ None _
      (sym (no_some c.run.result c.in_default.not-Some) ∙ c.run.ensures.frame (frame_events before) recalls.frames) (adds_none c.args.lines.now));
}
