use Rattle.std.proofs.Common.{refl}
use Rattle.period_grammar.specs.Events.{line}
use Rattle.listing_writer.specs.ContentText.{frame_event_of, frame_events, avi_at, lines_at, row_lines}
use Rattle.listing_writer.proofs.ContentAdding.{adds_as}
use Rattle.listing_writer.proofs.ContentHearing.{recalls_plain}
use Rattle.listing_writer.proofs.content_state.ContentState.line.Goals as goal

pub returns : goal.returns
unfolding frame_event_of avi_at lines_at
returns c before recalls = record {
  recalls = recalls_plain c.args.self.now _ before (line c.args.pixels.now) refl refl (c.line-note.ensures.stands (frame_events before) recalls.frames) recalls;
  added = adds_as (row_lines c.args.pixels.now) _ _ _ _ (c.line-note.ensures.note (frame_events before) recalls.frames) c.add_row.ensures;
}
