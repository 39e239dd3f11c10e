use Rattle.std.proofs.Common.{refl, sym, ◌∙◌}
use Rattle.period_grammar.specs.Events.{packet}
use Rattle.listing_writer.specs.ContentText.{frame_event_of, frame_events, avi_at, lines_at}
use Rattle.listing_writer.proofs.ContentCases.{no_some}
use Rattle.listing_writer.proofs.ContentHearing.{recalls_plain, recalls_avi}
use Rattle.listing_writer.proofs.content_state.ContentState.packet.Goals as goal

pub returns-in-Some : goal.returns-in-Some
unfolding frame_event_of avi_at lines_at
returns-in-Some c before recalls = record {
  recalls =
      recalls_avi c.args.self.now _ before (packet c.args.packet.packet.now c.args.packet.verdicts.now c.args.column) c.in-Some.avi
      (sym c.add_packet.ensures.avi ∙ c.in-Some.is) refl (c.other.ensures (frame_events before) recalls.frames);
  added = c.add_packet.ensures.added;
}

pub returns-in_default : goal.returns-in_default
unfolding frame_event_of avi_at lines_at
returns-in_default c before recalls = record {
  recalls =
      recalls_plain c.args.self.now _ before (packet c.args.packet.packet.now c.args.packet.verdicts.now c.args.column)
      (sym c.add_packet.ensures.avi ∙ no_some c.add_packet.result c.in_default.not-Some) refl (c.other.ensures (frame_events before) recalls.frames) recalls;
  added = c.add_packet.ensures.added;
}
