use Rattle.std.proofs.Common.{arith, refl}
use Rattle.period_grammar.specs.Lending.{fault_event}
use Rattle.listing_writer.specs.ContentText.{frame_events}
use Rattle.listing_writer.proofs.ContentAdding.{adds_as}
use Rattle.listing_writer.proofs.ContentHearing.{recalls_plain, no_avi, fault_listed, fault_marked}
use Rattle.listing_writer.proofs.content_state.ContentState.fault.Goals as goal

pub returns : goal.returns
returns c before recalls = record {
  recalls = recalls_plain c.args.self.now _ before (fault_event c.args.fault) (no_avi c.args.fault) refl (c.hear_fault.ensures (frame_events before) recalls.frames) recalls;
  added = grind (arith, adds_as, fault_listed, fault_marked);
}
