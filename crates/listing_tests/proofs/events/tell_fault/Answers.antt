use Rattle.listing_writer.proofs.ReportedSizes.{fault_sized}
use Rattle.listing_tests.proofs.events.tell_fault.Goals as goal

pub hear-requires : goal.hear-requires
hear-requires g c = fault_sized c.args.fault
