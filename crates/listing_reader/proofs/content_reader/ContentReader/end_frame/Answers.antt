use Rattle.std.proofs.Common.{arith, length-append}
use Rattle.listing_reader.proofs.ContentFrames.{frame_kept, no_fault}
use Rattle.listing_reader.proofs.ContentKept.{fault_first}
use Rattle.listing_reader.proofs.content_reader.ContentReader.end_frame.Goals as goal

pub invariant_of-reader-else-is_some : goal.invariant_of-reader-else-is_some
invariant_of-reader-else-is_some c = grind (arith, no_fault, fault_first, frame_kept, length-append)

pub returns-else-is_some : goal.returns-else-is_some
returns-else-is_some c = grind (arith, no_fault, fault_first, frame_kept)
