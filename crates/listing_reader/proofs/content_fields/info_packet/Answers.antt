use Rattle.std.proofs.Common.{arith}
use Rattle.listing_reader.specs.ContentForms.{info_reported}
use Rattle.listing_reader.proofs.InfoWritten.{written_packet}
use Rattle.listing_reader.proofs.content_fields.info_packet.Goals as goal

pub returns : goal.returns
unfolding info_reported
returns c = grind (arith, written_packet)
