use Rattle.listing_laws.proofs.Contents.{raster_packets}
use Rattle.listing_laws.proofs.laws.raster_packets.Goals as goal

pub returns : goal.returns
returns c = raster_packets
