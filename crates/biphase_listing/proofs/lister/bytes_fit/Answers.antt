use Rattle.biphase_listing.proofs.Stepping.{all_bytes}
use Rattle.biphase_listing.proofs.Streaming.{bytes_fit}
use Rattle.biphase_listing.proofs.lister.bytes_fit.Goals as goal

pub returns : goal.returns
returns c = bytes_fit c.args.header.now c.args.bodies.now c.read_samples_fit.ensures c.told-bodies (c.fits-header 2) (all_bytes c.args.bodies.now c.fits-bodies)
