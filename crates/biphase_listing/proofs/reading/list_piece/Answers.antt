use Rattle.biphase_listing.proofs.Answering.{adds_few}
use Rattle.biphase_listing.proofs.reading.list_piece.Goals as goal

pub stopped-requires : goal.stopped-requires
stopped-requires g c = let e = c.list-stop.ensures in adds_few c.args.piece.now c.args.frames.now c.list-stop.new.self e.0 e.1 e.2 c.requires.few
