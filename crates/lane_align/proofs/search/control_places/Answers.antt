use Rattle.lane_align.proofs.Masks.{places, places_are}
use Rattle.lane_align.proofs.search.control_places.Goals as goal

pub returns : goal.returns
unfolding places
returns c = λ k lt. places_are c.args.bits k
