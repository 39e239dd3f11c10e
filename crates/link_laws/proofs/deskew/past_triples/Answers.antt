use Rattle.lane_deskew.proofs.Fed.{past_triples}
use Rattle.link_laws.proofs.deskew.past_triples.Goals as goal

pub returns : goal.returns
returns c = λ xs ys zs p d e f cut. past_triples xs ys zs p cut d e f
