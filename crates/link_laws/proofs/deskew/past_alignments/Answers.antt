use Rattle.lane_deskew.proofs.Fed.{past_alignments}
use Rattle.link_laws.proofs.deskew.past_alignments.Goals as goal

pub returns : goal.returns
returns c = λ xs ys zs p edges cut. past_alignments xs ys zs p cut edges
