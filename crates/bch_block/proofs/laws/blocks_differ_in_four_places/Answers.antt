use Rattle.bch_block.proofs.Verdicts.{four_apart}
use Rattle.bch_block.proofs.laws.blocks_differ_in_four_places.Goals as goal

pub returns : goal.returns
returns c = four_apart
