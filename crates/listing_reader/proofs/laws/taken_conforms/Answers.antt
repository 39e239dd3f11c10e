use Rattle.listing_reader.proofs.Conforming as laws
use Rattle.listing_reader.proofs.laws.taken_conforms.Goals as goal

pub returns : goal.returns
returns c = laws.taken_conforms
