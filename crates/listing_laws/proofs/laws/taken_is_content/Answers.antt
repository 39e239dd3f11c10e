use Rattle.listing_laws.proofs.ContentTaken.{taken_is_content}
use Rattle.listing_laws.proofs.laws.taken_is_content.Goals as goal

pub returns : goal.returns
returns c = taken_is_content
