use Rattle.listing_laws.proofs.Said.{fields_are_listed}
use Rattle.listing_laws.proofs.laws.fields_are_listed.Goals as goal

pub returns : goal.returns
returns c = fields_are_listed
