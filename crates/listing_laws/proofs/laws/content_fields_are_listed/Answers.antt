use Rattle.listing_laws.proofs.Said.{content_fields_are_listed}
use Rattle.listing_laws.proofs.laws.content_fields_are_listed.Goals as goal

pub returns : goal.returns
returns c = content_fields_are_listed
