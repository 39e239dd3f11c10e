use Rattle.biphase_listing.proofs.OneRefusal.{one_refusal}
use Rattle.biphase_listing.proofs.laws.one_refusal.Goals as goal

pub returns : goal.returns
returns c = one_refusal
