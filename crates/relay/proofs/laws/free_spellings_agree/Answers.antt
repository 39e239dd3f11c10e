use Rattle.relay.proofs.OneSpelling.{free_spellings_agree, free_spelling_agrees}
use Rattle.relay.proofs.laws.free_spellings_agree.Goals as goal

pub returns-clause-both : goal.returns-clause-both
returns-clause-both c = free_spellings_agree

pub returns-clause-sent : goal.returns-clause-sent
returns-clause-sent c = free_spelling_agrees
