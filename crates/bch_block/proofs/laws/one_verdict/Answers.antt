use Rattle.bch_block.proofs.Verdicts.{one_verdict}
use Rattle.bch_block.proofs.laws.one_verdict.Goals as goal

pub returns : goal.returns
returns c = one_verdict
