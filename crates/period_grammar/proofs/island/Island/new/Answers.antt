use Rattle.std.proofs.Common.{refl}
use Rattle.period_grammar.proofs.Blocks.{fresh}
use Rattle.period_grammar.proofs.island.Island.new.Goals as goal

pub returns-clause-heard : goal.returns-clause-heard
returns-clause-heard c = fresh _ refl refl refl
