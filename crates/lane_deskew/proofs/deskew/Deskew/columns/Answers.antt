use Rattle.std.proofs.Common.{arith}
use Rattle.tmds_word.specs.Words.{columns_of}
use Rattle.lane_deskew.proofs.Consuming.{columns_lent, length_first, ready_within}
use Rattle.lane_deskew.proofs.deskew.Deskew.columns.Goals as goal

pub returns-clause-columns : goal.returns-clause-columns
returns-clause-columns c p at stands is = grind (arith, columns_lent)

pub returns-clause-count : goal.returns-clause-count
returns-clause-count c = grind (arith, ready_within, length_first)

pub returns-clause-before : goal.returns-clause-before
unfolding columns_of
returns-clause-before c none = grind arith
