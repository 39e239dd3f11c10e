use Rattle.std.proofs.Common.{arith}
use Rattle.bch_block.specs.Bits.{flipped}
use Rattle.bch_block.specs.declared.Verdict.TheVariants.{Lost}
use Rattle.bch_block.proofs.Distances.{length-flipped}
use Rattle.bch_block.proofs.Verdicts.{two_wrong, one_verdict}
use Rattle.bch_block.proofs.laws.two_wrong_bits_are_lost.Goals as goal

pub returns-clause-lost : goal.returns-clause-lost
returns-clause-lost c = two_wrong

pub returns-clause-only : goal.returns-clause-only
returns-clause-only c = λ x i j v short b li lj apart holds.
    one_verdict (flipped (flipped x i) j) v Lost (omega (arith, length-flipped (flipped x i) j, length-flipped x i)) holds
    (two_wrong x i j short b li lj apart)
