use Rattle.std.proofs.Common.{arith}
use Rattle.bch_block.specs.Bits.{flipped}
use Rattle.bch_block.specs.declared.Verdict.TheVariants.{Mended}
use Rattle.bch_block.proofs.Distances.{length-flipped}
use Rattle.bch_block.proofs.Verdicts.{one_wrong, one_verdict}
use Rattle.bch_block.proofs.laws.one_wrong_bit_is_mended.Goals as goal

pub returns-clause-mended : goal.returns-clause-mended
returns-clause-mended c = one_wrong

pub returns-clause-only : goal.returns-clause-only
returns-clause-only c = λ x i v short b lt holds.
    one_verdict (flipped x i) v (Mended i) (omega (arith, length-flipped x i)) holds (one_wrong x i short b lt)
