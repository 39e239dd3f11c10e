use Rattle.std.proofs.Common.{◌≡◌, List, Bool, ap, subst, ◌∙◌}
use Rattle.bch_block.specs.Bits.{flipped}
use Rattle.bch_block.specs.Repair.{IsVerdict, Repairs}
use Rattle.bch_block.specs.declared.Verdict.{Verdict}
use Rattle.bch_block.specs.declared.Verdict.TheVariants.{Mended}
use Rattle.bch_block.proofs.Distances.{length-flipped, flipped-flipped}
use Rattle.bch_block.proofs.Verdicts.{one_wrong, one_verdict}
use Rattle.bch_block.proofs.laws.flipping_twice_restores.Goals as goal
use Rattle.std.proofs.Common.{arith}

pub returns-clause-twice : goal.returns-clause-twice
returns-clause-twice c = flipped-flipped

pub returns-clause-restored : goal.returns-clause-restored
returns-clause-restored c = λ x i old new v short b lt is holds repairs.
    let verdict : v ≡ Mended i =
    one_verdict (flipped x i) v (Mended i) (omega (arith, length-flipped x i)) (subst (λ (y : List Bool). IsVerdict y v) is holds) (one_wrong x i short b lt) in
    subst (λ (w : Verdict). Repairs old new w) verdict repairs ∙ ap (λ (y : List Bool). flipped y i) is ∙ flipped-flipped x i
