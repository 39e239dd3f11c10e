use Rattle.std.proofs.Common.{arith, ◌+◌, ◌*◌, ◌∙◌, ap, slice_index}
use Rattle.island_pack.specs.declared.pairs.TheConstants.{PAIRS}
use Rattle.island_pack.proofs.NibblePairs.{characters_of}
use Rattle.island_pack.proofs.pairs.characters.Goals as goal

pub returns : goal.returns
returns c = characters_of c.args.low c.args.high _ (omega (arith, c.ranges.low.fits)) (omega (arith, c.ranges.high.fits))
    (λ j. (c.from-2.ensures ∙ ap (λ n. slice_index PAIRS n) c.from.ensures) j + 1048576 * (c.from-4.ensures ∙ ap (λ n. slice_index PAIRS n) c.from-3.ensures) j)
