use Rattle.std.proofs.Common.{arith}
use Rattle.bch_block.specs.Bits.{bits_of_bytes}
use Rattle.bch_block.proofs.Bytes.{length-bits_of_bytes, remainder-bits_of}
use Rattle.bch_block.proofs.Verdicts.{repairs_alone}
use Rattle.bch_block.proofs.repair.Goals as goal

pub flip-requires : goal.flip-requires
flip-requires c =
    let block = c.args.block.now in
    let inside = (c.in-Mended.ensures (bits_of_bytes block) (length-bits_of_bytes block) (remainder-bits_of block c.parity.result c.requires.least c.parity.ensures)).1 in
    omega (arith, length-bits_of_bytes block)

pub returns-in-Mended-clause-verdict : goal.returns-in-Mended-clause-verdict
returns-in-Mended-clause-verdict c =
    let block = c.args.block.now in
    c.in-Mended.ensures (bits_of_bytes block) (length-bits_of_bytes block) (remainder-bits_of block c.parity.result c.requires.least c.parity.ensures)

pub returns-in_default : goal.returns-in_default
returns-in_default c = grind (arith, length-bits_of_bytes, remainder-bits_of, repairs_alone)
