use Rattle.bch_block.proofs.Bytes.{makes_block, makes_block_alone}
use Rattle.bch_block.proofs.parity64.Goals as goal

pub returns-clause-block : goal.returns-clause-block
returns-clause-block c = makes_block c.args.bytes.now c.parity.result c.parity.ensures

pub returns-clause-only : goal.returns-clause-only
returns-clause-only c = λ p lt b. makes_block_alone c.args.bytes.now c.parity.result p c.parity.ensures c.parity.type_inv lt b
