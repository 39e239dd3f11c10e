use Rattle.std.proofs.Common.{arith, ℕ, List, subst}
use Rattle.std.proofs.lemmas.List.{take_more, take_all}
use Rattle.bch_block.proofs.Bytes.{Leaves, leaves_none, leaves_more}
use Rattle.bch_block.proofs.parity.Goals as goal

pub loop-byte-init : goal.loop-byte-init
loop-byte-init c = leaves_none

pub loop-byte-preserved : goal.loop-byte-preserved
loop-byte-preserved c = grind (arith, Leaves, take_more, leaves_more)

pub returns : goal.returns
returns c =
    subst (λ (met : List ℕ). Leaves met c.loop-byte.left) (take_all c.loop-byte.byte-index c.args.bytes.now c.loop-byte-test.false) c.loop-byte.invariant
