use Rattle.std.proofs.Common.{arith}
use Rattle.capture_file.proofs.Setting.{byte_set}
use Rattle.capture_file.proofs.block_damage.set_bit.Goals as goal

pub returns-clause-bits : goal.returns-clause-bits
returns-clause-bits c = byte_set c.args.bytes.now c.args.i c.with_bit.result c.args.value (omega (arith, c.told-bytes, c.requires)) c.with_bit.ensures
