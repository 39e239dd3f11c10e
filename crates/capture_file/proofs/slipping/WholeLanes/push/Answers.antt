use Rattle.std.proofs.Common.{◌≡◌, ◌++◌}
use Rattle.capture_file.proofs.SlippedLanes.{on_ok, on_both, pushed, packed_size}
use Rattle.capture_file.proofs.slipping.WholeLanes.push.Goals as goal

pub push_bits-requires-clause-bytes : goal.push_bits-requires-clause-bytes
push_bits-requires-clause-bytes c = packed_size c.args.block.now.blue c.as_bytes.result.now c.len.result c.as_bytes.ensures.bytes c.len.ensures

pub push_bits-requires-2-clause-bytes : goal.push_bits-requires-2-clause-bytes
push_bits-requires-2-clause-bytes c = packed_size c.args.block.now.green c.as_bytes-2.result.now c.len-2.result c.as_bytes-2.ensures.bytes c.len-2.ensures

pub push_bits-requires-3-clause-bytes : goal.push_bits-requires-3-clause-bytes
push_bits-requires-3-clause-bytes c = packed_size c.args.block.now.red c.as_bytes-3.result.now c.len-3.result c.as_bytes-3.ensures.bytes c.len-3.ensures

pub returns-clause-blue : goal.returns-clause-blue
returns-clause-blue c =
    on_ok (c.push_bits.new.self ≡ c.args.self.now.blue ++ c.args.block.now.blue) c.push_bits-3.result
    (pushed c.args.self.now.blue c.push_bits.new.self c.args.block.now.blue c.as_bytes.result.now c.len.result c.as_bytes.ensures.bytes c.len.ensures c.in_ok-push_bits.ensures.ok)

pub returns-clause-green : goal.returns-clause-green
returns-clause-green c =
    on_ok (c.push_bits-2.new.self ≡ c.args.self.now.green ++ c.args.block.now.green) c.push_bits-3.result
    (pushed c.args.self.now.green c.push_bits-2.new.self c.args.block.now.green c.as_bytes-2.result.now c.len-2.result c.as_bytes-2.ensures.bytes c.len-2.ensures c.in_ok-push_bits-2.ensures.ok)

pub returns-clause-red : goal.returns-clause-red
returns-clause-red c =
    on_both _ (c.push_bits-3.new.self ≡ c.args.self.now.red ++ c.args.block.now.red) c.push_bits-3.result
    (pushed c.args.self.now.red c.push_bits-3.new.self c.args.block.now.red c.as_bytes-3.result.now c.len-3.result c.as_bytes-3.ensures.bytes c.len-3.ensures) c.push_bits-3.ensures.ok
