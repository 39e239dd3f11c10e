use Rattle.std.proofs.Common.{◌≡◌, ◌∙◌, ◌+◌, ◌-◌, arith, length}
use Rattle.capture_file.specs.Slips.{without}
use Rattle.capture_file.proofs.SlippedLanes.{on_both, refilled, part_size, moved_up}
use Rattle.capture_file.proofs.slipping.cut_out.Goals as goal

pub overflow_add-from : goal.overflow_add-from
overflow_add-from c = omega (arith, c.requires, c.len-len.ensures, c.len-len.type_inv)

pub returns : goal.returns
returns c =
    let row = c.args.row.now in
    let from = c.args.place + c.args.count in
    let few = c.min-few.result in
    let more = c.len-len.result - from - few in
    let all : from + few + more ≡ length row = omega (arith, c.requires, c.len-len.ensures, c.min-few.ensures) in
    let into = c.copy_packed.new.into in
    let size = part_size row (from + few) more into (omega (arith, all)) c.copy_packed.ensures in
    let bytes = refilled c.as_slice.result.now into _ c.in_ok-bytes.bytes.len c.as_slice.ensures.value (omega (arith, size, c.in_ok-bytes.ensures.len, c.div_ceil.ensures)) ∙ c.copy_packed.ensures in
    on_both _ (c.push_bits-2.new.self ≡ without c.args.place c.args.count row) c.push_bits-2.result
    (moved_up row c.truncate.new.self c.push_bits.new.self c.push_bits-2.new.self c.args.place c.args.count few more c.copy_packed-2.new.into c.as_slice.result.now all c.truncate.ensures c.copy_packed-2.ensures c.in_ok-push_bits.ensures.ok bytes) c.push_bits-2.ensures.ok
