use Rattle.std.proofs.Common.{◌≡◌, take, drop, arith}
use Rattle.column_rows.proofs.Filled.{rest_of}
use Rattle.column_rows.proofs.rows.read_packet.Goals as goal

pub returns : goal.returns
returns c =
    let bytes = c.args.bytes.now in
    let header : c.copy_from_slice.new.self ≡ take 3 bytes = grind arith in
    let bodies : c.copy_from_slice-2.new.self ≡ take 28 (drop 3 bytes) = grind arith in
    let sync : c.copy_from_slice-3.new.self ≡ drop 31 bytes = grind (arith, rest_of 31 bytes) in
    λ j. record { header = header j; bodies = bodies j; sync = sync j }
