use Rattle.std.proofs.Common.{◌+◌, ◌*◌, ◌<◌, ℕ, arith}
use Rattle.tmds_word.specs.Bits.{bytes_bits}
use Rattle.tmds_word.proofs.Lists.{length-bytes_bits}
use Rattle.lane_align.proofs.Quick.{four_control, four_ones, ones_four}
use Rattle.lane_align.proofs.search.fours_at.Goals as goal

pub returns : goal.returns
returns c i near room =
    let bits = bytes_bits c.args.bytes.now in
    let len = length-bytes_bits c.args.bytes.now in
    let n = c.control_places-controls.result in
    let each = λ (k : ℕ) (lt : k < 4). four_control bits c.eight_from.result c.args.p i k n near lt (omega (arith, room, len)) c.eight_from.ensures (c.control_places-controls.ensures (i + 10 * k) (omega arith)) in (
      λ set k lt. (each k lt).0 (four_ones n i set k lt),
      λ has. ones_four n i (λ k lt. (each k lt).1 (has k lt)),
    )
