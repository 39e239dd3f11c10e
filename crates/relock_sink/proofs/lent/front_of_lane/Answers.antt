use Rattle.std.proofs.Common.{◌≡◌, min, drop, arith}
use Rattle.tmds_word.specs.Bits.{bytes_bits}
use Rattle.relock_sink.proofs.Fronts.{first_lent, first_many}
use Rattle.relock_sink.proofs.lent.front_of_lane.Goals as goal

pub returns : goal.returns
returns c = λ xs base lent.
    let lane = c.args.lane in
    let is : c.min.result ≡ min lane.count c.args.bits = omega (arith, c.min.ensures, c.from.ensures) in
    let behind = lent.room.behind in
    record {
      bits = first_lent (drop lane.skip (bytes_bits lane.bytes.now)) xs base lane.count c.args.bits c.min.result lent.bits lent.many is;
      many = first_many xs base lane.count c.args.bits c.min.result lent.many is;
      room = record { few = lent.room.few; behind = omega arith; within = lent.room.within };
    }
