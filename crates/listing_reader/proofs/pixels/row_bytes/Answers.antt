use Rattle.std.proofs.Common.{◌≡◌, ◌<◌, ◌-◌, ◌*◌, ◌/◌, ◌++◌, ℕ, List, length, take, drop, min, ap, sym, subst, ◌∙◌, arith, length-append, length-drop, length-take-le}
use Rattle.listing_reader.specs.HexValues.{AreBytesOf}
use Rattle.listing_reader.proofs.HexPairs.{all_part, values_joined, bytes_ok}
use Rattle.listing_reader.proofs.pixels.row_bytes.Goals as goal

pub put_bytes-requires-clause-digits : goal.put_bytes-requires-clause-digits
put_bytes-requires-clause-digits c = all_part c.args.digits.now (2 * (512 * c.loop-i.i)) (2 * c.min-upto.result - 2 * (512 * c.loop-i.i)) c.requires.digits

pub loop-i-preserved : goal.loop-i-preserved
loop-i-preserved c =
    let was = c.loop-i.invariant in
    let digits = c.args.digits.now in
    let items = c.loop-i.bytes.items in
    let part = c.put_bytes.new.into in
    let from = 512 * c.loop-i.i in
    let upto = c.min-upto.result in
    let joined : c.extend_from_slice.new.self.items ≡ items ++ part = c.in_ok-extend_from_slice.ensures.items in
    let begun : from < length digits / 2 = omega (arith, c.div_ceil-i-end.ensures, c.loop-i-test.true) in
    let few : upto - from < 513 = omega (arith, c.min-upto.ensures) in
    let size : length part ≡ upto - from = c.put_bytes.ensures.size ∙ length-take-le (upto - from) c.loop-i.room (omega (arith, was.room, few)) in
    let here : length items ≡ from = omega (arith, was.size, begun) in
    record {
      size = omega (arith, ap length joined, length-append items part, size, here, c.min-upto.ensures, begun);
      values = subst (λ (xs : List ℕ). AreBytesOf digits xs) (sym joined) (values_joined digits items part from (2 * upto - 2 * from) here (omega (arith, size, c.min-upto.ensures, begun)) was.values c.put_bytes.ensures.values);
      room = omega (arith, length-append part (drop (upto - from) c.loop-i.room), length-drop (upto - from) c.loop-i.room, size, was.room, few);
    }

pub returns-clause-size : goal.returns-clause-size
returns-clause-size c = omega (arith, c.loop-i.invariant.size, c.requires.even, c.loop-i-test.false, c.div_ceil-i-end.ensures)

pub returns-clause-decoded : goal.returns-clause-decoded
returns-clause-decoded c =
    let size : 2 * length c.loop-i.bytes.items ≡ length c.args.digits.now = omega (arith, c.loop-i.invariant.size, c.requires.even, c.loop-i-test.false, c.div_ceil-i-end.ensures) in
    bytes_ok c.args.digits.now c.loop-i.bytes.items (sym size) c.requires.digits c.loop-i.invariant.values
