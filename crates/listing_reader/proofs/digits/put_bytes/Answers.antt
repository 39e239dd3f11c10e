use Rattle.std.proofs.Common.{arith, ◌≡◌, ◌<◌, ◌+◌, ◌*◌, get_or, length, ap₂, ◌∙◌}
use Rattle.listing_reader.specs.HexValues.{value_of}
use Rattle.listing_reader.proofs.HexPairs.{set_more, bytes_ok, high_digit, low_digit, pair_value_of}
use Rattle.listing_reader.proofs.digits.put_bytes.Goals as goal

pub byte_of-requires-clause-high : goal.byte_of-requires-clause-high
byte_of-requires-clause-high c = high_digit c.args.digits.now (2 * c.loop-i.i) c.pair.result c.requires.digits (omega (arith, c.requires.twice, c.loop-i.auto.into, c.loop-i-test.true)) c.pair.ensures

pub byte_of-requires-clause-low : goal.byte_of-requires-clause-low
byte_of-requires-clause-low c = low_digit c.args.digits.now (2 * c.loop-i.i) c.pair.result c.requires.digits (omega (arith, c.requires.twice, c.loop-i.auto.into, c.loop-i-test.true)) c.pair.ensures

pub loop-i-preserved : goal.loop-i-preserved
loop-i-preserved c =
    let digits = c.args.digits.now in
    let i = c.loop-i.i in
    let room : i < length c.loop-i.into = omega (arith, c.loop-i-test.true, c.loop-i.auto.into) in
    set_more c.loop-i.into i c.byte_of.result (λ k. 16 * value_of (get_or digits (2 * k) 0) + value_of (get_or digits (2 * k + 1) 0)) c.loop-i.invariant room
    (c.byte_of.ensures ∙ pair_value_of digits (2 * i) c.pair.result c.requires.digits (omega (arith, c.requires.twice, c.loop-i.auto.into, c.loop-i-test.true)) c.pair.ensures)

pub returns-clause-decoded : goal.returns-clause-decoded
returns-clause-decoded c =
    let size : length c.loop-i.into ≡ length c.args.into.now = omega (arith, c.loop-i.auto.into) in
    bytes_ok c.args.digits.now c.loop-i.into (omega (arith, size, c.requires.twice)) c.requires.digits (λ k lt. c.loop-i.invariant k (omega (arith, lt, size, c.loop-i-test.false)))

pub returns-clause-values : goal.returns-clause-values
returns-clause-values c = λ k lt. c.loop-i.invariant k (omega (arith, lt, c.loop-i.auto.into, c.loop-i-test.false))
