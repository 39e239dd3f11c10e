use Rattle.std.proofs.Common.{arith, ◌<◌, ◌/◌, length, refl, ◌∙◌}
use Rattle.std.proofs.lemmas.List.{length-set}
use Rattle.island_pack.specs.Periods.{Pixel}
use Rattle.source_end.proofs.LineCodings.{goes_more, goes_through}
use Rattle.source_end.proofs.line_coding.code_each.Goals as goal

pub loop-i-preserved : goal.loop-i-preserved
loop-i-preserved c =
    let was = c.loop-i.invariant in
    let bytes = c.args.bytes.now in
    let i = c.loop-i.i in
    let lt : i < length bytes / 3 = omega (arith, c.requires.pixels, c.loop-i-test.true) in
    let blue : i < length c.loop-i.blue_words = omega (arith, c.loop-i-test.true, was.blue_size) in
    let green : i < length c.loop-i.green_words = omega (arith, c.loop-i-test.true, was.green_size, c.requires.green) in
    let red : i < length c.loop-i.red_words = omega (arith, c.loop-i-test.true, was.red_size, c.requires.red) in
    record {
      blue_size = length-set c.loop-i.blue_words i c.next.result ∙ was.blue_size;
      green_size = length-set c.loop-i.green_words i c.next-in-loop-i.result ∙ was.green_size;
      red_size = length-set c.loop-i.red_words i c.next-in-loop-i-2.result ∙ was.red_size;
      blue_lane = goes_more c.args.coders.blue c.loop-i.blue c.next.new.self bytes c.loop-i.blue_words i _ c.next.result (λ (p : Pixel). p.blue) lt blue was.blue_lane c.next.ensures.stands refl;
      green_lane = goes_more c.args.coders.green c.loop-i.green c.next-in-loop-i.new.self bytes c.loop-i.green_words i _ c.next-in-loop-i.result (λ (p : Pixel). p.green) lt green was.green_lane c.next-in-loop-i.ensures.stands refl;
      red_lane = goes_more c.args.coders.red c.loop-i.red c.next-in-loop-i-2.new.self bytes c.loop-i.red_words i _ c.next-in-loop-i-2.result (λ (p : Pixel). p.red) lt red was.red_lane c.next-in-loop-i-2.ensures.stands refl;
    }

pub returns-clause-blue : goal.returns-clause-blue
returns-clause-blue c =
    let was = c.loop-i.invariant in
    goes_through c.args.coders.blue c.loop-i.blue c.args.bytes.now c.loop-i.blue_words c.loop-i.i (λ (p : Pixel). p.blue) (omega (arith, c.requires.pixels, c.loop-i-test.false)) (omega (arith, c.loop-i-test.false, was.blue_size)) was.blue_lane

pub returns-clause-green : goal.returns-clause-green
returns-clause-green c =
    let was = c.loop-i.invariant in
    goes_through c.args.coders.green c.loop-i.green c.args.bytes.now c.loop-i.green_words c.loop-i.i (λ (p : Pixel). p.green) (omega (arith, c.requires.pixels, c.loop-i-test.false)) (omega (arith, c.loop-i-test.false, was.green_size, c.requires.green)) was.green_lane

pub returns-clause-red : goal.returns-clause-red
returns-clause-red c =
    let was = c.loop-i.invariant in
    goes_through c.args.coders.red c.loop-i.red c.args.bytes.now c.loop-i.red_words c.loop-i.i (λ (p : Pixel). p.red) (omega (arith, c.requires.pixels, c.loop-i-test.false)) (omega (arith, c.loop-i-test.false, was.red_size, c.requires.red)) was.red_lane
