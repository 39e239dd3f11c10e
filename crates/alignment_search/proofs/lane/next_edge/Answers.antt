use Rattle.std.proofs.Common.{◌≡◌, ◌+◌, ◌-◌, ◌<◌, min, drop, arith}
use Rattle.tmds_word.specs.Bits.{bytes_bits}
use Rattle.alignment_search.proofs.Looking.{lent_holds, passed_more, next_found, none_found, until_whole, all_there}
use Rattle.alignment_search.proofs.lane.next_edge.Goals as goal

pub returns-then-edge-from-clause-found : goal.returns-then-edge-from-clause-found
returns-then-edge-from-clause-found c = λ xs lock part can was none.
    let finder = c.loop-edge.finder in
    let count = c.args.part.count in
    let base = c.args.base in
    let here = c.loop-edge.invariant.known xs lock part was none in
    let some : 0 < count = let h = c.if-part-eq0.false in omega arith in
    let is : c.min-until.result ≡ min c.args.limit ((base + count) - 9) = omega (arith, c.min-until.ensures, c.saturating_sub.ensures, c.from.ensures) in
    let holds = lent_holds (drop c.args.part.skip (bytes_bits c.args.part.bytes.now)) xs count base part.bits part.many some in
    let found = c.in-Some.ensures.found xs lock count holds (until_whole xs lock base count c.min-until.result c.args.limit finder here.0 part.many some is) here.0 in
    (found.0, next_found xs c.args.from finder.next c.seek.new.self.next c.min-until.result c.args.limit c.in-Some.edge here.1 found.1 c.if-edge-from.true (omega arith))

pub loop-edge-preserved : goal.loop-edge-preserved
loop-edge-preserved c =
    let finder = c.loop-edge.finder in
    let count = c.args.part.count in
    let base = c.args.base in
    let rises = c.loop-edge.invariant.rises in
    let more = c.seek.ensures.rises in
    let some : 0 < count = let h = c.if-part-eq0.false in omega arith in
    let is : c.min-until.result ≡ min c.args.limit ((base + count) - 9) = omega (arith, c.min-until.ensures, c.saturating_sub.ensures, c.from.ensures) in
    record {
      rises = omega arith;
      known = λ xs lock part was none.
          let here = c.loop-edge.invariant.known xs lock part was none in
          let holds = lent_holds (drop c.args.part.skip (bytes_bits c.args.part.bytes.now)) xs count base part.bits part.many some in
          let found = c.in-Some.ensures.found xs lock count holds (until_whole xs lock base count c.min-until.result c.args.limit finder here.0 part.many some is) here.0 in
          (found.0, passed_more xs c.args.from finder.next c.seek.new.self.next c.min-until.result c.in-Some.edge here.1 found.1 c.if-edge-from.false);
    }

pub returns-clause-found : goal.returns-clause-found
returns-clause-found c = λ xs lock part can was none.
    let finder = c.loop-edge.finder in
    let count = c.args.part.count in
    let base = c.args.base in
    let here = c.loop-edge.invariant.known xs lock part was none in
    let some : 0 < count = let h = c.if-part-eq0.false in omega arith in
    let is : c.min-until.result ≡ min c.args.limit ((base + count) - 9) = omega (arith, c.min-until.ensures, c.saturating_sub.ensures, c.from.ensures) in
    let holds = lent_holds (drop c.args.part.skip (bytes_bits c.args.part.bytes.now)) xs count base part.bits part.many some in
    let found = c.in_default.ensures.found xs lock count holds (until_whole xs lock base count c.min-until.result c.args.limit finder here.0 part.many some is) here.0 in
    (found.0, none_found xs c.args.from finder.next c.seek.new.self.next c.min-until.result c.args.limit base count here.1 found.1 (all_there xs base count part.many some) is)
