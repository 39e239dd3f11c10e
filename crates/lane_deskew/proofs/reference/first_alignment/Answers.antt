use Rattle.std.proofs.Common.{arith, ◌<◌, ◌+◌, ◌-◌, length, sym, slice_index}
use Rattle.lane_align.specs.Lanes.{IsEdge}
use Rattle.lane_align.proofs.Edges.{edge_within}
use Rattle.lane_deskew.specs.Candidates.{sum_of, AreAllNear}
use Rattle.lane_deskew.proofs.Reached.{near_first}
use Rattle.lane_deskew.proofs.Whole.{firsts_same}
use Rattle.lane_deskew.proofs.reference.first_alignment.Goals as goal

pub loop-edges-smaller : goal.loop-edges-smaller
loop-edges-smaller c =
    let was = c.loop-edges.invariant in
    let a = edge_within c.args.blue.now _ was.blue in
    let b = edge_within c.args.green.now _ was.green in
    let f = edge_within c.args.red.now _ was.red in
    let more = c.in_ok-edges-2.ensures.later in
    let all = length c.args.blue.now + length c.args.green.now + length c.args.red.now in
    let less : all - sum_of c.in_ok-edges-2.edges < all - sum_of c.loop-edges.edges = omega arith in
    less

pub returns : goal.returns
returns c =
    let d = slice_index c.loop-edges.edges 0 in
    let e = slice_index c.loop-edges.edges 1 in
    let f = slice_index c.loop-edges.edges 2 in
    let near : AreAllNear d e f = c.are_near.ensures.0 c.loop-edges-test.false in
    firsts_same c.args.blue.now c.args.green.now c.args.red.now d e f _ _ _ (sym c.from.ensures) (sym c.from-2.ensures) (sym c.from-3.ensures)
    (near_first (IsEdge c.args.blue.now) (IsEdge c.args.green.now) (IsEdge c.args.red.now) d e f c.loop-edges.invariant near)
