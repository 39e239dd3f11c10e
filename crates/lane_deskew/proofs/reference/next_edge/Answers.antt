use Rattle.std.proofs.Common.{arith}
use Rattle.lane_align.proofs.Edges.{edge_within}
use Rattle.lane_deskew.proofs.reference.next_edge.Goals as goal

pub returns : goal.returns
returns c e after edge =
    let within = edge_within c.args.row.now e edge in
    c.loop-e.invariant e after (omega arith) edge
