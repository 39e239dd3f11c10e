use Rattle.std.proofs.Common.{arith}
use Rattle.lane_align.proofs.Edges.{edge_within}
use Rattle.lane_deskew.proofs.reference.edge_after.Goals as goal

pub prove-unreachable-requires : goal.prove-unreachable-requires
prove-unreachable-requires c =
    let within = edge_within c.args.row.now c.args.edge c.requires in
    omega arith
