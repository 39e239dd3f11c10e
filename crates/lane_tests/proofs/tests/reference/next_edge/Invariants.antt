use Rattle.std.proofs.Common.{◌+◌, ◌*◌}
use Rattle.lane_align.proofs.Edges.{Counts, HasNoEdge}
use Rattle.lane_tests.proofs.tests.reference.next_edge.Given as goal

abbrev pub invariant-loop-i : goal.invariant-loop-i
invariant-loop-i l = record { counts : Counts l.row l.first l.i l.run; none : HasNoEdge l.row l.from (l.first + 10 * l.i) }
