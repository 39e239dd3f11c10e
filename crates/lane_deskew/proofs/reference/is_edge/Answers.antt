use Rattle.std.proofs.Common.{arith, ap, not}
use Rattle.std.proofs.lemmas.Bool.{iff_false, not-true}
use Rattle.lane_align.proofs.Controls.{false_from}
use Rattle.lane_align.proofs.Edges.{control_no_edge}
use Rattle.lane_deskew.proofs.Whole.{edge_here}
use Rattle.lane_deskew.proofs.reference.is_edge.Goals as goal

pub returns-then-has_run : goal.returns-then-has_run
returns-then-has_run c =
    let xs = c.args.row.now in (
      λ h. edge_here xs c.args.lock c.args.e c.requires.lock (omega arith) (omega arith) c.requires.within (c.has_run.ensures.0 c.if-has_run.true)
          (λ has. iff_false c.has_control.ensures (not-true c.has_control.result h) has),
      λ edge. ap not (false_from c.has_control.result (λ t. control_no_edge xs c.args.e (c.has_control.ensures.0 t) edge)),
    )
