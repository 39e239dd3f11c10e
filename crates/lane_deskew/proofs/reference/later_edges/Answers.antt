use Rattle.std.proofs.Common.{◌≤◌, arith, slice_index}
use Rattle.lane_align.specs.Lanes.{IsEdge}
use Rattle.lane_deskew.proofs.Columns.{no_answer}
use Rattle.lane_deskew.proofs.Reached.{on_first, on_second, on_third, no_first, no_second, no_third}
use Rattle.lane_deskew.proofs.Whole.{next_least}
use Rattle.lane_deskew.proofs.reference.later_edges.Goals as goal
use Rattle.lane_deskew.proofs.reference.later_edges.Goals.{else-d-e-via-then-d-e+else-d-f, else-d-e-via-else-d-e}

pub returns-in_err-edge_after-clause-edges : goal.returns-in_err-edge_after-clause-edges
returns-in_err-edge_after-clause-edges c =
    no_answer _ _ _ c.from_residual.ensures
    (no_first (IsEdge c.args.blue.now) (IsEdge c.args.green.now) (IsEdge c.args.red.now) (slice_index c.args.edges 0) (slice_index c.args.edges 1) (slice_index c.args.edges 2)
    c.requires.reached c.requires.far c.if-d-e.true c.if-d-f.true c.in_err-edge_after.ensures)

pub returns-in_ok-edge_after-clause-edges : goal.returns-in_ok-edge_after-clause-edges
returns-in_ok-edge_after-clause-edges c =
    on_first (IsEdge c.args.blue.now) (IsEdge c.args.green.now) (IsEdge c.args.red.now) (slice_index c.args.edges 0) (slice_index c.args.edges 1) (slice_index c.args.edges 2)
    c.in_ok-edge_after.field-0 c.requires.reached c.requires.far c.if-d-e.true c.if-d-f.true c.in_ok-edge_after.ensures.edge
    (λ p past edge. next_least c.args.blue.now _ c.in_ok-edge_after.field-0 p c.in_ok-edge_after.ensures past edge)

pub returns-in_err-edge_after-2-clause-edges : goal.returns-in_err-edge_after-2-clause-edges
returns-in_err-edge_after-2-clause-edges c =
    let le1 : slice_index c.args.edges 1 ≤ slice_index c.args.edges 0 = elim c.else-d-e.branch [ else-d-e-via-then-d-e+else-d-f w ↦ omega arith | else-d-e-via-else-d-e w ↦ omega arith ] in
    no_answer _ _ _ c.from_residual-in_err-edge_after-2.ensures
    (no_second (IsEdge c.args.blue.now) (IsEdge c.args.green.now) (IsEdge c.args.red.now) (slice_index c.args.edges 0) (slice_index c.args.edges 1) (slice_index c.args.edges 2)
    c.requires.reached c.requires.far le1 c.if-e-f.true c.in_err-edge_after-2.ensures)

pub returns-in_ok-edge_after-2-clause-edges : goal.returns-in_ok-edge_after-2-clause-edges
returns-in_ok-edge_after-2-clause-edges c =
    let le1 : slice_index c.args.edges 1 ≤ slice_index c.args.edges 0 = elim c.else-d-e.branch [ else-d-e-via-then-d-e+else-d-f w ↦ omega arith | else-d-e-via-else-d-e w ↦ omega arith ] in
    on_second (IsEdge c.args.blue.now) (IsEdge c.args.green.now) (IsEdge c.args.red.now) (slice_index c.args.edges 0) (slice_index c.args.edges 1) (slice_index c.args.edges 2)
    c.in_ok-edge_after-2.field-0 c.requires.reached c.requires.far le1 c.if-e-f.true c.in_ok-edge_after-2.ensures.edge
    (λ p past edge. next_least c.args.green.now _ c.in_ok-edge_after-2.field-0 p c.in_ok-edge_after-2.ensures past edge)

pub returns-in_err-edge_after-3-clause-edges : goal.returns-in_err-edge_after-3-clause-edges
returns-in_err-edge_after-3-clause-edges c =
    let le1 : slice_index c.args.edges 2 ≤ slice_index c.args.edges 0 = elim c.else-d-e.branch [ else-d-e-via-then-d-e+else-d-f w ↦ omega arith | else-d-e-via-else-d-e w ↦ omega arith ] in
    no_answer _ _ _ c.from_residual-in_err-edge_after-3.ensures
    (no_third (IsEdge c.args.blue.now) (IsEdge c.args.green.now) (IsEdge c.args.red.now) (slice_index c.args.edges 0) (slice_index c.args.edges 1) (slice_index c.args.edges 2)
    c.requires.reached c.requires.far le1 (omega arith) c.in_err-edge_after-3.ensures)

pub returns-in_ok-edge_after-3-clause-edges : goal.returns-in_ok-edge_after-3-clause-edges
returns-in_ok-edge_after-3-clause-edges c =
    let le1 : slice_index c.args.edges 2 ≤ slice_index c.args.edges 0 = elim c.else-d-e.branch [ else-d-e-via-then-d-e+else-d-f w ↦ omega arith | else-d-e-via-else-d-e w ↦ omega arith ] in
    on_third (IsEdge c.args.blue.now) (IsEdge c.args.green.now) (IsEdge c.args.red.now) (slice_index c.args.edges 0) (slice_index c.args.edges 1) (slice_index c.args.edges 2)
    c.in_ok-edge_after-3.field-0 c.requires.reached c.requires.far le1 (omega arith) c.in_ok-edge_after-3.ensures.edge
    (λ p past edge. next_least c.args.red.now _ c.in_ok-edge_after-3.field-0 p c.in_ok-edge_after-3.ensures past edge)
