use Rattle.std.proofs.Common.{arith}
use Rattle.lane_deskew.proofs.Columns.{no_answer}
use Rattle.lane_deskew.proofs.Whole.{first_reached}
use Rattle.lane_deskew.proofs.reference.first_edges.Goals as goal

pub returns-in_err-d : goal.returns-in_err-d
returns-in_err-d c = no_answer _ _ _ c.from_residual.ensures (λ p q r t. c.in_err-d.ensures p (omega arith) t.blue)

pub returns-in_err-e : goal.returns-in_err-e
returns-in_err-e c = no_answer _ _ _ c.from_residual-in_err-e.ensures (λ p q r t. c.in_err-e.ensures q (omega arith) t.green)

pub returns-in_err-f : goal.returns-in_err-f
returns-in_err-f c = no_answer _ _ _ c.from_residual-in_err-f.ensures (λ p q r t. c.in_err-f.ensures r (omega arith) t.red)

pub returns : goal.returns
returns c = first_reached c.args.blue.now c.args.green.now c.args.red.now c.in_ok-d.d c.in_ok-e.e c.in_ok-f.f c.in_ok-d.ensures c.in_ok-e.ensures c.in_ok-f.ensures
