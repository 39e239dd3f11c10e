use Rattle.std.proofs.Common.{arith, subst, inl, inr}
use Rattle.std.proofs.lemmas.Bool.{cases_lt, iff_false}
use Rattle.lane_align.specs.Lanes.{IsRun}
use Rattle.lane_align.proofs.Controls.{run_within}
use Rattle.lane_deskew.proofs.reference.find_lock.Goals as goal

pub loop-p-preserved : goal.loop-p-preserved
loop-p-preserved c q lt run = elim (cases_lt q c.loop-p.p) [
  | inl before ↦ c.loop-p.invariant q before run
  | inr past ↦ iff_false c.has_run.ensures c.if-has_run.false (subst (IsRun c.args.row.now) (omega arith) run)
]

pub returns : goal.returns
returns c p run =
    let within = run_within c.args.row.now p run in
    c.loop-p.invariant p (omega arith) run
