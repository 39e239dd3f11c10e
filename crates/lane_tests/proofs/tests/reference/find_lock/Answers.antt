use Rattle.std.proofs.Common.{◌≡◌, ◌∙◌, true, false, sym, subst, arith, inl, inr}
use Rattle.std.proofs.lemmas.Bool.{cases_lt}
use Rattle.lane_align.specs.Lanes.{IsRun}
use Rattle.lane_align.proofs.Controls.{run_within}
use Rattle.lane_tests.proofs.tests.reference.find_lock.Goals as goal

pub loop-p-preserved : goal.loop-p-preserved
loop-p-preserved c q lt run = elim (cases_lt q c.loop-p.p) [
  | inl less ↦ c.loop-p.invariant q less run
  | inr here ↦
      let same : q ≡ c.loop-p.p = omega arith in
      let begins : c.begins_run.result ≡ true = c.begins_run.ensures.1 (subst (IsRun c.args.row.now) same run) in
      let both : true ≡ false = sym begins ∙ c.if-begins_run.false in
      cc
]

pub returns : goal.returns
returns c p run =
    let within = run_within c.args.row.now p run in
    c.loop-p.invariant p (omega arith) run
