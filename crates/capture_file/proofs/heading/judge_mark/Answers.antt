use Rattle.std.proofs.Common.{arith, ◌≡◌, ◌<◌, ℕ, List, ◌≤◌, subst, take, min, inl, inr}
use Rattle.std.specs.Prelude.{codes}
use Rattle.capture_file.proofs.Judged.{mark_early, version_early, first_begins}
use Rattle.capture_file.proofs.heading.judge_mark.Goals as goal
use Rattle.capture_file.proofs.heading.judge_mark.Goals.{else-count-gt3-via-then-count-gt3+then-head-ne49+else-head-ne50, else-count-gt3-via-then-count-gt3+else-head-ne49, else-count-gt3-via-else-count-gt3}

pub returns-then-like-min-clause-err : goal.returns-then-like-min-clause-err
returns-then-like-min-clause-err c rest =
    let m = c.matched-like.ensures in
    let less : c.matched-like.result < min c.args.count 3 = omega (arith, c.if-like-min.true, c.min.ensures) in
    mark_early c.args.head.now rest c.args.count c.matched-like.result c.told-head c.requires (omega arith) (omega arith) m.like (m.unlike less)

pub returns-then-head-ne50-clause-err : goal.returns-then-head-ne50-clause-err
returns-then-head-ne50-clause-err c rest =
    let m = c.matched-like.ensures in
    let three : c.matched-like.result ≡ 3 = omega (arith, c.if-like-min.false, c.min.ensures, m.few, c.if-count-gt3.true) in
    version_early c.args.head.now rest c.args.count c.told-head c.requires c.if-count-gt3.true (subst (λ k. take k c.args.head.now ≡ take k (codes "TMC")) three m.like)
    (λ e. omega (arith, e, c.if-head-ne49.true)) (λ e. omega (arith, e, c.if-head-ne50.true))

-- the mark and the version, as far as they are there
mark_is : (head : List ℕ) (count like least : ℕ) → least ≡ min count 3 → like ≤ least → least ≤ like → take like head ≡ take like (codes "TMC") → take (min count 3) head ≡ take (min count 3) (codes "TMC")
mark_is head count like least own few many same = let e : like ≡ min count 3 = omega arith in subst (λ k. take k head ≡ take k (codes "TMC")) e same

pub returns-clause-mark : goal.returns-clause-mark
returns-clause-mark c =
    mark_is c.args.head.now c.args.count c.matched-like.result c.min.result c.min.ensures (omega (arith, c.min.ensures, c.matched-like.ensures.few)) c.if-like-min.false c.matched-like.ensures.like

pub returns-clause-version : goal.returns-clause-version
returns-clause-version c many =
    elim c.else-count-gt3.branch [
      | else-count-gt3-via-then-count-gt3+then-head-ne49+else-head-ne50 w ↦ inr (omega (arith, w.if-head-ne50.false))
      | else-count-gt3-via-then-count-gt3+else-head-ne49 w ↦ inl (omega (arith, w.if-head-ne49.false))
      | else-count-gt3-via-else-count-gt3 w ↦ absurd (omega (arith, many, w.if-count-gt3.false))
    ]

pub returns-clause-begins : goal.returns-clause-begins
returns-clause-begins c = first_begins c.args.head.now c.args.count c.told-head c.fits-head (returns-clause-mark c) (returns-clause-version c)
