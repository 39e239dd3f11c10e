use Rattle.std.proofs.Common.{◌+◌, ◌<◌, min, Bool, Option, Some, ◌∙◌, ap, sym, arith}
use Rattle.frame_build.specs.FrameEvent.{marks}
use Rattle.frame_build.specs.Change.{last_heard, newer}
use Rattle.frame_build.specs.State.{Sync}
use Rattle.frame_build.specs.FramesRepresent.{streak_of}
use Rattle.frame_build.proofs.Streaks.{heard_at-three, heard_at-fewer, differ-other, sync-run}
use Rattle.frame_build.proofs.sync.Sync.hear.Goals as goal

-- the streak at the third column in a row: its VSYNC is heard
pub returns-then-streak-eq-ENOUGH-clause-after : goal.returns-then-streak-eq-ENOUGH-clause-after
returns-then-streak-eq-ENOUGH-clause-after c = λ past is.
    let some : 0 < c.args.count = omega arith in
    let is_vsync = c.vsync_of-vsync.ensures in
    let streak = c.streak_with-streak.ensures past is ∙ ap (λ (v : Bool). min (c.args.count + streak_of v (marks past)) 3) is_vsync in
    let heard = heard_at-three c.args.value c.args.count past c.streak_with-streak.result some streak c.if-streak-eq-ENOUGH.true in
    sync-run _ c.args.value c.args.count past some is_vsync streak
    (c.replace.ensures.after ∙ ap (λ (v : Bool). Some v) is_vsync ∙ sym (ap (λ (o : Option Bool). newer o (last_heard past)) heard))

pub returns-then-streak-eq-ENOUGH-clause-change : goal.returns-then-streak-eq-ENOUGH-clause-change
returns-then-streak-eq-ENOUGH-clause-change c = grind (arith, heard_at-three, differ-other)

-- fewer columns in a row: nothing is heard
pub returns-else-streak-eq-ENOUGH-clause-after : goal.returns-else-streak-eq-ENOUGH-clause-after
returns-else-streak-eq-ENOUGH-clause-after c = λ past is.
    let some : 0 < c.args.count = omega arith in
    let is_vsync = c.vsync_of-vsync.ensures in
    let streak = c.streak_with-streak.ensures past is ∙ ap (λ (v : Bool). min (c.args.count + streak_of v (marks past)) 3) is_vsync in
    let fewer : c.streak_with-streak.result < 3 = omega (arith, streak) in
    let heard = heard_at-fewer c.args.value c.args.count past c.streak_with-streak.result some streak fewer in
    sync-run _ c.args.value c.args.count past some is_vsync streak
    (ap (λ (s : Sync). s.heard) c.self.view_is ∙ is.heard ∙ sym (ap (λ (o : Option Bool). newer o (last_heard past)) heard))
