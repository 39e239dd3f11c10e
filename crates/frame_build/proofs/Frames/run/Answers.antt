use Rattle.std.proofs.Common.{◌∙◌, refl, subst, sym, reverse}
use Rattle.frame_build.specs.FrameEvent.{run}
use Rattle.frame_build.specs.State.{State}
use Rattle.frame_build.specs.FramesRepresent.{FramesRepresent}
use Rattle.frame_build.proofs.Groups.{stands-same}
use Rattle.frame_build.proofs.Frames.run.Goals as goal

-- where no change is heard
pub returns-else-hear-clause-stands : goal.returns-else-hear-clause-stands
returns-else-hear-clause-stands c = λ reported stands.
    let was = subst (λ (s : State). FramesRepresent s reported) (sym c.self.view_is) stands in
    let past = reverse reported in
    stands-same _ _ reported (run c.args.value c.args.count)
    (sym (c.hear.ensures.change past was.sync) ∙ c.if-hear.false) refl
    (c.hear.ensures.after past was.sync) was.lines
