use Rattle.std.proofs.Common.{refl, subst, sym, reverse}
use Rattle.frame_build.specs.FrameEvent.{line}
use Rattle.frame_build.specs.Group.{group, counts}
use Rattle.frame_build.specs.State.{State}
use Rattle.frame_build.specs.FramesRepresent.{FramesRepresent}
use Rattle.frame_build.proofs.Groups.{counts-more, group-more, stands-more}
use Rattle.frame_build.proofs.Frames.line.Goals as goal

pub returns-clause-stands : goal.returns-clause-stands
returns-clause-stands c = λ reported stands.
    let was = subst (λ (s : State). FramesRepresent s reported) (sym c.self.view_is) stands in
    let event = line c.args.width in
    stands-more _ _ reported event _ _
    (c.part.ensures.line (reverse reported) c.args.width was.sync)
    (c.add.ensures.more (counts reported) (group reported) was.lines)
    (counts-more reported event) (group-more reported event refl)
