use Rattle.std.proofs.Common.{refl, subst, sym, reverse}
use Rattle.frame_build.specs.FrameEvent.{other}
use Rattle.frame_build.specs.State.{State}
use Rattle.frame_build.specs.FramesRepresent.{FramesRepresent}
use Rattle.frame_build.proofs.Groups.{stands-same}
use Rattle.frame_build.proofs.Frames.other.Goals as goal

pub returns : goal.returns
returns c = λ reported stands.
    let was = subst (λ (s : State). FramesRepresent s reported) (sym c.self.view_is) stands in
    stands-same _ _ reported other refl refl (c.part.ensures.other (reverse reported) was.sync) was.lines
