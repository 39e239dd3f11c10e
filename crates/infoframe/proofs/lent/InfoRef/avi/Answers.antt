use Rattle.std.proofs.Common.{ap, sym, ◌∙◌}
use Rattle.infoframe.specs.Frames.{Frame, kind_of}
use Rattle.infoframe.proofs.Refusals.{avi_length}
use Rattle.infoframe.proofs.lent.InfoRef.avi.Goals as goal

pub avi_of-requires : goal.avi_of-requires
avi_of-requires c =
    avi_length _ _ (ap (λ (f : Frame). kind_of f.type_code f.version) c.self.view_is ∙ sym c.kind.ensures ∙ c.in-Avi.is) c.self.invariant
