use Rattle.std.proofs.Common.{ap, sym, ◌∙◌}
use Rattle.infoframe.specs.Frames.{Frame, kind_of}
use Rattle.infoframe.proofs.Refusals.{spd_length}
use Rattle.infoframe.proofs.lent.InfoRef.spd.Goals as goal

pub spd_of-requires : goal.spd_of-requires
spd_of-requires c =
    spd_length _ _ (ap (λ (f : Frame). kind_of f.type_code f.version) c.self.view_is ∙ sym c.kind.ensures ∙ c.in-Spd.is) c.self.invariant
