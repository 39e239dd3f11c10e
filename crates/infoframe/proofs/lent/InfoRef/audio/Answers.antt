use Rattle.std.proofs.Common.{ap, sym, ◌∙◌}
use Rattle.infoframe.specs.Frames.{Frame, kind_of}
use Rattle.infoframe.proofs.Refusals.{audio_length}
use Rattle.infoframe.proofs.lent.InfoRef.audio.Goals as goal

pub audio_of-requires : goal.audio_of-requires
audio_of-requires c =
    audio_length _ _ (ap (λ (f : Frame). kind_of f.type_code f.version) c.self.view_is ∙ sym c.kind.ensures ∙ c.in-Audio.is) c.self.invariant
