use Rattle.std.proofs.Common.{refl}
use Rattle.sampling.proofs.Unlike.{frame_shown}
use Rattle.sampling.proofs.pictures.Pictures.frame.Goals as goal

pub returns : goal.returns
returns c listed note was = frame_shown c.args.self.now _ listed note was c.saturating_add-self.ensures refl refl refl
