use Rattle.std.proofs.Common.{refl}
use Rattle.sampling.proofs.Unlike.{none_shown}
use Rattle.sampling.proofs.pictures.Pictures.new.Goals as goal

pub returns : goal.returns
returns c = none_shown _ refl refl refl refl
