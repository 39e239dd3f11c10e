use Rattle.std.proofs.Common.{refl}
use Rattle.sampling.proofs.Unlike.{row_shown}
use Rattle.sampling.proofs.pictures.Pictures.row.Goals as goal

pub returns : goal.returns
returns c listed note was = row_shown c.args.self.now _ listed c.args.bytes.now note _ was c.unlike_bytes-unlike.ensures refl c.saturating_add-self.ensures refl refl
