use Rattle.infoframe.proofs.Law.{read_fits}
use Rattle.infoframe.proofs.laws.read_fits.Goals as goal

pub returns : goal.returns
returns c = read_fits
