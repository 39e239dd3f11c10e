use Rattle.dvi_laws.proofs.Tapped.{tap_accounted}
use Rattle.dvi_laws.proofs.dvi_tap_accounted.Goals as goal

pub returns : goal.returns
returns c = tap_accounted
