use Rattle.dvi_laws.proofs.Local.{dvi_line_anywhere}
use Rattle.dvi_laws.proofs.dvi_line_anywhere.Goals as goal

pub returns : goal.returns
returns c = dvi_line_anywhere
