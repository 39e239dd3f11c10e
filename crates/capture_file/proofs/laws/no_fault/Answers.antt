use Rattle.capture_file.proofs.OneCapture.{no_fault}
use Rattle.capture_file.proofs.laws.no_fault.Goals as goal

pub returns : goal.returns
returns c = no_fault
