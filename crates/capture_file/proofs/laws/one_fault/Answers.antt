use Rattle.capture_file.proofs.OneFault.{one_fault}
use Rattle.capture_file.proofs.laws.one_fault.Goals as goal

pub returns : goal.returns
returns c = one_fault
