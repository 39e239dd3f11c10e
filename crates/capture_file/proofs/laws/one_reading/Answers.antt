use Rattle.capture_file.proofs.OneFault.{one_reading}
use Rattle.capture_file.proofs.laws.one_reading.Goals as goal

pub returns : goal.returns
returns c = one_reading
