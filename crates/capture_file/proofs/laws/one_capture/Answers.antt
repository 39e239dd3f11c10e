use Rattle.capture_file.proofs.OneCapture.{one_capture}
use Rattle.capture_file.proofs.laws.one_capture.Goals as goal

pub returns : goal.returns
returns c = one_capture
