use Rattle.capture_file.proofs.Tapped.{tap_is_tap}
use Rattle.capture_file.proofs.laws.tap_is_tap.Goals as goal

pub returns : goal.returns
returns c = tap_is_tap
