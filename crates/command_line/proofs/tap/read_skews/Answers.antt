use Rattle.command_line.proofs.Taps.{skews_judged}
use Rattle.command_line.proofs.tap.read_skews.Goals as goal

pub returns-in-Some : goal.returns-in-Some
returns-in-Some c = rw c.in-Some.is (skews_judged c.in-Some.text.now c.three_numbers.result c.three_numbers.ensures)
