use Rattle.command_line.proofs.Triples.{number_judged}
use Rattle.command_line.proofs.tap.read_offset.Goals as goal

pub returns-in-Some : goal.returns-in-Some
returns-in-Some c = rw c.in-Some.is (number_judged 4294967295 c.in-Some.text.now c.read_number.result c.read_number.ensures)
