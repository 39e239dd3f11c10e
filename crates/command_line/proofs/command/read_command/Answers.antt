use Rattle.std.proofs.Common.{◌∙◌, map, string_bytes}
use Rattle.command_line.proofs.Deciding.{accepted, answered, refused}
use Rattle.command_line.proofs.command.read_command.Goals as goal

pub returns-in-Some : goal.returns-in-Some
returns-in-Some c =
    let parsed = rw c.in-Some.is at c.in_ok-matches.ensures in
    let a = accepted (map string_bytes c.args.words.now) parsed.0 in
    answered (map string_bytes c.args.words.now) a c.found_command.result (c.found_command.ensures a.name a.rows (parsed.1 ∙ a.rows_are))

pub returns-in-None : goal.returns-in-None
returns-in-None c = λ command k. refused (map string_bytes c.args.words.now) command k (rw c.in-None.is at c.in_ok-matches.ensures)
