use Rattle.std.proofs.Common.{subst, List, IfOk}
use Rattle.clap.specs.Words.{Row, found_of, rows_of}
use Rattle.command_line.specs.Grammar.{Text}
use Rattle.command_line.specs.Forms.{Judges}
use Rattle.command_line.proofs.Judging.{entered_is, not_entered}
use Rattle.command_line.proofs.command.found_command.Goals as goal

pub returns-in-Some : goal.returns-in-Some
returns-in-Some c = λ name rows met.
    let are = entered_is c.args.matches.now c.subcommand.result (c.in-Some.name, c.in-Some.found) name rows c.in-Some.is c.subcommand.ensures.name c.subcommand.ensures.rows met in
    subst (λ (rs : List Row). IfOk c.named_command.result (Judges name rs)) are.1 (subst (λ (n : Text). IfOk c.named_command.result (Judges n (rows_of (found_of c.in-Some.found.now)))) are.0 c.named_command.ensures)

pub returns-in-None : goal.returns-in-None
returns-in-None c = λ name rows met. absurd (not_entered c.args.matches.now c.subcommand.result name rows c.in-None.is c.subcommand.ensures.rows met)
