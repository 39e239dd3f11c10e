use Rattle.std.proofs.Common.{rules, ◌≡◌, ◌∙◌, sym, ap, arith, None, Some}
use Rattle.command_line.proofs.Triples.{number_reported}
use Rattle.command_line.proofs.Taps.{no_number, other_version}
use Rattle.command_line.proofs.tap.read_version.Goals as goal

pub returns-in_err-read_number-in-Some : goal.returns-in_err-read_number-in-Some
returns-in_err-read_number-in-Some c =
    let none : c.from_residual.result ≡ None = search rules in
    rw (none, c.in-Some.is) (λ n are. no_number 2 c.in-Some.text.now n (sym c.read_number.ensures ∙ c.in_err-read_number-in-Some.was) are.0)

pub returns-in-1 : goal.returns-in-1
returns-in-1 c = rw c.in-Some.is (number_reported 2 c.in-Some.text.now 1 (sym c.read_number.ensures ∙ c.in_ok-read_number-in-Some.was ∙ ap Some c.in-1.is), omega arith)

pub returns-in-2 : goal.returns-in-2
returns-in-2 c = rw c.in-Some.is (number_reported 2 c.in-Some.text.now 2 (sym c.read_number.ensures ∙ c.in_ok-read_number-in-Some.was ∙ ap Some c.in-2.is), omega arith)

pub returns-in_default : goal.returns-in_default
returns-in_default c = rw c.in-Some.is (other_version c.in-Some.text.now c.in_ok-read_number-in-Some.field-0 (sym c.read_number.ensures ∙ c.in_ok-read_number-in-Some.was) (search rules) (search rules))
