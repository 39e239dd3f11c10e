use Rattle.std.proofs.Common.{rules, ◌≡◌, ◌∙◌, sym, refl, None}
use Rattle.command_line.proofs.Triples.{number_reported}
use Rattle.command_line.proofs.Taps.{no_number}
use Rattle.command_line.proofs.tap.read_limit.Goals as goal

pub returns-in_err-read_number-in-Some : goal.returns-in_err-read_number-in-Some
returns-in_err-read_number-in-Some c =
    let none : c.from_residual.result ≡ None = search rules in
    rw (none, c.in-Some.is) (λ limit are. no_number 4294967295 c.in-Some.text.now are.0 (sym c.read_number.ensures ∙ c.in_err-read_number-in-Some.was) are.1)

pub returns-in_ok-read_number-in-Some : goal.returns-in_ok-read_number-in-Some
returns-in_ok-read_number-in-Some c =
    rw c.in-Some.is (c.in_ok-read_number-in-Some.field-0, number_reported 4294967295 c.in-Some.text.now c.in_ok-read_number-in-Some.field-0 (sym c.read_number.ensures ∙ c.in_ok-read_number-in-Some.was), refl)
