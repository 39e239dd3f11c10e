use Rattle.std.proofs.Common.{arith, rules, ◌≡◌, ◌∙◌, sym, None}
use Rattle.std.proofs.lemmas.Slice.Eq.{bytes_eq-Decides}
use Rattle.command_line.proofs.SlipTexts.{digit_reported}
use Rattle.command_line.proofs.Meanings.{no_pair}
use Rattle.command_line.proofs.command.recover_biphase.Goals as goal

pub returns-in_err-number : goal.returns-in_err-number
returns-in_err-number c =
    let none : c.from_residual.result ≡ None = search rules in
    rw none (no_pair c.args.kind.now c.args.pair.now c.requires (sym c.read_digit.ensures ∙ c.in_err-number.was))

pub returns-then-eq : goal.returns-then-eq
returns-then-eq c = grind (arith, digit_reported, bytes_eq-Decides)
