use Rattle.std.proofs.Common.{rules, ◌≡◌, refl, codes}
use Rattle.std.proofs.Common.{sym}
use Rattle.clap.specs.Words.{found_of, rows_of}
use Rattle.command_line.specs.Grammar.{texts}
use Rattle.command_line.proofs.Judging.{make_judged, plain_judged, plain_answered, not_make}
use Rattle.command_line.proofs.command.asked_command.Goals as goal

pub returns-then-eq : goal.returns-then-eq
returns-then-eq c = λ has.
    let named : c.args.name.now ≡ codes "make" = search rules in
    make_judged c.make_command.result c.args.name.now (rows_of (found_of c.args.matches.now)) (texts c.args.operands.now) named has c.make_command.ensures

pub returns-then-eq-2 : goal.returns-then-eq-2
returns-then-eq-2 c = λ has.
    let named : c.args.name.now ≡ codes "damage" = search rules in
    plain_answered c.damage_command.result c.args.name.now (codes "damage") (rows_of (found_of c.args.matches.now)) (texts c.args.operands.now) (sym named)
    (not_make c.args.name.now (codes "damage") named refl) has c.damage_command.ensures

pub returns-else-eq-2 : goal.returns-else-eq-2
returns-else-eq-2 c = λ has.
    let other : c.args.name.now ≡ codes "make" → ⊥ = search rules in
    plain_judged c.plain_command.result c.args.name.now c.args.name.now (rows_of (found_of c.args.matches.now)) (texts c.args.operands.now) refl
    other has c.plain_command.ensures
