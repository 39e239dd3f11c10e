use Rattle.std.proofs.Common.{◌≡◌, ◌∙◌, sym, arith, refl, Bor, [], get_or, ◌∷◌}
use Rattle.std.proofs.lemmas.Option.{none-some, same_Some}
use Rattle.command_line.specs.Grammar.{Text, texts}
use Rattle.command_line.proofs.Triples.{number_reported}
use Rattle.command_line.proofs.Meanings.{one_text, no_sample}
use Rattle.command_line.proofs.command.sample_command.Goals as goal

abbrev nothing : Bor Text
nothing = record { ref_ptr = (0, 0); now = [] }

pub returns-in_err-frames : goal.returns-in_err-frames
returns-in_err-frames c = grind (arith, one_text, no_sample, none-some)

pub returns-then-frames-ge-FEWEST_FRAMES : goal.returns-then-frames-ge-FEWEST_FRAMES
returns-then-frames-ge-FEWEST_FRAMES c =
    let one : texts c.args.operands.now ≡ (get_or c.args.operands.now 0 nothing).now ∷ [] = one_text c.args.operands.now nothing (omega arith) (omega arith) in
    (refl, ((get_or c.args.operands.now 0 nothing).now, one, number_reported 20 (get_or c.args.operands.now 0 nothing).now c.in_ok-frames.frames (sym c.read_number.ensures ∙ c.in_ok-frames.was), omega arith), refl)

pub returns-else-frames-ge-FEWEST_FRAMES : goal.returns-else-frames-ge-FEWEST_FRAMES
returns-else-frames-ge-FEWEST_FRAMES c = grind (arith, one_text, no_sample, same_Some)
