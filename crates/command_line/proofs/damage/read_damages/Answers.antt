use Rattle.std.proofs.Common.{arith, ◌∙◌, sym, [], List, Bor, ℕ}
use Rattle.command_line.proofs.DamageTexts.{damage_there, damages_more}
use Rattle.command_line.proofs.damage.read_damages.Goals as goal

abbrev nothing : Bor (List ℕ)
nothing = record { ref_ptr = (0, 0); now = [] }

pub returns-in-None : goal.returns-in-None
returns-in-None c = λ damages are some.
    damage_there c.args.words.now c.loop-word.word-index nothing (damages, are) c.loop-word-test.true (sym c.read_damage.ensures ∙ c.in-None.is)

pub loop-word-preserved : goal.loop-word-preserved
loop-word-preserved c = grind (arith, damages_more)
