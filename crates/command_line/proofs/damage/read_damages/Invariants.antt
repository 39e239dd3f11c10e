use Rattle.std.proofs.Common.{take, length, ◌≡◌}
use Rattle.command_line.specs.Damages.{AreDamages}
use Rattle.command_line.specs.Grammar.{texts}
use Rattle.command_line.proofs.damage.read_damages.Given as goal

abbrev pub invariant-loop-word : goal.invariant-loop-word
invariant-loop-word l = record {
  are : AreDamages (texts (take l.word-index l.words)) l.list.items;
  count : length l.list.items ≡ l.word-index;
}
