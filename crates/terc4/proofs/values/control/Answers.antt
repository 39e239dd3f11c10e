use Rattle.std.proofs.Common.{◌∙◌}
use Rattle.terc4.proofs.Entries.{control_word_is}
use Rattle.terc4.proofs.values.control.Goals as goal

pub returns : goal.returns
returns c = c.of.ensures ∙ c.control_word.ensures ∙ control_word_is c.args.value
