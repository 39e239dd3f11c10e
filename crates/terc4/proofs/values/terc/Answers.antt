use Rattle.std.proofs.Common.{◌∙◌}
use Rattle.terc4.proofs.Entries.{terc_word_is}
use Rattle.terc4.proofs.values.terc.Goals as goal

pub returns : goal.returns
returns c = c.of.ensures ∙ c.terc_word.ensures ∙ terc_word_is c.args.value
