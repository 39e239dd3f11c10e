use Rattle.std.proofs.Common.{arith}
use Rattle.std.proofs.lemmas.List.Folds.{list_all_more}
use Rattle.std.proofs.lemmas.Grind.{common_steps}
use Rattle.listing_reader.proofs.Feeds.{both}
use Rattle.listing_reader.proofs.Numbers.{digits_more, more_below}
use Rattle.listing_reader.proofs.form.number.Goals as goal

pub loop-digit-preserved : goal.loop-digit-preserved
loop-digit-preserved c = grind (arith, common_steps, list_all_more, both, digits_more, more_below)
