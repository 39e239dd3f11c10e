-- The period that an item is.
use Rattle.island_pack.specs.Periods.{Period, control, video, island}
use Rattle.source_end.specs.declared.item.Item.{Item}
use Rattle.source_end.specs.declared.item.Item.TheVariants.{Control, Video, Island}

abbrev pub period_of : Item → Period
period_of (Control runs) = control runs
period_of (Video bytes) = video bytes
period_of (Island x) = island x
