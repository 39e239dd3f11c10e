use Rattle.source_end.specs.ItemPeriods.{period_of}
use Rattle.listing_reader.proofs.FramedOpen.{other_last}
use Rattle.listing_reader.proofs.periods.Periods.push.Goals as goal

pub renewed-requires : goal.renewed-requires
renewed-requires g c = other_last c.in_ok-items.items c.push.new.self (period_of c.args.item) c.in_ok-push.ensures.ok c.requires.other
