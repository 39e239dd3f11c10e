use Rattle.std.proofs.Common.{refl}
use Rattle.source_end.specs.declared.item.Item.TheVariants.{Island}
use Rattle.source_end.proofs.Gathered.{island_held}
use Rattle.source_end.proofs.gathering.Gathering.island.Goals as goal

pub returns : goal.returns
returns c parts h =
    island_held c.args.self.now.items.items c.close.new.self.items.items c.push.new.self.items c.args.self.now.period c.close.new.self.period parts h c.in_ok-close.ensures.items c.args.island (Island c.args.island) refl c.in_ok-push.ensures.items c.in_ok-close.ensures.period
