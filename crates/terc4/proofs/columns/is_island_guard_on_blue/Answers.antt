use Rattle.std.proofs.Common.{ap}
use Rattle.terc4.specs.Columns.{is_twelve_or_more}
use Rattle.terc4.proofs.columns.is_island_guard_on_blue.Goals as goal

pub returns-in-Some : goal.returns-in-Some
unfolding is_twelve_or_more
returns-in-Some c = ap is_twelve_or_more c.in-Some.ensures.value

pub returns-in-None : goal.returns-in-None
unfolding is_twelve_or_more
returns-in-None c = ap is_twelve_or_more c.in-None.ensures.value
