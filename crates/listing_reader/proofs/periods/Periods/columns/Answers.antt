use Rattle.std.proofs.Common.{arith, ap}
use Rattle.listing_reader.proofs.FramedOpen.{framed_open}
use Rattle.listing_reader.proofs.periods.Periods.columns.Goals as goal

pub overflow_add-result : goal.overflow_add-result
overflow_add-result g c =
    omega (arith, framed_open _ _ _ c.lawful.ensures c.self.inside.items c.self.inside.runs, c.columns.ensures.value, c.columns-2.ensures, c.self.invariant.few)

pub returns-clause-value : goal.returns-clause-value
returns-clause-value g c =
    omega (arith, framed_open _ _ _ c.lawful.ensures c.self.inside.items c.self.inside.runs, c.columns.ensures.value, c.columns-2.ensures, c.self.invariant.few, ap g.F.Framing.rules.columns_of c.self.view_is)

pub returns-clause-few : goal.returns-clause-few
returns-clause-few g c =
    omega (arith, framed_open _ _ _ c.lawful.ensures c.self.inside.items c.self.inside.runs, c.columns.ensures.value, c.columns-2.ensures, c.self.invariant.few)
