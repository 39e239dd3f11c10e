use Rattle.std.proofs.Common.{arith, ◌∙◌, sym, map}
use Rattle.source_end.specs.ItemPeriods.{period_of}
use Rattle.source_end.specs.Refusals.{last_period, is_control_last, is_long_enough}
use Rattle.source_end.proofs.Faults.{close_fault_is, close_order, close_control, close_none}
use Rattle.source_end.proofs.follow.end_fault.Goals as goal

pub returns-then-not-is_control_last : goal.returns-then-not-is_control_last
returns-then-not-is_control_last c =
    let last = last_period (map period_of c.args.items.now) in
    sym (close_fault_is (map period_of c.args.items.now) ∙ close_order (is_control_last last) (is_long_enough last) (sym c.is_control_last.ensures ∙ c.if-not-is_control_last.true))

pub returns-then-not-is_long_enough : goal.returns-then-not-is_long_enough
returns-then-not-is_long_enough c = grind (arith, close_fault_is, close_control)

pub returns-else-not-is_long_enough : goal.returns-else-not-is_long_enough
returns-else-not-is_long_enough c = grind (arith, close_fault_is, close_none)
