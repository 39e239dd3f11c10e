use Rattle.std.proofs.Common.{◌≡◌, ◌-◌, length, take}
use Rattle.island_pack.specs.Periods.{values_of}
use Rattle.relay.specs.Changed.{changed_from}
use Rattle.relay.specs.Handed.{Took}
use Rattle.relay.proofs.settling.hand_on_all.Given as goal

-- the columns of the first runs were handed on
abbrev pub invariant-loop-run : goal.invariant-loop-run
invariant-loop-run l =
    Took l.initial.out l.out (changed_from l.ctl l.left (values_of (take l.run-index l.runs))) × (l.rest ≡ l.left - length (values_of (take l.run-index l.runs)))
