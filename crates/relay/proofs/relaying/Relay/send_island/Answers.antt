use Rattle.std.proofs.Common.{◌≤◌, ◌∙◌, sym, refl, arith, None}
use Rattle.std.proofs.lemmas.Bool.{ltb-true, ltb-false}
use Rattle.island_pack.specs.Periods.{period_columns}
use Rattle.island_pack.specs.declared.ranges.TheConstants.{COLUMN_LIMIT}
use Rattle.relay.specs.Relayed.{an_island, ended}
use Rattle.relay.specs.Sizes.{size}
use Rattle.relay.specs.declared.relaying.Relay.{Relay}
use Rattle.relay.proofs.Growing.{size_ended}
use Rattle.relay.proofs.Going.{at_ended, wanting_steps}
use Rattle.relay.proofs.relaying.Relay.send_island.Goals as goal

pub returns-then-is_long-clause-steps : goal.returns-then-is_long-clause-steps
unfolding period_columns
returns-then-is_long-clause-steps c eighteen t good h = grind (arith, size_ended, ltb-true)

pub returns-in_err-settle-clause-steps : goal.returns-in_err-settle-clause-steps
unfolding period_columns
returns-in_err-settle-clause-steps c eighteen t good h =
    let d = an_island c.args.island in
    let n = h.period_columns in
    let m = h.columns in
    let s = size_ended t d in
    let l = ltb-false _ _ (sym c.is_long.ensures ∙ c.if-is_long.false) in
    let k = c.island_columns-columns.ensures in
    wanting_steps c.settle.new.self c.from_residual.result (ended t d) None good c.from_residual.ensures.1 (omega arith)

pub returns-in_err-island-clause-steps : goal.returns-in_err-island-clause-steps
unfolding period_columns
returns-in_err-island-clause-steps c eighteen t good h =
    let d = an_island c.args.island in
    let n = h.period_columns in
    let m = h.columns in
    let s = size_ended t d in
    let l = ltb-false _ _ (sym c.is_long.ensures ∙ c.if-is_long.false) in
    let k = c.island_columns-columns.ensures in
    wanting_steps (record { whole = c.island-2.new.self; period = c.settle.new.self.period; period_columns = c.settle.new.self.period_columns; columns = c.settle.new.self.columns; island = c.settle.new.self.island; faulty = c.settle.new.self.faulty; trouble = c.settle.new.self.trouble; faults = c.settle.new.self.faults }) c.from_residual-in_err-island.result (ended t d) None good c.from_residual-in_err-island.ensures.1 (omega arith)

pub returns-clause-steps : goal.returns-clause-steps
unfolding period_columns
returns-clause-steps c eighteen t good h =
    let old = c.args.self.now in
    let at = h in
    let d = an_island c.args.island in
    let n = h.period_columns in
    let m = h.columns in
    let s = size_ended t d in
    let l = ltb-false _ _ (sym c.is_long.ensures ∙ c.if-is_long.false) in
    let k = c.island_columns-columns.ensures in
    let settled = c.in_ok-settle.ensures.settled t None good at in
    let mid = c.settle.new.self in
    let now : Relay = record { whole = c.island-2.new.self; period = mid.period; period_columns = mid.period_columns; columns = c.saturating_add-self.result; island = mid.island; faulty = mid.faulty; trouble = mid.trouble; faults = mid.faults } in
    let few : size (ended t d) ≤ COLUMN_LIMIT = omega arith in
    (at_ended old mid now t d good c.island_columns-columns.result (omega arith) settled at.faulty at.island few (c.in_ok-island.ensures _ settled.whole) refl refl c.saturating_add-self.ensures refl refl, tt)
