use Rattle.std.proofs.Common.{◌≤◌, ◌∙◌, sym, refl, arith, None}
use Rattle.std.proofs.lemmas.Bool.{ltb-true, ltb-false}
use Rattle.island_pack.specs.Periods.{period_columns}
use Rattle.island_pack.specs.declared.ranges.TheConstants.{COLUMN_LIMIT}
use Rattle.relay.specs.Relayed.{a_line, ended}
use Rattle.relay.specs.Sizes.{size}
use Rattle.relay.specs.Standing.{IsAt}
use Rattle.relay.specs.declared.relaying.Relay.{Relay}
use Rattle.relay.proofs.Growing.{size_ended}
use Rattle.relay.proofs.Going.{at_ended, wanting_steps}
use Rattle.relay.proofs.relaying.Relay.line.Goals as goal

pub returns-then-is_long-clause-steps : goal.returns-then-is_long-clause-steps
unfolding period_columns
returns-then-is_long-clause-steps c t b good h = grind (arith, size_ended, ltb-true)

pub returns-in_err-settle-clause-steps : goal.returns-in_err-settle-clause-steps
unfolding period_columns
returns-in_err-settle-clause-steps c t b good h =
    let d = a_line c.args.pixels.now in
    let n = h.period_columns in
    let m = h.columns in
    let s = size_ended t d in
    let l = ltb-false _ _ (sym c.is_long.ensures ∙ c.if-is_long.false) in
    let k = c.line_columns-columns.ensures in
    wanting_steps c.settle.new.self c.from_residual.result (ended t d) None good c.from_residual.ensures.1 (omega arith)

pub returns-in_err-row-clause-steps : goal.returns-in_err-row-clause-steps
unfolding period_columns
returns-in_err-row-clause-steps c t b good h =
    let d = a_line c.args.pixels.now in
    let n = h.period_columns in
    let m = h.columns in
    let s = size_ended t d in
    let l = ltb-false _ _ (sym c.is_long.ensures ∙ c.if-is_long.false) in
    let k = c.line_columns-columns.ensures in
    wanting_steps (record { whole = c.row.new.self; period = c.settle.new.self.period; period_columns = c.settle.new.self.period_columns; columns = c.settle.new.self.columns; island = c.settle.new.self.island; faulty = c.settle.new.self.faulty; trouble = c.settle.new.self.trouble; faults = c.settle.new.self.faults }) c.from_residual-in_err-row.result (ended t d) None good c.from_residual-in_err-row.ensures.1 (omega arith)

pub returns-clause-steps : goal.returns-clause-steps
unfolding period_columns
returns-clause-steps c t b good h =
    let old : Relay = record { whole = c.args.self.now.whole; period = c.args.self.now.period; period_columns = c.args.self.now.period_columns; columns = c.args.self.now.columns; island = None; faulty = c.args.self.now.faulty; trouble = c.args.self.now.trouble; faults = c.args.self.now.faults } in
    let at : IsAt old t None good = record { whole = h.whole; period = h.period; period_columns = h.period_columns; columns = h.columns; few = h.few; island = refl; fits = tt; faulty = h.faulty } in
    let d = a_line c.args.pixels.now in
    let n = h.period_columns in
    let m = h.columns in
    let s = size_ended t d in
    let l = ltb-false _ _ (sym c.is_long.ensures ∙ c.if-is_long.false) in
    let k = c.line_columns-columns.ensures in
    let settled = c.in_ok-settle.ensures.settled t None good at in
    let mid = c.settle.new.self in
    let now : Relay = record { whole = c.row.new.self; period = mid.period; period_columns = mid.period_columns; columns = c.saturating_add-self.result; island = mid.island; faulty = mid.faulty; trouble = mid.trouble; faults = mid.faults } in
    let few : size (ended t d) ≤ COLUMN_LIMIT = omega arith in
    (at_ended old mid now t d good c.line_columns-columns.result (omega arith) settled at.faulty at.island few (c.in_ok-row.ensures _ settled.whole) refl refl c.saturating_add-self.ensures refl refl, tt)
