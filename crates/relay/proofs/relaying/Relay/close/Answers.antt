use Rattle.std.proofs.Common.{arith, ◌≡◌, Some, None, sym, ◌∙◌}
use Rattle.source_end.specs.Pairs.{pair_of}
use Rattle.relay.specs.declared.relaying.Relay.{Relay}
use Rattle.relay.specs.Standing.{IsAt, held}
use Rattle.relay.proofs.Going.{closed_steps, closed_none}
use Rattle.relay.proofs.relaying.Relay.close.Goals as goal

pub returns-in-Some-clause-steps : goal.returns-in-Some-clause-steps
returns-in-Some-clause-steps c t b good h =
    let old : Relay = record { whole = c.args.self.now.whole; period = c.args.self.now.period; period_columns = c.args.self.now.period_columns; columns = c.args.self.now.columns; island = c.take.new.self; faulty = c.args.self.now.faulty; trouble = c.args.self.now.trouble; faults = c.args.self.now.faults } in
    let at : IsAt old t None good = record { whole = h.whole; period = h.period; period_columns = h.period_columns; columns = h.columns; few = h.few; island = c.take.ensures.after; fits = tt; faulty = h.faulty } in
    let x = c.in-Some.island in
    let e : Some x ≡ held b = sym c.in-Some.is ∙ c.take.ensures.value ∙ h.island in
    closed_steps c.close_island.new.self c.close_island.result t b good x (pair_of c.args.sync) e h.fits c.requires (λ none. c.close_island.ensures.empty none t good at) (λ some few. c.close_island.ensures.some some few t good at)

pub returns-in-None-clause-steps : goal.returns-in-None-clause-steps
returns-in-None-clause-steps c t b good h = grind (arith, closed_none)
