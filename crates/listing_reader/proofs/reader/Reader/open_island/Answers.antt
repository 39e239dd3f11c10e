use Rattle.std.proofs.Common.{ap, sym, ◌∙◌}
use Rattle.island_pack.specs.Periods.{DataIsland}
use Rattle.listing_reader.proofs.Islands.{begins}
use Rattle.listing_reader.proofs.Refused.{answers_cause, answers_ok, cause_island}
use Rattle.listing_reader.proofs.reader.Reader.open_island.Goals as goal

pub returns-in-Some-clause-cause : goal.returns-in-Some-clause-cause
returns-in-Some-clause-cause c = answers_cause _ _ c.in-Some.cause (cause_island c.args.self _ _ ∙ sym c.island_cause.ensures ∙ c.in-Some.is)

pub invariant_of-reader : goal.invariant_of-reader
invariant_of-reader c =
    let r = c.reader.inside in
    begins r.periods r.island c.args.self _ _ c.new.result c.reader.view_is (sym c.island_cause.ensures ∙ c.in_default.is)
    (ap (λ (x : DataIsland). x.opening) c.new.ensures) (ap (λ (x : DataIsland). x.packets) c.new.ensures)

pub returns-clause-cause : goal.returns-clause-cause
returns-clause-cause c = answers_ok _ _ (cause_island c.args.self _ _ ∙ sym c.island_cause.ensures ∙ c.in_default.is)
