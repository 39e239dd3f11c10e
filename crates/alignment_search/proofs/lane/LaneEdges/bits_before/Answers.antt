use Rattle.std.proofs.Common.{◌∙◌, sym, refl}
use Rattle.alignment_search.proofs.Beginning.{last_of, none_begun, some_begun}
use Rattle.alignment_search.proofs.lane.LaneEdges.bits_before.Goals as goal

pub returns-in-None-begun : goal.returns-in-None-begun
returns-in-None-begun c = λ xs begun.
    none_begun xs c.args.edge (last_of xs c.args.edge c.args.self.now c.in-Some.finder _ c.in-Some.is (sym c.in-None-begun.is ∙ c.begun.ensures) begun)

pub returns-in-Some-begun : goal.returns-in-Some-begun
returns-in-Some-begun c = λ xs begun.
    some_begun xs c.args.edge c.in-Some-begun.begun _ refl (last_of xs c.args.edge c.args.self.now c.in-Some.finder _ c.in-Some.is (sym c.in-Some-begun.is ∙ c.begun.ensures) begun)
