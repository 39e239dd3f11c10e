use Rattle.alignment_search.proofs.Looking.{bound_some, bound_none}
use Rattle.alignment_search.proofs.lane.LaneEdges.look_on.Goals as goal

pub returns-in-Some-clause-found : goal.returns-in-Some-clause-found
returns-in-Some-clause-found c = λ xs lock part can was none.
    let found = c.next_edge-found.ensures.found xs lock part can was none in
    let here = c.in-Some.ensures.found xs lock part can was none in
    (record { lock = lock; scanned = found.0; found = found.1 }, bound_some xs c.args.from c.args.limit c.next_edge-found.new.finder.next c.in-Some.edge here.1)

pub returns-in-None-clause-found : goal.returns-in-None-clause-found
returns-in-None-clause-found c = λ xs lock part can was none.
    let found = c.next_edge-found.ensures.found xs lock part can was none in
    let here = c.in-None.ensures.found xs lock part can was none in
    (record { lock = lock; scanned = found.0; found = found.1 }, bound_none xs c.args.from c.args.limit c.next_edge-found.new.finder.next here.1)
