use Rattle.alignment_search.proofs.Looking.{is_locked, reach_held, can_look, passed_by}
use Rattle.alignment_search.proofs.lane.LaneEdges.edge_from.Goals as goal

pub returns-in-Some-not_before-clause-reached : goal.returns-in-Some-not_before-clause-reached
returns-in-Some-not_before-clause-reached c = λ xs low was part reached can.
    let held = c.in-Some-not_before.ensures in
    reach_held xs low was c.args.from c.args.limit c.args.base c.args.self.now c.in-Some.finder c.in-Some-not_before.edge c.in-Some.is held.0 held.1 can reached

pub returns-in-None-not_before-clause-reached : goal.returns-in-None-not_before-clause-reached
returns-in-None-not_before-clause-reached c = λ xs low was part reached can.
    let lane = c.args.self.now in
    let finder = c.in-Some.finder in
    let locked = is_locked xs low was c.args.from c.args.limit c.args.base lane finder c.in-Some.is reached in
    c.look_on.ensures.found xs locked.lock part (can_look xs low was c.args.from c.args.limit c.args.base finder lane.edge locked.found can) locked.scanned
    (passed_by xs low was c.args.from c.args.base finder.next lane.edge locked.found c.in-None-not_before.ensures can.order)
