use Rattle.std.proofs.Common.{arith}
use Rattle.track_sink.specs.Epochs.{rest_of}
use Rattle.track_sink.proofs.Handing.{are_held}
use Rattle.track_sink.proofs.Settling.{can_look, found_next}
use Rattle.track_sink.proofs.follower.Follower.next_end.Goals as goal

pub next_end-requires : goal.next_end-requires
next_end-requires g c =
    let fed = c.requires.looked.0 in
    let t = c.args.self.now.tracker in
    let carries = c.requires.looked.1 in
    let looked = c.requires.looked.2 in
    let room = can_look t fed carries in
    record {
      lent = (rest_of t.start fed, c.lent.ensures.lent (rest_of t.start fed) (are_held t fed carries) room.0 room.1, looked.looked_at);
      from = let after = looked.after in let e = c.lent.ensures.base in omega arith;
    }

pub returns-clause-found : goal.returns-clause-found
returns-clause-found g c = λ fed carries looked.
    let t = c.args.self.now.tracker in
    let room = can_look t fed carries in
    let lent = c.lent.ensures.lent (rest_of t.start fed) (are_held t fed carries) room.0 room.1 in
    found_next g.met.W.Watch.is_watch t c.args.self.now.watch c.next_end.new.self fed c.next_end.result carries looked (c.next_end.ensures.found (rest_of t.start fed) lent looked.looked_at) c.next_end.ensures.rises
